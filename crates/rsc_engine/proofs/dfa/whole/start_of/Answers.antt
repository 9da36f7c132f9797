use Rattle.std.proofs.Common.{◌∙◌}
use Rattle.rsc_engine.specs.Searches.{search_in}
use Rattle.rsc_engine.proofs.BackwardLemmas.{start-anchored}
use Rattle.rsc_engine.proofs.dfa.whole.start_of.Goals as goal

pub returns-then-is_anchored-clause-start : goal.returns-then-is_anchored-clause-start
returns-then-is_anchored-clause-start g c =
    rw c.start.ensures.value
    (start-anchored (search_in g.W.WordClass.word_chars c.args.plan.now.program.now c.args.input.now) c.args.pattern c.args.end c.requires.end
    (λ is. c.is_anchored.ensures.0 c.if-is_anchored.true (c.get_anchored.ensures ∙ is)))
