use Rattle.std.proofs.Common.{ap, ◌∙◌}
use Rattle.std.specs.FinSet as sets
use Rattle.rsc_look.proofs.Prelude.{contains-joined, boundaries_of_look}
use Rattle.rsc_look.proofs.KeepingLemmas.{HasNeededBoundaries-from}
use Rattle.rsc_look.proofs.matcher.LookMatcher.add_to_byteset.Goals as goal

pub returns-clause-members : goal.returns-clause-members
returns-clause-members g c = rw (← c.get_line_terminator.ensures)
    (λ b. ap (λ s. sets.contains s b) c.add_boundaries.ensures ∙ contains-joined c.args.set.now (boundaries_of_look c.args.look c.get_line_terminator.result) b)

pub returns-clause-boundaries : goal.returns-clause-boundaries
returns-clause-boundaries g c =
    rw (← c.get_line_terminator.ensures) (HasNeededBoundaries-from c.args.set.now c.add_boundaries.new.set c.args.look c.get_line_terminator.result
    (g.W.WordClass.word_chars c.args.self.now.1) c.add_boundaries.ensures)
