use Rattle.rsc_engine.specs.Searches.{search_in}
use Rattle.rsc_engine.proofs.NeededLayoutLemmas.{none_without}
use Rattle.rsc_engine.proofs.dfa.needed.Needed.are_missing.Goals as goal

pub returns : goal.returns
returns g c = λ is.
    none_without (search_in g.W.WordClass.word_chars c.args.program.now c.args.input.now) c.args.self.now.first c.args.self.now.second c.requires
    (rw (c.haystack.ensures.value, c.start.ensures.value, c.end.ensures.value) at c.stand_in.ensures c.if-stand_in.false)
