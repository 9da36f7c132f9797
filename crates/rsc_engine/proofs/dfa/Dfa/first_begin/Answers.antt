use Rattle.rsc_engine.specs.Searches.{search_in}
use Rattle.rsc_engine.proofs.FirstBytesLayoutLemmas.{none_begins}
use Rattle.rsc_engine.proofs.dfa.Dfa.first_begin.Goals as goal

pub returns-in-Some-clause-none : goal.returns-in-Some-clause-none
returns-in-Some-clause-none g c = λ at low below.
    none_begins (search_in g.W.WordClass.word_chars c.args.self.now c.args.input.now) c.in-Some.first.range
    (rw (c.in-Some.is, c.self.view_is) at c.self.invariant.5) at
    (λ _. (rw (c.haystack.ensures.value, c.start-start.ensures.value) at c.next_in.ensures.none) at low below)
