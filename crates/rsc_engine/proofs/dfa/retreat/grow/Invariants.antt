use Rattle.std.proofs.Common.{length}
use Rattle.rsc_engine.specs.Searches.{search_in}
use Rattle.rsc_engine.proofs.RetreatLemmas.{IsGrown}
use Rattle.rsc_engine.proofs.dfa.retreat.grow.Given as goal

abbrev pub invariant-states : goal.invariant-states
invariant-states g l =
    IsGrown (search_in g.W.WordClass.word_chars l.program l.input) l.at (length l.program.automaton.states) l.initial.marks.items l.marks.items l.grew l.index
