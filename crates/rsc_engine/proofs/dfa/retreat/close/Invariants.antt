use Rattle.std.proofs.Common.{not, count_by, length}
use Rattle.rsc_engine.specs.Searches.{search_in}
use Rattle.rsc_engine.proofs.RetreatLemmas.{IsClosing}
use Rattle.rsc_engine.proofs.dfa.retreat.close.Given as goal

abbrev pub invariant-passes : goal.invariant-passes
invariant-passes g l =
    IsClosing (search_in g.W.WordClass.word_chars l.program l.input) l.at (length l.program.automaton.states) l.initial.marks.items l.marks.items

abbrev pub decreases-passes : goal.decreases-passes
decreases-passes g l = count_by not l.marks.items
