use Rattle.std.proofs.Common.{◌-◌, ◌<◌, length}
use Rattle.rsc_engine.specs.RowsLayout.{machine}
use Rattle.rsc_engine.specs.BackwardLayout.{IsSource}
use Rattle.rsc_engine.proofs.RetreatLemmas.{IsListed}
use Rattle.rsc_engine.proofs.dfa.retreat.sources.Given as goal

abbrev pub invariant-states : goal.invariant-states
invariant-states g l = IsListed (length l.program.automaton.states)
    (λ s. (0 < l.at) × IsSource (machine g.W.WordClass.word_chars l.program) l.input.haystack (l.at - 1) l.marks.items s) l.list.items l.index
