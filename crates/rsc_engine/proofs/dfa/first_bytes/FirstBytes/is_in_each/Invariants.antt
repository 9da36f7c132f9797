use Rattle.std.proofs.Common.{◌≡◌, true}
use Rattle.rsc_engine.specs.RowsLayout.{IsMarked}
use Rattle.rsc_engine.specs.FirstBytesLayout.{BeginIn}
use Rattle.rsc_engine.proofs.dfa.first_bytes.FirstBytes.is_in_each.Given as goal

-- the start state is marked, and the states so far lead on as they must
abbrev pub invariant-states : goal.invariant-states
invariant-states g l = l.all ≡ true → IsMarked l.marks l.program.start × BeginIn l.index l.program.automaton.states l.self.range l.marks
