use Rattle.std.proofs.Common.{ℕ, List, ◌++◌, take}
use Rattle.rsc_engine.specs.AlongLayout.{AreRecordsTo, all_at}
use Rattle.rsc_engine.proofs.dfa.along.record.Given as goal

-- what the states so far record was written
abbrev pub invariant-trail : goal.invariant-trail
invariant-trail g l = (front : List (ℕ × ℕ)) → AreRecordsTo l.program.automaton.states front l.fn.slots
    → AreRecordsTo l.program.automaton.states (front ++ all_at l.at (take l.k l.trail)) l.slots
