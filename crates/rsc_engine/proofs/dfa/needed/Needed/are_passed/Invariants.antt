use Rattle.std.proofs.Common.{◌≡◌, true, length}
use Rattle.rsc_engine.specs.NeededLayout.{PassMarksOn}
use Rattle.rsc_engine.proofs.dfa.needed.Needed.are_passed.Given as goal

-- the states so far are passed
abbrev pub invariant-states : goal.invariant-states
invariant-states g l = record {
  len : length l.marks ≡ 128;
  passed : l.all ≡ true → PassMarksOn l.k l.program.automaton.states l.self.first l.self.second l.marks;
}
