use Rattle.std.proofs.Common.{take}
use Rattle.rsc_nfa.proofs.NfaLemmas.{HasLooks}
use Rattle.rsc_nfa.proofs.nfa.Nfa.looks.Given as goal

-- the set has the assertions of the states so far
abbrev pub invariant-loop-state : goal.invariant-loop-state
invariant-loop-state g l = HasLooks l.looks (take l.state-index l.self.states)
