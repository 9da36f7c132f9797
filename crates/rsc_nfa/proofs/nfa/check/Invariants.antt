use Rattle.std.proofs.Common.{◌≡◌, ℕ, ◌<◌, None}
use Rattle.rsc_nfa.specs.StateFaults.{fault_at}
use Rattle.rsc_nfa.proofs.nfa.check.Given as goal

-- no state so far has a fault
abbrev pub invariant-loop-s : goal.invariant-loop-s
invariant-loop-s g l = (k : ℕ) → k < l.s → fault_at l.group_info l.states k ≡ None
