use Rattle.std.proofs.Common.{◌≡◌}
use Rattle.rsc_kernels.proofs.search.refused.Given as goal

abbrev pub invariant-loop-id : goal.invariant-loop-id
invariant-loop-id l = l.set.capacity ≡ l.initial.set.capacity
