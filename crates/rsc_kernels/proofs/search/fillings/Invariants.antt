use Rattle.std.proofs.Common.{◌≡◌}
use Rattle.rsc_kernels.proofs.search.fillings.Given as goal

abbrev pub invariant-loop : goal.invariant-loop
invariant-loop l = l.set.capacity ≡ l.fn.set.capacity
