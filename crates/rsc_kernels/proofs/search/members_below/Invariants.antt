use Rattle.std.proofs.Common.{◌<◌, All}
use Rattle.rsc_kernels.proofs.search.members_below.Given as goal

abbrev pub invariant-loop-id : goal.invariant-loop-id
invariant-loop-id l = All (λ p. p < l.capacity) l.members.items
