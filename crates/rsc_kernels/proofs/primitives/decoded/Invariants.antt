use Rattle.std.proofs.Common.{ℕ, length}
use Rattle.rsc_kernels.proofs.primitives.decoded.Given as goal

abbrev pub decreases-steps : goal.decreases-steps
decreases-steps l = length l.rest
