use Rattle.std.proofs.Common.{◌-◌, length}
use Rattle.rsc_uses.proofs.search.follow.Given as goal

abbrev pub decreases-loop-at : goal.decreases-loop-at
decreases-loop-at l = l.met.capacity - length l.met.members
