use Rattle.std.proofs.Common.{◌≤◌, All}
use Rattle.rsc_commands.proofs.ranges.ranges_of.Given as goal

-- each range so far has its first byte at most its last
abbrev pub invariant-loop-token : goal.invariant-loop-token
invariant-loop-token g l = All (λ r. r.0 ≤ r.1) l.ranges.items
