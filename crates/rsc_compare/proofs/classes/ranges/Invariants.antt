use Rattle.std.proofs.Common.{◌≤◌, All}
use Rattle.rsc_compare.proofs.classes.ranges.Given as goal

-- each range so far has its first byte at most its last
abbrev pub invariant-loop : goal.invariant-loop
invariant-loop l = All (λ r. r.0 ≤ r.1) l.ranges.items
