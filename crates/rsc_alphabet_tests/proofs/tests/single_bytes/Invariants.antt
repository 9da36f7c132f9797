use Rattle.std.proofs.Common.{◌≤◌, All}
use Rattle.rsc_alphabet_tests.proofs.tests.single_bytes.Given as goal

-- each range so far has its first byte at most its last
abbrev pub invariant-loop-byte : goal.invariant-loop-byte
invariant-loop-byte l = All (λ r. r.0 ≤ r.1) l.ranges.items
