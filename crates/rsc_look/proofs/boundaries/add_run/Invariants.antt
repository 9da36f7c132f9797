use Rattle.std.proofs.Common.{◌≡◌, ◌&&◌, ◌||◌, ℕ, nat_le, nat_lt}
use Rattle.std.specs.FinSet as sets
use Rattle.rsc_look.proofs.boundaries.add_run.Given as goal

-- the bytes from `start` up to `byte` were made members
abbrev pub invariant-loop-byte : goal.invariant-loop-byte
invariant-loop-byte l = (b : ℕ) → sets.contains l.bytes b ≡ ((nat_le l.start b && nat_lt b l.byte) || sets.contains l.fn.bytes b)
