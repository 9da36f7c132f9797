use Rattle.std.proofs.Common.{ℕ, take, Contains}
use Rattle.rsc_show.specs.Ranges.{BoundsRange}
use Rattle.rsc_show.proofs.witness.range_at.Given as goal

-- no range so far has a boundary there
abbrev pub invariant-loop-start : goal.invariant-loop-start
invariant-loop-start l = (r : ℕ × ℕ) → Contains (take l.start-index l.ranges) r → ¬ (BoundsRange l.byte r)
