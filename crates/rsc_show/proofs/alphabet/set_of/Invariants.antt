use Rattle.std.proofs.Common.{◌≡◌, ◌<◌, ℕ, true, take}
use Rattle.std.specs.FinSet as sets
use Rattle.rsc_show.specs.Ranges.{HasBoundary, PartsRanges}
use Rattle.rsc_show.proofs.alphabet.set_of.Given as goal

-- the set has the boundaries of the ranges so far, and no others
abbrev pub invariant-loop-start : goal.invariant-loop-start
invariant-loop-start l = PartsRanges (sets.contains l.set) (take l.start-index l.ranges)
    × ((b : ℕ) → b < 255 → sets.contains l.set b ≡ true → HasBoundary b (take l.start-index l.ranges))
