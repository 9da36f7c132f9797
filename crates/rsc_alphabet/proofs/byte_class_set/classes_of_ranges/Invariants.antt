use Rattle.std.proofs.Common.{◌≡◌, ℕ, ◌<◌, take}
use Rattle.std.specs.FinSet as sets
use Rattle.rsc_alphabet.specs.Ranges.{has_boundary}
use Rattle.rsc_alphabet.proofs.byte_class_set.classes_of_ranges.Given as goal

-- the boundaries so far are those of the ranges so far
abbrev pub invariant-loop-start : goal.invariant-loop-start
invariant-loop-start l = (k : ℕ) → k < 255 → sets.contains l.partition k ≡ has_boundary (take l.start-index l.ranges) k
