-- Partitions of the bytes into intervals.
-- A partition is a set of boundaries, numbers from 0 to 254: the boundary k separates the byte k from the byte k + 1.
-- It is given by a test p, which is asked of these numbers alone.
use Rattle.std.specs.Prelude.{◌≡◌, ℕ, ◌+◌, ◌-◌, ◌<◌, ◌≤◌, ◌&&◌, ◌||◌, slice_index, Bool, true, not, min, max, nat_lt, List, [], ◌∷◌, ◌++◌, map, count_by, if◌then◌else◌}
use Rattle.std.specs.FinSet as sets
use Rattle.rsc_alphabet.specs.Bytes.{from_to, bytes}
use Rattle.rsc_alphabet.specs.ByteSets.{Numbers}

-- two bytes are together if no boundary is at least the lesser and below the greater
abbrev pub AreTogether : (ℕ → Bool) → ℕ → ℕ → Type 0
AreTogether p b c = (k : ℕ) → min b c ≤ k → k < max b c → ¬ (p k ≡ true)

-- the partition q has the boundaries of p
abbrev pub HasBoundariesOf : (ℕ → Bool) → (ℕ → Bool) → Type 0
HasBoundariesOf q p = (b : ℕ) → b < 255 → p b ≡ true → q b ≡ true

-- the class of a byte is the number of boundaries below it
abbrev pub class_of : (ℕ → Bool) → ℕ → ℕ
class_of p b = count_by p (from_to 0 b)

-- the class map of a partition: the class of each byte
abbrev pub class_map : (ℕ → Bool) → List ℕ
class_map p = map (class_of p) bytes

-- the class of the byte 255 is the greatest
pub record LastClassIsGreatest (classes : List ℕ) : Type 0 where
  pub within : (b : ℕ) → b < 256 → slice_index classes b ≤ slice_index classes 255

-- the boundaries of a range: before its first byte and after its last, where there is a byte on the other side
abbrev pub boundaries_of_range : ℕ × ℕ → Numbers
boundaries_of_range r = sets.from_list ((if nat_lt 0 r.0 then (r.0 - 1) ∷ [] else []) ++ (if nat_lt r.1 255 then r.1 ∷ [] else []))

-- the boundaries of each of several ranges
abbrev pub boundaries_of_ranges : List (ℕ × ℕ) → Numbers
boundaries_of_ranges [] = sets.empty
boundaries_of_ranges (r ∷ rest) = sets.union (boundaries_of_range r) (boundaries_of_ranges rest)

-- one of the bytes k and k + 1 is a member, and the other isn't
abbrev pub is_boundary_of_set : Numbers → ℕ → Bool
is_boundary_of_set s k =
    nat_lt k 255 && ((sets.contains s k && not (sets.contains s (k + 1))) || (not (sets.contains s k) && sets.contains s (k + 1)))
