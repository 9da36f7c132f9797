-- How the code holds a set: by blocks whose set bits are its members.
use Rattle.std.specs.Prelude.{◌≡◌, ◌+◌, ◌≤◌, ℕ, true, false, List, length}
use Rattle.std.specs.Int.{div_ceil}
use Rattle.rsc_primitives.specs.Indices.{IsIndex, max_index}
use Rattle.rsc_search.specs.PatternSets.{PatternSetParts, numbers_below}
use Rattle.rsc_search.specs.BlockLayout.{is_set, set_between, rest_start, rest_end, IsRestFrom, IsRestTo}

-- the set of that capacity whose members are the numbers with a set bit
abbrev pub patterns_held : ℕ → List ℕ → PatternSetParts
patterns_held capacity blocks = record { capacity = capacity; members = numbers_below capacity (is_set blocks) }

-- a block for each 64 numbers begun, no bit set at or above the capacity, and the count that of the members
pub record IsPacked (capacity : ℕ) (blocks : List ℕ) (count : ℕ) : Type 0 where
  pub fits : capacity ≤ max_index + 1
  pub length_is : length blocks ≡ div_ceil capacity 64
  pub spare_clear : (p : ℕ) → capacity ≤ p → is_set blocks p ≡ false
  pub count_is : count ≡ length (numbers_below capacity (is_set blocks))

-- the members that are left from the rest of a block to the rest of another
abbrev pub left_between : List ℕ → ℕ → ℕ → ℕ → ℕ → List ℕ
left_between blocks front_index front back_index back = set_between blocks (rest_start front_index front) (rest_end back_index back)

-- an iterator between the rests of two blocks, and how many members are left
pub record IsBetween (blocks : List ℕ) (front_index front back_index back left : ℕ) : Type 0 where
  pub front_is : IsRestFrom blocks front_index front
  pub back_is : IsRestTo blocks back_index back
  pub fits : (p : ℕ) → is_set blocks p ≡ true → IsIndex p
  pub left_is : left ≡ length (left_between blocks front_index front back_index back)
