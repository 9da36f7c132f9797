-- Sets of patterns: a capacity, and the members below it in ascending order.
use Rattle.std.specs.Prelude.{ℕ, ◌<◌, ◌≤◌, ◌==◌, ◌||◌, ◌&&◌, All, Bool, List, [], filter, length}
use Rattle.std.specs.List.{list_any, range_with_len}
use Rattle.std.specs.List.Sorted.{IsStrictlyIncreasing}
use Rattle.std.specs.Str.{bytes_eq}

-- what a contract sees of a pattern set
pub record PatternSetParts : Type 0 where
  pub capacity : ℕ
  pub members : List ℕ

-- what holds for each set: its members ascend, each is below the capacity, and so they are at most as many
pub record IsPatternSet (s : PatternSetParts) : Type 0 where
  pub ascending : IsStrictlyIncreasing s.members
  pub below : All (λ p. p < s.capacity) s.members
  pub most : length s.members ≤ s.capacity

-- the number is among the members
abbrev pub has_member : List ℕ → ℕ → Bool
has_member members p = list_any (λ q. q == p) members

-- the numbers below n that pass the test, ascending
abbrev pub numbers_below : ℕ → (ℕ → Bool) → List ℕ
numbers_below n test = filter test (range_with_len 0 n)

-- the set with no members
abbrev pub no_patterns : ℕ → PatternSetParts
no_patterns n = record { capacity = n; members = [] }

-- the set with p as a member besides its own: the numbers below the capacity that are p or a member
abbrev pub with_member : PatternSetParts → ℕ → PatternSetParts
with_member s p = record { capacity = s.capacity; members = numbers_below s.capacity (λ q. q == p || has_member s.members q) }

-- two sets have one capacity and the same members
abbrev pub same_patterns : PatternSetParts → PatternSetParts → Bool
same_patterns s t = s.capacity == t.capacity && bytes_eq s.members t.members

-- why an insertion is refused: the pattern handed in, and the set's capacity, which it isn't below
pub record RefusedInsertion : Type 0 where
  pub attempted : ℕ
  pub capacity : ℕ
