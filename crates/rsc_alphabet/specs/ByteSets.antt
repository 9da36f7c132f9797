-- A set of bytes, its members in order, and its maximal runs.
use Rattle.std.specs.Prelude.{◌≡◌, ℕ, ◌+◌, ◌-◌, ◌<◌, ◌≤◌, ◌==◌, ◌&&◌, ◌||◌, Bool, true, false, not, List, filter}
use Rattle.std.specs.List.{zip}
use Rattle.std.specs.Ordering.{nat_cmp}
use Rattle.std.specs.FinSet as sets
use Rattle.rsc_alphabet.specs.Bytes.{bytes}

-- a finite set of numbers
abbrev pub Numbers : Type 0
Numbers = sets.FinSet nat_cmp

-- the members, ascending
abbrev pub members : Numbers → List ℕ
members s = filter (λ b. sets.contains s b) bytes

-- a run begins at a member whose predecessor is no member, or that has none
abbrev pub begins_run : Numbers → ℕ → Bool
begins_run s b = sets.contains s b && (b == 0 || not (sets.contains s (b - 1)))

-- a run ends at a member whose successor is no member, or that has none
abbrev pub ends_run : Numbers → ℕ → Bool
ends_run s b = sets.contains s b && (b == 255 || not (sets.contains s (b + 1)))

-- the maximal runs of members, ascending, each by its first and its last byte
abbrev pub runs : Numbers → List (ℕ × ℕ)
runs s = zip (filter (begins_run s) bytes) (filter (ends_run s) bytes)

-- all bytes from the first of r to its last are members, and the byte before and the byte after, where there is one, are none
pub record IsMaximalRun (s : Numbers) (r : ℕ × ℕ) : Type 0 where
  pub ordered : r.0 ≤ r.1
  pub fits : r.1 < 256
  pub members : (b : ℕ) → r.0 ≤ b → b ≤ r.1 → sets.contains s b ≡ true
  pub before : (b : ℕ) → b + 1 ≡ r.0 → sets.contains s b ≡ false
  pub after : r.1 < 255 → sets.contains s (r.1 + 1) ≡ false
