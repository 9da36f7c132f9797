-- Where the units of an alphabet lead from a state.
use Rattle.std.specs.Prelude.{◌≡◌, ℕ, ◌+◌, ◌*◌, ◌^◌, ◌<◌, ◌≤◌, Bool, List, length, slice_index, if◌then◌else◌}
use Rattle.std.specs.List.{list_any}
use Rattle.rsc_alphabet.specs.Ranges.{holds}
use Rattle.rsc_alphabet.specs.Iterators.{stride2_of}
use Rattle.rsc_alphabet.specs.Symbols.{Symbol, byte, end_of_input}

-- a byte leads where its entry says, the end of the input to `end`
abbrev pub lead_of : List ℕ → ℕ → Symbol → ℕ
lead_of leads end (byte b) = slice_index leads b
lead_of leads end (end_of_input n) = end

-- one of the ranges holds the byte
abbrev pub in_ranges : List (ℕ × ℕ) → ℕ → Bool
in_ranges ranges b = list_any (λ r. holds r b) ranges

-- a byte leads to 1 if one of the ranges holds it, and else to 0
abbrev pub lead_in : List (ℕ × ℕ) → ℕ → ℕ
lead_in ranges b = if in_ranges ranges b then 1 else 0

-- a table has a row that answers for every byte: the entry of a byte's class says whether one of the ranges holds the byte
pub record HasRow (classes table : List ℕ) (row : ℕ) (ranges : List (ℕ × ℕ)) : Type 0 where
  pub room : (row + 1) * 2 ^ stride2_of classes ≤ length table
  pub entries : (b : ℕ) → b < 256 → slice_index table (row * 2 ^ stride2_of classes + slice_index classes b) ≡ lead_in ranges b
