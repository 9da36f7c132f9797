-- The numbers of patterns, states and the like, which fit four bytes, with room for a count of them in an `i32`.
use Rattle.std.specs.Prelude.{ℕ, ◌≤◌, nat_le, ◌==◌, ◌-◌, ◌^◌, if◌then◌else◌, Result, Ok, Err, Option, Some, None}

-- the greatest index: one less than the greatest `i32`
abbrev pub max_index : ℕ
max_index = 2147483646

-- the number is that of an index
abbrev pub IsIndex : ℕ → Type 0
IsIndex n = n ≤ max_index

-- what a conversion answers: the number, or a refusal of it exactly where it is above the greatest index
abbrev pub checked_index : ℕ → Result ℕ ℕ
checked_index n = if nat_le n max_index then Ok n else Err n

-- the number, or `None` for the greatest that a `usize` has
abbrev pub non_max_of : ℕ → Option ℕ
non_max_of n = if n == 2 ^ 64 - 1 then None else Some n
