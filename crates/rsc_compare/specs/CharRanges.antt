-- The characters that a list of ranges names, each range by its first and its last number.
use Rattle.std.specs.Prelude.{ℕ, Bool, List, ◌&&◌, nat_le}
use Rattle.std.specs.List.{list_any}

-- some range of the list holds the number
abbrev pub is_in_ranges : ℕ → List (ℕ × ℕ) → Bool
is_in_ranges c ranges = list_any (λ r. nat_le r.0 c && nat_le c r.1) ranges
