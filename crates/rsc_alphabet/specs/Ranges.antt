-- Lists of byte ranges, each by its first and its last byte, and the partition that such a list makes.
use Rattle.std.specs.Prelude.{ℕ, ◌+◌, ◌==◌, ◌&&◌, ◌||◌, Bool, not, min, max, nat_le, List}
use Rattle.std.specs.List.{list_any, list_all}
use Rattle.rsc_alphabet.specs.Bytes.{from_to}

-- the range holds the byte
abbrev pub holds : ℕ × ℕ → ℕ → Bool
holds r b = nat_le r.0 b && nat_le b r.1

-- the range holds all bytes from the one to the other, or none of them
abbrev pub treats_alike : ℕ × ℕ → ℕ → ℕ → Bool
treats_alike r b c =
    list_all (holds r) (from_to (min b c) (max b c + 1)) || not (list_any (holds r) (from_to (min b c) (max b c + 1)))

-- two bytes are alike for a list of ranges if each range treats them alike
abbrev pub are_alike : List (ℕ × ℕ) → ℕ → ℕ → Bool
are_alike ranges b c = list_all (λ r. treats_alike r b c) ranges

-- each range of the one list is in the other
abbrev pub are_among : List (ℕ × ℕ) → List (ℕ × ℕ) → Bool
are_among part ranges = list_all (λ r. list_any (λ q. r.0 == q.0 && r.1 == q.1) ranges) part

-- the partition of a list of ranges has a boundary where two neighbours aren't alike
abbrev pub has_boundary : List (ℕ × ℕ) → ℕ → Bool
has_boundary ranges k = not (are_alike ranges k (k + 1))
