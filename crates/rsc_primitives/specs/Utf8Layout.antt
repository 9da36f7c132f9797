-- The character past ASCII that begins a list of bytes, and the one that ends it, by the four bytes at that end. Readers of bytes use it.
use Rattle.std.specs.Prelude.{◌≡◌, ℕ, ◌+◌, ◌-◌, ◌*◌, ◌⊎◌, List, reverse, slice_index}
use Rattle.std.specs.Int.{IsInRange}
use Rattle.rsc_primitives.specs.Utf8.{IsTail, OpensThree, OpensFour}

-- n is the number of the character past ASCII whose encoding begins these bytes
abbrev pub IsLongNumber : ℕ → ℕ → ℕ → ℕ → ℕ → Type 0
IsLongNumber a b c d n =
    (IsInRange 0xC2 0xDF a × IsTail b × (n ≡ (a - 0xC0) * 64 + (b - 0x80)))
    ⊎ (OpensThree a b × IsTail c × (n ≡ (a - 0xE0) * 4096 + (b - 0x80) * 64 + (c - 0x80)))
    ⊎ (OpensFour a b × IsTail c × IsTail d × (n ≡ (a - 0xF0) * 262144 + (b - 0x80) * 4096 + (c - 0x80) * 64 + (d - 0x80)))

-- n is the number of the character past ASCII whose encoding ends these bytes
abbrev pub EndsLongNumber : ℕ → ℕ → ℕ → ℕ → ℕ → Type 0
EndsLongNumber a b c d n =
    (IsInRange 0xC2 0xDF c × IsTail d × (n ≡ (c - 0xC0) * 64 + (d - 0x80)))
    ⊎ (OpensThree b c × IsTail d × (n ≡ (b - 0xE0) * 4096 + (c - 0x80) * 64 + (d - 0x80)))
    ⊎ (OpensFour a b × IsTail c × IsTail d × (n ≡ (a - 0xF0) * 262144 + (b - 0x80) * 4096 + (c - 0x80) * 64 + (d - 0x80)))

-- byte k of a list, or 0 where it does not exist
abbrev pub from_front : List ℕ → ℕ → ℕ
from_front h k = slice_index h k

-- byte k from the back, or 0 where it does not exist
abbrev pub from_back : List ℕ → ℕ → ℕ
from_back h k = slice_index (reverse h) k

-- n is the number of the character past ASCII that begins the list
abbrev pub BeginsLong : List ℕ → ℕ → Type 0
BeginsLong h n = IsLongNumber (from_front h 0) (from_front h 1) (from_front h 2) (from_front h 3) n

-- n is the number of the character past ASCII that ends the list
abbrev pub EndsLong : List ℕ → ℕ → Type 0
EndsLong h n = EndsLongNumber (from_back h 3) (from_back h 2) (from_back h 1) (from_back h 0) n
