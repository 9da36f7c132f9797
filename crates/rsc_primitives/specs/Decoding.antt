-- What a reader of UTF-8 answers, from either end of any bytes, and where characters meet.
use Rattle.std.specs.Prelude.{◌≡◌, ℕ, ◌-◌, ◌<◌, ◌≤◌, ◌⊎◌, List, [], length, slice_index, slice_get, Option, Some, None, Result, Ok, Err}
use Rattle.rsc_primitives.specs.Utf8.{BeginsAt, EndsAt}

-- what reading from the front answers: nothing of no bytes, the character that begins the bytes, or else the first byte
abbrev pub DecodesTo : List ℕ → Option (Result ℕ ℕ) → Type 0
DecodesTo h None = h ≡ []
DecodesTo h (Some (Ok c)) = BeginsAt h 0 c
DecodesTo h (Some (Err b)) = (slice_get h 0 ≡ Some b) × ((c : ℕ) → BeginsAt h 0 c → ⊥)

-- what reading from the back answers: nothing of no bytes, the character that ends the bytes, or else the last byte
abbrev pub DecodesLastTo : List ℕ → Option (Result ℕ ℕ) → Type 0
DecodesLastTo h None = h ≡ []
DecodesLastTo h (Some (Ok c)) = EndsAt h (length h) c
DecodesLastTo h (Some (Err b)) = (0 < length h) × (slice_get h (length h - 1) ≡ Some b) × ((c : ℕ) → EndsAt h (length h) c → ⊥)

-- i is a character boundary: the end of the bytes, or a byte is there that is no UTF8-tail
abbrev pub IsCharBoundary : List ℕ → ℕ → Type 0
IsCharBoundary h i = (i ≡ length h) ⊎ ((i < length h) × ((slice_index h i ≤ 0x7F) ⊎ (0xC0 ≤ slice_index h i)))
