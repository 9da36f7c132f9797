-- UTF-8 by RFC 3629, sections 3 and 4: which bytes encode which character, and where in a list of bytes a character is.
use Rattle.std.specs.Prelude.{◌≡◌, ℕ, ◌+◌, ◌-◌, ◌*◌, ◌<◌, ◌≤◌, Bool, ◌||◌, ◌==◌, ◌⊎◌, List, [], ◌∷◌, ◌++◌, length, slice_range}
use Rattle.std.specs.Int.{IsInRange, is_in_range}

-- UTF8-tail
abbrev pub IsTail : ℕ → Type 0
IsTail b = IsInRange 0x80 0xBF b

-- the first two bytes of UTF8-3, by its four forms
abbrev pub OpensThree : ℕ → ℕ → Type 0
OpensThree a b =
    ((a ≡ 0xE0) × IsInRange 0xA0 0xBF b) ⊎ (IsInRange 0xE1 0xEC a × IsTail b) ⊎ ((a ≡ 0xED) × IsInRange 0x80 0x9F b)
    ⊎ (IsInRange 0xEE 0xEF a × IsTail b)

-- the first two bytes of UTF8-4, by its three forms
abbrev pub OpensFour : ℕ → ℕ → Type 0
OpensFour a b =
    ((a ≡ 0xF0) × IsInRange 0x90 0xBF b) ⊎ (IsInRange 0xF1 0xF3 a × IsTail b) ⊎ ((a ≡ 0xF4) × IsInRange 0x80 0x8F b)

-- the bytes are UTF8-char, and n is the number of its character
abbrev pub Encodes : List ℕ → ℕ → Type 0
Encodes (a ∷ []) n = (a ≤ 0x7F) × (n ≡ a)
Encodes (a ∷ b ∷ []) n = IsInRange 0xC2 0xDF a × IsTail b × (n ≡ (a - 0xC0) * 64 + (b - 0x80))
Encodes (a ∷ b ∷ c ∷ []) n = OpensThree a b × IsTail c × (n ≡ (a - 0xE0) * 4096 + (b - 0x80) * 64 + (c - 0x80))
Encodes (a ∷ b ∷ c ∷ d ∷ []) n =
    OpensFour a b × IsTail c × IsTail d × (n ≡ (a - 0xF0) * 262144 + (b - 0x80) * 4096 + (c - 0x80) * 64 + (d - 0x80))
Encodes _ n = ⊥

-- the bytes are the encodings of these characters, one after the other: UTF8-octets
abbrev pub EncodesAll : List ℕ → List ℕ → Type 0
EncodesAll h [] = h ≡ []
EncodesAll h (c ∷ cs) = (e : List ℕ) × (rest : List ℕ) × (h ≡ e ++ rest) × Encodes e c × EncodesAll rest cs

-- the bytes of h from i up to j encode c
pub record EncodedFrom (h : List ℕ) (i j c : ℕ) : Type 0 where
  pub ordered : i ≤ j
  pub within : j ≤ length h
  pub encoded : Encodes (slice_range h i j) c

-- c begins at i
abbrev pub BeginsAt : List ℕ → ℕ → ℕ → Type 0
BeginsAt h i c = (j : ℕ) × EncodedFrom h i j c

-- c ends at i
abbrev pub EndsAt : List ℕ → ℕ → ℕ → Type 0
EndsAt h i c = (j : ℕ) × EncodedFrom h j i c

-- i is strictly between the ends of an encoded character
pub record IsInside (h : List ℕ) (i : ℕ) : Type 0 where
  pub from : ℕ
  pub to : ℕ
  pub char : ℕ
  pub after_first : from < i
  pub before_last : i < to
  pub encoded : EncodedFrom h from to char

-- the word bytes: digits, capitals, the low line, small letters
abbrev pub is_word_byte : ℕ → Bool
is_word_byte b = is_in_range 0x30 0x39 b || is_in_range 0x41 0x5A b || (b == 0x5F) || is_in_range 0x61 0x7A b
