-- Where an assertion holds: the table of neighbouring bytes, and the table of neighbouring characters.
use Rattle.std.specs.Prelude.{◌≡◌, ℕ, zero, suc, ◌<◌, Bool, true, false, not, ◌&&◌, ◌||◌, ◌==◌, List, length, IsTrue, is_none, slice_get, MatchBool, Option, Some, None}
use Rattle.rsc_primitives.specs.Utf8.{is_word_byte, BeginsAt, EndsAt}
use Rattle.rsc_look.specs.declared.assertion.Look.{Look}
use Rattle.rsc_look.specs.declared.assertion.Look.TheVariants.{Start, End, StartLF, EndLF, StartCRLF, EndCRLF, WordAscii, WordAsciiNegate, WordUnicode, WordUnicodeNegate, WordStartAscii, WordEndAscii, WordStartUnicode, WordEndUnicode, WordStartHalfAscii, WordEndHalfAscii, WordStartHalfUnicode, WordEndHalfUnicode}
use Rattle.rsc_look.specs.declared.side.Side.{Side}
use Rattle.rsc_look.specs.declared.side.Side.TheVariants.{Absent, Invalid, WordCharacter, Other}
use Rattle.rsc_look.specs.Looks.{is_unicode, line_feed, carriage_return}

-- the byte before a position of a haystack, if there is one
abbrev pub byte_before : List ℕ → ℕ → Option ℕ
byte_before h zero = None
byte_before h (suc i) = slice_get h i

-- the byte after a position of a haystack, if there is one
abbrev pub byte_after : List ℕ → ℕ → Option ℕ
byte_after h i = slice_get h i

-- there is a byte, and it is b
abbrev pub is_byte : ℕ → Option ℕ → Bool
is_byte b None = false
is_byte b (Some x) = x == b

-- there is a byte, and it is a word byte
abbrev pub is_word_neighbor : Option ℕ → Bool
is_word_neighbor None = false
is_word_neighbor (Some x) = is_word_byte x

-- one of two tests passes, and the other doesn't
abbrev pub exactly_one : Bool → Bool → Bool
exactly_one true b = not b
exactly_one false b = b

-- whether an assertion that looks at bytes holds, and false for the six of characters: t is the line terminator, p the byte before and n the byte after
abbrev pub holds_at_bytes : Look → ℕ → Option ℕ → Option ℕ → Bool
holds_at_bytes Start t p n = is_none p
holds_at_bytes End t p n = is_none n
holds_at_bytes StartLF t p n = is_none p || is_byte t p
holds_at_bytes EndLF t p n = is_none n || is_byte t n
holds_at_bytes StartCRLF t p n = is_none p || is_byte line_feed p || (is_byte carriage_return p && not (is_byte line_feed n))
holds_at_bytes EndCRLF t p n = is_none n || is_byte carriage_return n || (is_byte line_feed n && not (is_byte carriage_return p))
holds_at_bytes WordAscii t p n = exactly_one (is_word_neighbor p) (is_word_neighbor n)
holds_at_bytes WordAsciiNegate t p n = not (exactly_one (is_word_neighbor p) (is_word_neighbor n))
holds_at_bytes WordStartAscii t p n = is_word_neighbor n && not (is_word_neighbor p)
holds_at_bytes WordEndAscii t p n = is_word_neighbor p && not (is_word_neighbor n)
holds_at_bytes WordStartHalfAscii t p n = not (is_word_neighbor p)
holds_at_bytes WordEndHalfAscii t p n = not (is_word_neighbor n)
holds_at_bytes _ t p n = false

-- the side before a position, for the word characters chars: no byte; bytes that no character ends; a character that chars accepts, or rejects
abbrev pub IsBefore : (ℕ → Bool) → List ℕ → ℕ → Side → Type 0
IsBefore chars h i Absent = i ≡ 0
IsBefore chars h i Invalid = (0 < i) × ((c : ℕ) → ¬ (EndsAt h i c))
IsBefore chars h i WordCharacter = (c : ℕ) × EndsAt h i c × (chars c ≡ true)
IsBefore chars h i Other = (c : ℕ) × EndsAt h i c × (chars c ≡ false)

-- the side after a position, for the word characters chars: no byte; bytes that begin no character; a character that chars accepts, or rejects
abbrev pub IsAfter : (ℕ → Bool) → List ℕ → ℕ → Side → Type 0
IsAfter chars h i Absent = i ≡ length h
IsAfter chars h i Invalid = (i < length h) × ((c : ℕ) → ¬ (BeginsAt h i c))
IsAfter chars h i WordCharacter = (c : ℕ) × BeginsAt h i c × (chars c ≡ true)
IsAfter chars h i Other = (c : ℕ) × BeginsAt h i c × (chars c ≡ false)

-- the side is invalid
abbrev pub is_invalid : Side → Bool
is_invalid Invalid = true
is_invalid _ = false

-- the side is a word character
abbrev pub is_word_side : Side → Bool
is_word_side WordCharacter = true
is_word_side _ = false

-- the side is absent, or a character that is no word character
abbrev pub is_absent_or_other : Side → Bool
is_absent_or_other Absent = true
is_absent_or_other Other = true
is_absent_or_other _ = false

-- the table of the six: a is the side before and b the side after
abbrev pub holds_at_sides : Look → Side → Side → Bool
holds_at_sides WordUnicode a b = exactly_one (is_word_side a) (is_word_side b)
holds_at_sides WordUnicodeNegate a b = not (is_invalid a) && not (is_invalid b) && not (exactly_one (is_word_side a) (is_word_side b))
holds_at_sides WordStartUnicode a b = is_word_side b && not (is_word_side a)
holds_at_sides WordEndUnicode a b = is_word_side a && not (is_word_side b)
holds_at_sides WordStartHalfUnicode a b = is_absent_or_other a
holds_at_sides WordEndHalfUnicode a b = is_absent_or_other b
holds_at_sides _ a b = false

-- the sides of a position are such that the assertion holds there
pub record HoldsAtSides (l : Look) (chars : ℕ → Bool) (h : List ℕ) (i : ℕ) : Type 0 where
  pub before : Side
  pub after : Side
  pub is_before : IsBefore chars h i before
  pub is_after : IsAfter chars h i after
  pub holds : holds_at_sides l before after ≡ true

-- the assertion l holds at the position i of the haystack h, where t is the line terminator and chars the word characters
abbrev pub Holds : Look → ℕ → (ℕ → Bool) → List ℕ → ℕ → Type 0
Holds l t chars h i = MatchBool (is_unicode l) (HoldsAtSides l chars h i) (IsTrue (holds_at_bytes l t (byte_before h i) (byte_after h i)))

-- the assertion holds for a matcher m: its line terminator, and its word predicate, of which `word_chars` says which they are
abbrev pub HoldsFor : {C : Type 0} → (C → ℕ → Bool) → Look → ℕ × C → List ℕ → ℕ → Type 0
HoldsFor word_chars l m h i = Holds l m.0 (word_chars m.1) h i
