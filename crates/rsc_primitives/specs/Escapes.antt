-- Bytes shown as text.
use Rattle.std.specs.Prelude.{ℕ, ◌<◌, ◌/◌, ◌%◌, ◌==◌, Bool, true, false, if◌then◌else◌, List, [], ◌∷◌, ◌++◌, flat_map, codes}
use Rattle.std.specs.Int.{is_in_range}
use Rattle.std.specs.Fmt.{digit_glyph}
use Rattle.std.specs.Char.Escape.{escape_or, escape_unicode}
use Rattle.rsc_primitives.specs.Utf8.{BeginsAt}

-- `\x` and two hexadecimal digits
abbrev pub hex_escape : Bool → ℕ → List ℕ
hex_escape upper b = codes "\\x" ++ digit_glyph upper (b / 16) ∷ digit_glyph upper (b % 16) ∷ []

-- a byte by itself: the space in quotes; `\t`, `\n`, `\r`, `\"`, `\'`, `\\`; what prints, as it is; else its hexadecimal digits, in capitals
abbrev pub byte_text : ℕ → List ℕ
byte_text b = if b == 0x20 then codes "' '" else escape_or b (hex_escape true b)

-- a byte in a row of bytes, where it is ASCII or part of no encoding: `\0`; the six before the space by their numbers in braces;
-- `\t`, `\n`, `\r`, `\"`, `\'`, `\\`; what prints, as it is; else its hexadecimal digits, in small letters
abbrev pub step_text : ℕ → List ℕ
step_text b =
    if b == 0 then codes "\\0"
    else (if is_in_range 0x1A 0x1F b then escape_unicode b else escape_or b (hex_escape false b))

-- no character past ASCII is encoded in the bytes, at any position
abbrev pub EncodesOnlyAscii : List ℕ → Type 0
EncodesOnlyAscii h = (i c : ℕ) → BeginsAt h i c → c < 128

-- a row of bytes in quotes, each as its text, one after the other
abbrev pub haystack_text : List ℕ → List ℕ
haystack_text h = 0x22 ∷ flat_map step_text h ++ 0x22 ∷ []
