-- The definitions, computed at single values.
use Rattle.std.proofs.Common.{◌≡◌, ℕ, [], ◌∷◌, codes, Some, None, Ok, Err, true, false, refl, arith, inl, inr}
use Rattle.std.specs.Fmt.{digits}
use Rattle.rsc_primitives.specs.Indices.{checked_index, non_max_of}
use Rattle.rsc_primitives.specs.IndexTexts.{pattern_id_error_text}
use Rattle.rsc_primitives.specs.Utf8.{Encodes, is_word_byte}
use Rattle.rsc_primitives.specs.Escapes.{byte_text, haystack_text}

greatest_index : checked_index 2147483646 ≡ Ok 2147483646
greatest_index = refl

first_refused : checked_index 2147483647 ≡ Err 2147483647
first_refused = refl

greatest_offset : non_max_of 18446744073709551614 ≡ Some 18446744073709551614
greatest_offset = refl

refused_offset : non_max_of 18446744073709551615 ≡ None
refused_offset = refl

refusal_text : pattern_id_error_text 2147483647 ≡ codes "failed to create PatternID from 2147483647, which exceeds PatternID(2147483646)"
unfolding digits
refusal_text = refl

two_bytes : Encodes (0xC3 ∷ 0xA9 ∷ []) 0xE9
two_bytes = ((omega arith, omega arith), (omega arith, omega arith), refl)

three_bytes : Encodes (0xE2 ∷ 0x82 ∷ 0xAC ∷ []) 0x20AC
three_bytes = (inr (inl ((omega arith, omega arith), (omega arith, omega arith))), (omega arith, omega arith), refl)

four_bytes : Encodes (0xF0 ∷ 0x9D ∷ 0x9B ∷ 0x83 ∷ []) 0x1D6C3
four_bytes = (inl (refl, (omega arith, omega arith)), (omega arith, omega arith), (omega arith, omega arith), refl)

overlong : (c : ℕ) → Encodes (0xC0 ∷ 0x80 ∷ []) c → ⊥
overlong c p = omega arith

surrogate : (c : ℕ) → Encodes (0xED ∷ 0xA0 ∷ 0x80 ∷ []) c → ⊥
surrogate c p = grind arith

above_the_last : (c : ℕ) → Encodes (0xF4 ∷ 0x90 ∷ 0x80 ∷ 0x80 ∷ []) c → ⊥
above_the_last c p = grind arith

cut_short : (c : ℕ) → Encodes (0xE2 ∷ 0x82 ∷ []) c → ⊥
cut_short c p = omega arith

low_line : is_word_byte 0x5F ≡ true
low_line = refl

grave_accent : is_word_byte 0x60 ≡ false
grave_accent = refl

space_alone : byte_text 0x20 ≡ codes "' '"
space_alone = refl

line_feed : byte_text 0x0A ≡ codes "\\n"
line_feed = refl

capital_digits : byte_text 0xAB ≡ codes "\\xAB"
capital_digits = refl

delete : byte_text 0x7F ≡ codes "\\x7F"
delete = refl

row_of_bytes : haystack_text (0x61 ∷ 0x1A ∷ 0x7F ∷ 0xFF ∷ 0x22 ∷ []) ≡ codes "\"a\\u{1a}\\x7f\\xff\\\"\""
row_of_bytes = refl

row_of_controls : haystack_text (0x00 ∷ 0x01 ∷ 0x09 ∷ 0x19 ∷ 0x1F ∷ 0x20 ∷ []) ≡ codes "\"\\0\\x01\\t\\x19\\u{1f} \""
row_of_controls = refl
