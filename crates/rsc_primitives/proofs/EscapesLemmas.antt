-- The texts of bytes, in a table with one width and a table of their lengths, and the steps of a row of bytes.
use Rattle.std.proofs.Common.{◌≡◌, ℕ, zero, suc, ◌*◌, ◌≤◌, ◌<◌, ◌&&◌, Bool, true, nat_le, nat_lt, List, [], ◌∷◌, map, get_or, take, drop, sym, ap, ◌∙◌, arith, IsAscii, ◌+◌, ◌++◌, length, flat_map, take-take, length-take-le, append_assoc, append-nil, refl, false}
use Rattle.std.proofs.lemmas.Bool.{and_parts, leb-true, ltb-true, agree_below, agree_below_at}
use Rattle.std.proofs.lemmas.List.FromFn.{get_or-map-range_with_len}
use Rattle.std.specs.List.{range_with_len}
use Rattle.std.proofs.lemmas.Slice.{take-put_mid}
use Rattle.std.proofs.Math.Seq.{take-append-add}
use borrow.Rule.Slice.PartMut.{put_mid}
use Rattle.std.proofs.lemmas.Bool.Decides.{nat_tests}
use Rattle.std.specs.Char.{is_ascii}
use Rattle.rsc_primitives.specs.Escapes.{step_text, EncodesOnlyAscii}
use Rattle.rsc_primitives.specs.Utf8Laws.{with_prefix}

-- ---- a table of texts, one for each byte, each at the same width, and a table of their lengths

-- the text that the tables have for a byte
abbrev pub tabled : ℕ → List ℕ → List ℕ → ℕ → List ℕ
tabled width texts lengths b = take (get_or lengths b 0) (drop (width * b) texts)

-- the text of a byte is in the table, tested at each byte
pub tabled_is : (width : ℕ) (texts lengths : List ℕ) (text : ℕ → List ℕ)
    → map (tabled width texts lengths) (range_with_len 0 256) ≡ map text (range_with_len 0 256) → (b : ℕ) → b < 256
    → tabled width texts lengths b ≡ text b
tabled_is width texts lengths text same b low =
    sym (get_or-map-range_with_len (tabled width texts lengths) 0 256 b b [] low (omega arith)) ∙ ap (λ t. get_or t b []) same
    ∙ get_or-map-range_with_len text 0 256 b b [] low (omega arith)

-- each length fits the width
pub length_fits : (width : ℕ) (lengths : List ℕ) (b n : ℕ) → agree_below (λ k. nat_le (get_or lengths k 0) width) (λ k. true) 256 ≡ true
    → b < 256 → n ≡ get_or lengths b 0 → n ≤ width
length_fits width lengths b n fits low is =
    rw is (leb-true _ width (agree_below_at (λ k. nat_le (get_or lengths k 0) width) (λ k. true) 256 b fits low))

abbrev pub is_low : List ℕ → Bool
is_low [] = true
is_low (x ∷ xs) = nat_lt x 128 && is_low xs

-- bytes below 128 are ASCII
pub ascii_if_low : (xs : List ℕ) → is_low xs ≡ true → IsAscii xs
ascii_if_low [] e i = omega arith
ascii_if_low (x ∷ xs) e zero = ltb-true x 128 (and_parts _ _ e).0
ascii_if_low (x ∷ xs) e (suc i) = ascii_if_low xs (and_parts _ _ e).1 i

-- ---- the texts of bytes, and the steps of a row of bytes

-- after a byte no character past ASCII is encoded either
pub EncodesOnlyAscii-rest : (b : ℕ) (h : List ℕ) → EncodesOnlyAscii (b ∷ h) → EncodesOnlyAscii h
EncodesOnlyAscii-rest b h only i c p = only (1 + i) c (1 + p.0, with_prefix (b ∷ []) h i p.0 c p.1)

-- a character that isn't ASCII is 128 or more
pub past_ascii-high : (c : ℕ) → is_ascii c ≡ false → 128 ≤ c
past_ascii-high c e = grind (arith, nat_tests)

-- after a part of a list is written, its front up to an index within the part
pub take-put_mid-front : (a k n : ℕ) (xs ys : List ℕ) → n ≤ length ys → a ≤ length xs
    → take (a + n) (put_mid a k xs ys) ≡ take a xs ++ take n ys
take-put_mid-front a k n xs ys p q =
    sym (take-take (a + n) (a + length ys) (put_mid a k xs ys) (omega arith)) ∙ ap (take (a + n)) (take-put_mid a k xs ys (a + length ys) refl q)
    ∙ ap (λ m. take (m + n) (take a xs ++ ys)) (sym (length-take-le a xs q)) ∙ take-append-add (take a xs) ys n

-- a piece is written, and the next one is empty
pub piece_written : (done part piece t all : List ℕ) (n : ℕ) → n ≡ 0 → (done ++ part) ++ t ≡ all → ((done ++ part) ++ take n piece) ++ t ≡ all
piece_written done part piece t all n e p = ap (λ m. ((done ++ part) ++ take m piece) ++ t) e ∙ ap (λ l. l ++ t) (append-nil (done ++ part)) ∙ p

-- a byte's text follows the texts in the piece
pub byte_put : (done part piece rest after all : List ℕ) (b : ℕ) → piece ≡ part ++ step_text b → rest ≡ b ∷ after
    → (done ++ part) ++ flat_map step_text rest ≡ all → (done ++ piece) ++ flat_map step_text after ≡ all
byte_put done part piece rest after all b e f p =
    ap (λ l. (done ++ l) ++ flat_map step_text after) e ∙ ap (λ l. l ++ flat_map step_text after) (sym (append_assoc done part (step_text b)))
    ∙ append_assoc (done ++ part) (step_text b) _ ∙ ap (λ l. (done ++ part) ++ flat_map step_text l) (sym f) ∙ p
