-- Numbers as decimal digits, and the text of a range of bytes.
use Rattle.std.proofs.Common.{◌≡◌, ◌↔◌, ℕ, suc, ◌+◌, ◌*◌, ◌<◌, ◌≤◌, List, [], ◌∷◌, length, drop, get_or, refl, sym, ap, ◌∙◌, subst, arith, ◌++◌, slice_index_or, Ok}
use Rattle.std.specs.Char.{digit_value}
use Rattle.std.specs.Str.Parse.{AllDigits, digits_value, digits_value_after}
use Rattle.std.proofs.Math.Seq.{drop-cons, drop-length}
use Rattle.hex.specs.Hex.{decode_of}
use Rattle.hex.proofs.HexLemmas.{decode_of-ok}
use Rattle.rsc_notation.specs.RangeTexts.{IsRangeText}

-- ---- numbers as decimal digits, one digit after the other

-- after i digits, which write n
pub record Reads (ds : List ℕ) (i n : ℕ) : Type 0 where
  pub value : digits_value_after 10 n (drop i ds) ≡ digits_value 10 ds
  pub digits : AllDigits 10 (drop i ds) ↔ AllDigits 10 ds

-- nothing is read yet
pub Reads-none : (ds : List ℕ) → Reads ds 0 0
Reads-none ds = record { value = refl; digits = ((λ h. h), (λ h. h)) }

no_less : (n : ℕ) (ds : List ℕ) → n ≤ digits_value_after 10 n ds
no_less n [] = omega arith
no_less n (c ∷ cs) = let more = no_less (n * 10 + digit_value c) cs in omega (arith, more)

next : (ds : List ℕ) (i : ℕ) → i < length ds → drop i ds ≡ get_or ds i 0 ∷ drop (i + 1) ds
next ds i l = let e : suc i ≡ i + 1 = omega arith in drop-cons ds i 0 l ∙ ap (λ k. get_or ds i 0 ∷ drop k ds) e

value_of_rest : (ds : List ℕ) (i n : ℕ) → i < length ds → Reads ds i n
    → digits_value_after 10 (n * 10 + digit_value (get_or ds i 0)) (drop (i + 1) ds) ≡ digits_value 10 ds
value_of_rest ds i n l r = ap (digits_value_after 10 n) (sym (next ds i l)) ∙ r.value

-- one digit more is read
pub Reads-one : (ds : List ℕ) (i n : ℕ) → i < length ds → Reads ds i n → digit_value (get_or ds i 0) < 10
    → Reads ds (i + 1) (n * 10 + digit_value (get_or ds i 0))
Reads-one ds i n l r d = record {
  value = value_of_rest ds i n l r;
  digits = (
    (λ h. r.digits.0 (subst (AllDigits 10) (sym (next ds i l)) (d, h))),
    (λ h. (subst (AllDigits 10) (next ds i l) (r.digits.1 h)).1),
  );
}

-- all digits are read
pub all_read : (ds : List ℕ) (n : ℕ) → Reads ds (length ds) n → (n ≡ digits_value 10 ds) × AllDigits 10 ds
all_read ds n r =
    let none : drop (length ds) ds ≡ [] = drop-length ds in
    (ap (digits_value_after 10 n) (sym none) ∙ r.value, r.digits.0 (subst (AllDigits 10) (sym none) tt))

-- a character that isn't a digit stands there
pub no_digit : (ds : List ℕ) (i n : ℕ) → i < length ds → Reads ds i n → (digit_value (get_or ds i 0) < 10 → ⊥) → AllDigits 10 ds → ⊥
no_digit ds i n l r other h = other (subst (AllDigits 10) (next ds i l) (r.digits.1 h)).0

-- more digits make no smaller number
pub too_great : (ds : List ℕ) (i n k : ℕ) → i < length ds → Reads ds i n → k ≤ n * 10 + digit_value (get_or ds i 0) → k ≤ digits_value 10 ds
too_great ds i n k l r h =
    let more = no_less (n * 10 + digit_value (get_or ds i 0)) (drop (i + 1) ds) in
    let same = value_of_rest ds i n l r in
    omega (arith, more, same, h)

-- ---- what the text of a range of bytes is made of

pair : (s : List ℕ) → length s ≡ 2 → (a b : ℕ) × (s ≡ a ∷ b ∷ [])
pair [] e = absurd (omega (arith, e))
pair (a ∷ []) e = absurd (omega (arith, e))
pair (a ∷ b ∷ []) e = (a, b, refl)
pair (a ∷ b ∷ c ∷ s) e = absurd (omega (arith, e))

two : (s : List ℕ) (byte : ℕ) → decode_of s ≡ Ok (byte ∷ []) → length s ≡ 2
two s byte e = (decode_of-ok s (byte ∷ []) e).2

-- a range is written in five characters, with a dash in the middle
pub written : (text : List ℕ) (first last : ℕ) → IsRangeText text first last → (length text ≡ 5) × (slice_index_or text 2 0 ≡ 45)
    × (decode_of (slice_index_or text 0 0 ∷ slice_index_or text 1 0 ∷ []) ≡ Ok (first ∷ []))
    × (decode_of (slice_index_or text 3 0 ∷ slice_index_or text 4 0 ∷ []) ≡ Ok (last ∷ []))
written text first last w =
    let before = pair w.before (two w.before first w.start) in
    let after = pair w.after (two w.after last w.end) in
    let whole : text ≡ before.0 ∷ before.1 ∷ 45 ∷ after.0 ∷ after.1 ∷ [] =
    w.joined ∙ ap (λ s. s ++ 45 ∷ w.after) before.2 ∙ ap (λ s. (before.0 ∷ before.1 ∷ []) ++ 45 ∷ s) after.2 in (
      ap length whole,
      ap (λ t. slice_index_or t 2 0) whole,
      ap (λ t. decode_of (slice_index_or t 0 0 ∷ slice_index_or t 1 0 ∷ [])) whole ∙ ap decode_of (sym before.2) ∙ w.start,
      ap (λ t. decode_of (slice_index_or t 3 0 ∷ slice_index_or t 4 0 ∷ [])) whole ∙ ap decode_of (sym after.2) ∙ w.end,
    )
