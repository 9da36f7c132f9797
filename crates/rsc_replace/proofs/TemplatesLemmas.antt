-- Lemmas on what a template stands for.
use Rattle.std.proofs.Common.{◌≡◌, ◌+◌, ◌<◌, ◌≤◌, ◌^◌, ◌==◌, ◌∙◌, ◌&&◌, nat_lt, not, ℕ, zero, suc, Bool, true, false, List, [], ◌∷◌, ◌++◌, None, Some, length, slice_index, get_or, take, drop, refl, sym, ap, subst, arith, eq-eqb, lt-ltb, ltb-true, inl, inr, append-nil, get_or-take, IsUtf8}
use Rattle.std.proofs.lemmas.Bool.{and_parts, cases_lt}
use Rattle.std.proofs.lemmas.Bool.Decides.{nat_tests}
use Rattle.std.proofs.lemmas.List.Sums.{prefix_len_passes, prefix_len_stops}
use Rattle.std.proofs.lemmas.Str.Parse.{numerals_by_value, tells_all_ascii_digits}
use Rattle.std.proofs.lemmas.List.{drop_all, get_or_past}
use Rattle.std.proofs.lemmas.List.Folds.{length-prefix_len}
use Rattle.std.proofs.lemmas.Str.{IsUtf8-from_ascii}
use Rattle.std.specs.List.{list_any, prefix_len}
use Rattle.std.specs.Str.{all_ascii_digits}
use Rattle.std.specs.Str.Parse.{IsNumeral, digits_value, without_leading_plus}
use Rattle.rsc_primitives.specs.Utf8.{is_word_byte}
use Rattle.rsc_captures.specs.Captured.{Captured}
use Rattle.rsc_replace.specs.Templates.{dollar, as_number, span_called, bytes_of, count_before, reference, dollar_piece, filled_after, filled}

-- `parse` reads it as a `usize`
abbrev pub FitsNumber : List ℕ → Type 0
FitsNumber bs = IsNumeral 10 bs × (digits_value 10 bs < 2 ^ 64)

pub number_read : (name : List ℕ) (n : ℕ) → FitsNumber (without_leading_plus name) → n ≡ digits_value 10 (without_leading_plus name)
    → as_number name ≡ Some n
unfolding as_number
number_read name n fits is =
    let digits : all_ascii_digits (without_leading_plus name) ≡ true =
    (numerals_by_value (λ (ds : List ℕ). all_ascii_digits ds ≡ true) tells_all_ascii_digits).from (without_leading_plus name) fits.0.1 in
    rw (lt-ltb _ _ fits.0.0, digits, lt-ltb _ _ fits.1, is) refl

pub number_refused : (name : List ℕ) → ¬ (FitsNumber (without_leading_plus name)) → as_number name ≡ None
unfolding as_number
number_refused name fails =
    let ds = without_leading_plus name in
    let test = nat_lt 0 (length ds) && (all_ascii_digits ds && nat_lt (digits_value 10 ds) (2 ^ 64)) in
    elim test as (λ (v : Bool). test ≡ v → as_number name ≡ None) [
      | true ↦ λ e.
          let some = and_parts (nat_lt 0 (length ds)) (all_ascii_digits ds && nat_lt (digits_value 10 ds) (2 ^ 64)) e in
          let both = and_parts (all_ascii_digits ds) (nat_lt (digits_value 10 ds) (2 ^ 64)) some.1 in
          absurd (fails (
            (ltb-true 0 (length ds) some.0, (numerals_by_value (λ (xs : List ℕ). all_ascii_digits xs ≡ true) tells_all_ascii_digits).to ds both.0),
            ltb-true (digits_value 10 ds) (2 ^ 64) both.1,
          ))
      | false ↦ λ e. rw e refl
    ] refl

pub passed_over : (text : List ℕ) (captures : Captured) (t : List ℕ) (n : ℕ) → filled_after text captures t n ≡ filled text captures (drop n t)
unfolding filled_after
passed_over text captures t zero = refl
passed_over text captures [] (suc n) = refl
passed_over text captures (b ∷ t) (suc n) = passed_over text captures t n

-- the bytes before the first `$` stand for themselves
pub before_dollar : (text : List ℕ) (captures : Captured) (t : List ℕ)
    → filled text captures t ≡ take (count_before dollar t) t ++ filled text captures (drop (count_before dollar t) t)
unfolding filled_after
before_dollar text captures [] = refl
before_dollar text captures (b ∷ t) =
    elim (b == dollar) as (λ (v : Bool). (b == dollar) ≡ v → filled text captures (b ∷ t)
    ≡ take (count_before dollar (b ∷ t)) (b ∷ t) ++ filled text captures (drop (count_before dollar (b ∷ t)) (b ∷ t))) [
      | true ↦ λ e.
          let none : count_before dollar (b ∷ t) ≡ 0 = rw e refl in
          subst (λ (n : ℕ). filled text captures (b ∷ t) ≡ take n (b ∷ t) ++ filled text captures (drop n (b ∷ t))) (sym none) refl
      | false ↦ λ e.
          let more : 1 + count_before dollar t ≡ suc (count_before dollar t) = omega arith in
          rw (e, more) (ap (λ (s : List ℕ). b ∷ s) (before_dollar text captures t))
    ] refl

at_dollar : (text : List ℕ) (captures : Captured) (t : List ℕ) → 0 < length t → slice_index t 0 ≡ dollar
    → filled text captures t
    ≡ (dollar_piece text captures (drop 1 t)).0 ++ filled text captures (drop (1 + (dollar_piece text captures (drop 1 t)).1) t)
unfolding filled_after
at_dollar text captures [] some is = absurd (omega (arith, some))
at_dollar text captures (b ∷ t) some is =
    let n = (dollar_piece text captures t).1 in
    let more : 1 + n ≡ suc n = omega arith in
    rw (eq-eqb b dollar is, more) (ap (λ (s : List ℕ). (dollar_piece text captures t).0 ++ s) (passed_over text captures t n))

-- a `$` in front, with what belongs to it
pub piece_at : (text : List ℕ) (captures : Captured) (t piece : List ℕ) (n : ℕ) → 0 < length t → count_before dollar t ≡ 0
    → dollar_piece text captures (drop 1 t) ≡ (piece, n) → filled text captures t ≡ piece ++ filled text captures (drop (1 + n) t)
piece_at text captures t piece n some none is =
    let stops = prefix_len_stops (λ (other : ℕ). not (other == dollar)) t 0 (omega (arith, none, some)) in
    let first : slice_index t 0 ≡ dollar = grind (arith, nat_tests, rw none at stops) in
    subst (λ (both : List ℕ × ℕ). filled text captures t ≡ both.0 ++ filled text captures (drop (1 + both.1) t)) is
    (at_dollar text captures t some first)

pub two_dollars : (text : List ℕ) (captures : Captured) (rest : List ℕ) → (slice_index rest 0 == dollar) ≡ true
    → dollar_piece text captures rest ≡ (dollar ∷ [], 1)
two_dollars text captures rest is = rw is refl

pub lone_dollar : (text : List ℕ) (captures : Captured) (rest : List ℕ) → (slice_index rest 0 == dollar) ≡ false → reference rest ≡ None
    → dollar_piece text captures rest ≡ (dollar ∷ [], 0)
lone_dollar text captures rest isnt none = rw (isnt, none) refl

pub group_dollar : (text : List ℕ) (captures : Captured) (rest name : List ℕ) (n : ℕ) → (slice_index rest 0 == dollar) ≡ false
    → reference rest ≡ Some (name, n) → dollar_piece text captures rest ≡ (bytes_of text (span_called captures name), n)
group_dollar text captures rest name n isnt some = rw (isnt, some) refl

-- word bytes are ASCII
word_is_ascii : (b : ℕ) → is_word_byte b ≡ true → b < 128
word_is_ascii b is = grind (arith, nat_tests, is)

pub word_is_text : (rest : List ℕ) → IsUtf8 (take (prefix_len is_word_byte rest) rest)
word_is_text rest =
    let n = prefix_len is_word_byte rest in
    IsUtf8-from_ascii (take n rest) (λ i. elim (cases_lt i n) [
      | inl below ↦ rw (get_or-take n rest i 0 below) (word_is_ascii (get_or rest i 0) (prefix_len_passes is_word_byte rest i 0 below))
      | inr past ↦ rw (get_or_past (take n rest) i 0 (omega (arith, past, length-prefix_len is_word_byte rest))) (omega arith)
    ])

pub all_read : (text : List ℕ) (captures : Captured) (template done : List ℕ) (at : ℕ) → length template ≤ at
    → filled text captures template ≡ done ++ filled text captures (drop at template) → filled text captures template ≡ done
unfolding filled_after
all_read text captures template done at past is =
    is ∙ (ap (λ (t : List ℕ). done ++ filled text captures t) (drop_all at template past) ∙ append-nil done)

pub plain : (text : List ℕ) (captures : Captured) (t : List ℕ) → list_any (λ b. b == dollar) t ≡ false → filled text captures t ≡ t
unfolding filled_after
plain text captures [] none = refl
plain text captures (b ∷ t) none =
    elim (b == dollar) as (λ (v : Bool). (b == dollar) ≡ v → filled text captures (b ∷ t) ≡ b ∷ t) [
      | true ↦ λ e. absurd (cc (rw e at none))
      | false ↦ λ e. rw e (ap (λ (s : List ℕ). b ∷ s) (plain text captures t (rw e at none)))
    ] refl
