-- The assertions that hold at a position, from the two sides; and those of Unicode beside ASCII.
use Rattle.std.proofs.Common.{rules, ◌≡◌, ◌↔◌, ℕ, zero, suc, ◌+◌, ◌<◌, ◌≤◌, ◌⊎◌, inl, inr, Bool, true, false, not, ◌&&◌, ◌||◌, cond, true≢false, List, [], ◌∷◌, length, get_or, refl, sym, ap, ◌∙◌, subst, arith, slice_get, Option, Some, None, IsTrue, IfSome}
use Rattle.std.proofs.Math.Bool.{or-false}
use Rattle.std.proofs.lemmas.Option.{slice_get_within, get_or_from_slice_get}
use Rattle.rsc_primitives.specs.Utf8Laws.{slice_one}
use Rattle.rsc_look.specs.Looks.{ascii_counterpart}
use Rattle.rsc_look.proofs.Prelude.{EncodedFrom, BeginsAt, EndsAt, Look, WordUnicode, WordUnicodeNegate, WordStartUnicode, WordEndUnicode, WordStartHalfUnicode, WordEndHalfUnicode, Side, Absent, WordCharacter, Other, byte_before, byte_after, is_word_neighbor, exactly_one, is_invalid, is_word_side, is_absent_or_other, holds_at_bytes, holds_at_sides, IsBefore, IsAfter, Holds, is_unicode, AgreesWithAscii}
use Rattle.rsc_look.proofs.HoldsLemmas.{at_sides, Holds-bytes, Holds-sides, side_is, side_is_after}

-- ---- the assertions that hold at a position

kind : (l : Look) (t : ℕ) (p n : Option ℕ) (a b : Side)
    → ((is_unicode l ≡ true) × (holds_at_bytes l t p n ≡ false)) ⊎ ((is_unicode l ≡ false) × (holds_at_sides l a b ≡ false))
kind WordUnicode t p n a b = search rules
kind _ t p n a b = search rules

is_true : (b : Bool) → (b ≡ true) ↔ IsTrue b
is_true b = ((λ e. e), (λ e. e))

-- both tables together say where an assertion holds
pub holds_by_tables : (l : Look) (t : ℕ) (chars : ℕ → Bool) (h : List ℕ) (i : ℕ) (a b : Side) (has : Bool) → IsBefore chars h i a
    → IsAfter chars h i b
    → has ≡ (holds_at_bytes l t (byte_before h i) (byte_after h i) || holds_at_sides l a b) → (has ≡ true) ↔ Holds l t chars h i
holds_by_tables l t chars h i a b has p q is = go (kind l t (byte_before h i) (byte_after h i) a b)
  where
    go : ((is_unicode l ≡ true) × (holds_at_bytes l t (byte_before h i) (byte_after h i) ≡ false)) ⊎ ((is_unicode l ≡ false)
        × (holds_at_sides l a b ≡ false)) → (has ≡ true) ↔ Holds l t chars h i
    go (inl (u, none)) =
        let same : has ≡ holds_at_sides l a b = is ∙ ap (λ x. x || holds_at_sides l a b) none in
        let s = at_sides l chars h i a b p q in let k = Holds-sides l t chars h i u in
        ((λ e. k.1 (s.0 (sym same ∙ e))), (λ x. same ∙ s.1 (k.0 x)))
    go (inr (u, none)) =
        let same : has ≡ holds_at_bytes l t (byte_before h i) (byte_after h i) =
        is ∙ ap (λ x. holds_at_bytes l t (byte_before h i) (byte_after h i) || x) none
        ∙ or-false (holds_at_bytes l t (byte_before h i) (byte_after h i)) in
        let s = is_true (holds_at_bytes l t (byte_before h i) (byte_after h i)) in let k = Holds-bytes l t chars h i u in
        ((λ e. k.1 (s.0 (sym same ∙ e))), (λ x. same ∙ s.1 (k.0 x)))

-- ---- Unicode beside ASCII

-- the side that a byte below 128 is, or no byte
ascii_side : (ℕ → Bool) → Option ℕ → Side
ascii_side chars None = Absent
ascii_side chars (Some b) = cond (chars b) WordCharacter Other

one_byte : (h : List ℕ) (i b : ℕ) → slice_get h i ≡ Some b → b < 128 → EncodedFrom h i (i + 1) b
one_byte h i b e l =
    let within : i < length h = slice_get_within h i b e in
    let at : get_or h i 0 ≡ b = get_or_from_slice_get h i b 0 e in record {
      ordered = omega arith;
      within = omega (arith, within);
      encoded = rw (slice_one h i (i + 1) refl within, at) (omega (arith, l), refl);
    }

past_end : (h : List ℕ) (i : ℕ) → slice_get h i ≡ None → length h ≤ i
past_end [] i e = omega arith
past_end (x ∷ h) zero e = absurd (cc)
past_end (x ∷ h) (suc i) e = let l = past_end h i e in omega (arith, l)

-- a byte below 128 is a character that ends, or begins, at its end or start
pub EndsAt-ascii : (h : List ℕ) (i b : ℕ) → byte_before h i ≡ Some b → b < 128 → EndsAt h i b
EndsAt-ascii h zero b e l = absurd (cc)
EndsAt-ascii h (suc i) b e l =
    let next : i + 1 ≡ suc i = omega arith in
    (i, subst (λ j. EncodedFrom h i j b) next (one_byte h i b e l))

pub BeginsAt-ascii : (h : List ℕ) (i b : ℕ) → byte_after h i ≡ Some b → b < 128 → BeginsAt h i b
BeginsAt-ascii h i b e l = (i + 1, one_byte h i b e l)

ascii_before : (chars : ℕ → Bool) (h : List ℕ) (i : ℕ) → i ≤ length h → IfSome (byte_before h i) (λ b. b < 128)
    → IsBefore chars h i (ascii_side chars (byte_before h i))
unfolding ascii_side
ascii_before chars h zero l low = refl
ascii_before chars h (suc i) l low = go (slice_get h i) refl low
  where
    go : (o : Option ℕ) → slice_get h i ≡ o → IfSome o (λ b. b < 128) → IsBefore chars h (suc i) (ascii_side chars o)
    go None e x = absurd (omega (arith, l, past_end h i e))
    go (Some b) e x = side_is chars h (suc i) b (EndsAt-ascii h (suc i) b e x)

ascii_after : (chars : ℕ → Bool) (h : List ℕ) (i : ℕ) → i ≤ length h → IfSome (byte_after h i) (λ b. b < 128)
    → IsAfter chars h i (ascii_side chars (byte_after h i))
unfolding ascii_side
ascii_after chars h i l low = go (slice_get h i) refl low
  where
    go : (o : Option ℕ) → slice_get h i ≡ o → IfSome o (λ b. b < 128) → IsAfter chars h i (ascii_side chars o)
    go None e x = omega (arith, l, past_end h i e)
    go (Some b) e x = side_is_after chars h i b (BeginsAt-ascii h i b e x)

-- what a word assertion makes of whether a word character is before and whether one is after
by_word_characters : Look → Bool → Bool → Bool
by_word_characters WordUnicode a b = exactly_one a b
by_word_characters WordUnicodeNegate a b = not (exactly_one a b)
by_word_characters WordStartUnicode a b = b && not a
by_word_characters WordEndUnicode a b = a && not b
by_word_characters WordStartHalfUnicode a b = not a
by_word_characters WordEndHalfUnicode a b = not b
by_word_characters _ a b = false

of_bytes : (l : Look) (t : ℕ) (p n : Option ℕ) → is_unicode l ≡ true
    → holds_at_bytes (ascii_counterpart l) t p n ≡ by_word_characters l (is_word_neighbor p) (is_word_neighbor n)
unfolding by_word_characters
of_bytes WordUnicode t p n u = cc
of_bytes _ t p n u = cc

-- a side that isn't invalid
record IsValid (a : Side) (accepted : Bool) : Type 0 where
  invalid : is_invalid a ≡ false
  is_word_character : is_word_side a ≡ accepted
  absent_or_other : is_absent_or_other a ≡ not accepted

of_sides : (l : Look) (a b : Side) (x y : Bool) → is_unicode l ≡ true → IsValid a x → IsValid b y → holds_at_sides l a b ≡ by_word_characters l x y
unfolding by_word_characters
of_sides WordUnicode a b x y u v w = rw (v.is_word_character, w.is_word_character) refl
of_sides WordUnicodeNegate a b x y u v w = rw (v.invalid, w.invalid, v.is_word_character, w.is_word_character) refl
of_sides WordStartUnicode a b x y u v w = rw (v.is_word_character, w.is_word_character) refl
of_sides WordEndUnicode a b x y u v w = rw (v.is_word_character, w.is_word_character) refl
of_sides WordStartHalfUnicode a b x y u v w = v.absent_or_other
of_sides WordEndHalfUnicode a b x y u v w = w.absent_or_other
of_sides _ a b x y u v w = absurd (true≢false (sym u))

valid : (chars : ℕ → Bool) (p : Option ℕ) → AgreesWithAscii chars → IfSome p (λ b. b < 128) → IsValid (ascii_side chars p) (is_word_neighbor p)
unfolding ascii_side
valid chars None agrees low = record { invalid = refl; is_word_character = refl; absent_or_other = refl }
valid chars (Some b) agrees low = subst (λ x. IsValid (cond (chars b) WordCharacter Other) x) (agrees b low) (go (chars b))
  where
    go : (v : Bool) → IsValid (cond v WordCharacter Other) v
    go true = record { invalid = refl; is_word_character = refl; absent_or_other = refl }
    go false = record { invalid = refl; is_word_character = refl; absent_or_other = refl }

ascii_is_bytes : (l : Look) → is_unicode (ascii_counterpart l) ≡ false
ascii_is_bytes WordUnicode = refl
ascii_is_bytes _ = refl

own : (l : Look) → (is_unicode l ≡ true) ⊎ (ascii_counterpart l ≡ l)
own WordUnicode = search rules
own _ = search rules

-- between neighbours that are absent or below 128, a Unicode assertion is its ASCII counterpart
pub ascii_suffices : (l : Look) (t : ℕ) (chars : ℕ → Bool) (h : List ℕ) (i : ℕ) → i ≤ length h → AgreesWithAscii chars
    → IfSome (byte_before h i) (λ b. b < 128)
    → IfSome (byte_after h i) (λ b. b < 128) → Holds l t chars h i ↔ Holds (ascii_counterpart l) t chars h i
ascii_suffices l t chars h i low agrees before after = go (own l)
  where
    p : Option ℕ
    p = byte_before h i

    n : Option ℕ
    n = byte_after h i

    go : (is_unicode l ≡ true) ⊎ (ascii_counterpart l ≡ l) → Holds l t chars h i ↔ Holds (ascii_counterpart l) t chars h i
    go (inr e) = subst (λ m. Holds l t chars h i ↔ Holds m t chars h i) (sym e) ((λ x. x), (λ x. x))
    go (inl u) =
        let same : holds_at_sides l (ascii_side chars p) (ascii_side chars n) ≡ holds_at_bytes (ascii_counterpart l) t p n =
        of_sides l (ascii_side chars p) (ascii_side chars n) (is_word_neighbor p) (is_word_neighbor n) u
        (valid chars p agrees before) (valid chars n agrees after) ∙ sym (of_bytes l t p n u) in
        let s = at_sides l chars h i (ascii_side chars p) (ascii_side chars n) (ascii_before chars h i low before) (ascii_after chars h i low after) in
        let k = Holds-sides l t chars h i u in let b = Holds-bytes (ascii_counterpart l) t chars h i (ascii_is_bytes l) in
        let v = is_true (holds_at_bytes (ascii_counterpart l) t p n) in (
          (λ x. b.1 (v.0 (sym same ∙ s.1 (k.0 x)))),
          (λ y. k.1 (s.0 (same ∙ v.1 (b.0 y)))),
        )
