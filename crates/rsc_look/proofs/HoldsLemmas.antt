-- Where an assertion holds, by the two sides of a position; none on characters holds inside an encoded character.
use Rattle.std.specs.Bool.{beq}
use Rattle.std.proofs.Common.{cond, not, ◌&&◌, ap₂, ◌≡◌, ◌↔◌, ℕ, ◌-◌, ◌<◌, ◌≤◌, Bool, true, false, List, length, get_or, refl, sym, ap, ◌∙◌, subst, arith, inl, inr, ⊎_elim, true≢false, IsTrue}
use Rattle.std.proofs.lemmas.Bool.{cases_eq, cases_Bool, false_from_ne_true}
use Rattle.rsc_look.proofs.Prelude.{HasBoundariesOf, is_word_byte, BeginsAt, EndsAt, EncodedFrom, AgreePastAscii, EncodedFrom-agree, BeginsAt-same, EndsAt-same, Look, Side, Absent, Invalid, WordCharacter, Other, IsBefore, IsAfter, HoldsAtSides, holds_at_sides, exactly_one, is_invalid, is_word_side, is_absent_or_other, Holds, WordUnicode, WordUnicodeNegate, WordStartUnicode, WordEndUnicode, WordStartHalfUnicode, WordEndHalfUnicode, BeginsAt-decided, EndsAt-decided, IsSideOf, is_unicode, AreInterchanged, DifferInAscii, AgreesWithAscii, IsInside, IsInside-begins, IsInside-ends}
use Rattle.rsc_look.proofs.BoundariesLemmas.{is_word_byte_boundary, AreTogether-is_word_byte}

-- an encoding has some bytes, so no character ends at the start and none begins at the end
some_bytes : (h : List ℕ) (i j c : ℕ) → EncodedFrom h i j c → j ≤ i → ⊥
some_bytes h i j c e l = let none : j - i ≡ 0 = omega arith in rw none at e.encoded

ends_after_start : (h : List ℕ) (c : ℕ) → EndsAt h 0 c → ⊥
ends_after_start h c e = let o = e.1.ordered in some_bytes h e.0 0 c e.1 (omega arith)

begins_before_end : (h : List ℕ) (c : ℕ) → BeginsAt h (length h) c → ⊥
begins_before_end h c e = let w = e.1.within in some_bytes h (length h) e.0 c e.1 w

not_both : (chars : ℕ → Bool) (c d : ℕ) → c ≡ d → chars c ≡ true → chars d ≡ false → ⊥
not_both chars c d e t f = true≢false (sym t ∙ ap chars e ∙ f)

-- a position has one side before it
pub IsBefore-same : (chars : ℕ → Bool) (h : List ℕ) (i : ℕ) (a b : Side) → IsBefore chars h i a → IsBefore chars h i b → a ≡ b
IsBefore-same chars h i Absent Absent p q = refl
IsBefore-same chars h i Absent Invalid p q = absurd (omega arith)
IsBefore-same chars h i Absent WordCharacter p q = absurd (ends_after_start h q.0 (subst (λ x. EndsAt h x q.0) p q.1))
IsBefore-same chars h i Absent Other p q = absurd (ends_after_start h q.0 (subst (λ x. EndsAt h x q.0) p q.1))
IsBefore-same chars h i Invalid Absent p q = absurd (omega arith)
IsBefore-same chars h i Invalid Invalid p q = refl
IsBefore-same chars h i Invalid WordCharacter p q = absurd (p.1 q.0 q.1)
IsBefore-same chars h i Invalid Other p q = absurd (p.1 q.0 q.1)
IsBefore-same chars h i WordCharacter Absent p q = absurd (ends_after_start h p.0 (subst (λ x. EndsAt h x p.0) q p.1))
IsBefore-same chars h i WordCharacter Invalid p q = absurd (q.1 p.0 p.1)
IsBefore-same chars h i WordCharacter WordCharacter p q = refl
IsBefore-same chars h i WordCharacter Other p q = absurd (not_both chars p.0 q.0 (EndsAt-same h i p.0 q.0 p.1 q.1) p.2 q.2)
IsBefore-same chars h i Other Absent p q = absurd (ends_after_start h p.0 (subst (λ x. EndsAt h x p.0) q p.1))
IsBefore-same chars h i Other Invalid p q = absurd (q.1 p.0 p.1)
IsBefore-same chars h i Other WordCharacter p q = absurd (not_both chars q.0 p.0 (EndsAt-same h i q.0 p.0 q.1 p.1) q.2 p.2)
IsBefore-same chars h i Other Other p q = refl

-- and one after it
pub IsAfter-same : (chars : ℕ → Bool) (h : List ℕ) (i : ℕ) (a b : Side) → IsAfter chars h i a → IsAfter chars h i b → a ≡ b
IsAfter-same chars h i Absent Absent p q = refl
IsAfter-same chars h i Absent Invalid p q = absurd (omega arith)
IsAfter-same chars h i Absent WordCharacter p q = absurd (begins_before_end h q.0 (subst (λ x. BeginsAt h x q.0) p q.1))
IsAfter-same chars h i Absent Other p q = absurd (begins_before_end h q.0 (subst (λ x. BeginsAt h x q.0) p q.1))
IsAfter-same chars h i Invalid Absent p q = absurd (omega arith)
IsAfter-same chars h i Invalid Invalid p q = refl
IsAfter-same chars h i Invalid WordCharacter p q = absurd (p.1 q.0 q.1)
IsAfter-same chars h i Invalid Other p q = absurd (p.1 q.0 q.1)
IsAfter-same chars h i WordCharacter Absent p q = absurd (begins_before_end h p.0 (subst (λ x. BeginsAt h x p.0) q p.1))
IsAfter-same chars h i WordCharacter Invalid p q = absurd (q.1 p.0 p.1)
IsAfter-same chars h i WordCharacter WordCharacter p q = refl
IsAfter-same chars h i WordCharacter Other p q = absurd (not_both chars p.0 q.0 (BeginsAt-same h i p.0 q.0 p.1 q.1) p.2 q.2)
IsAfter-same chars h i Other Absent p q = absurd (begins_before_end h p.0 (subst (λ x. BeginsAt h x p.0) q p.1))
IsAfter-same chars h i Other Invalid p q = absurd (q.1 p.0 p.1)
IsAfter-same chars h i Other WordCharacter p q = absurd (not_both chars q.0 p.0 (BeginsAt-same h i q.0 p.0 q.1 p.1) q.2 p.2)
IsAfter-same chars h i Other Other p q = refl

-- at known sides the assertion is its entry in the table
pub at_sides : (l : Look) (chars : ℕ → Bool) (h : List ℕ) (i : ℕ) (a b : Side) → IsBefore chars h i a → IsAfter chars h i b
    → (holds_at_sides l a b ≡ true) ↔ HoldsAtSides l chars h i
at_sides l chars h i a b p q = (
  (λ x. record { before = a; after = b; is_before = p; is_after = q; holds = x }),
  (λ s. rw (IsBefore-same chars h i a s.before p s.is_before, IsAfter-same chars h i b s.after q s.is_after) s.holds),
)

-- `Holds` by the kind of the assertion
pub Holds-bytes : (l : Look) (t : ℕ) (chars : ℕ → Bool) (h : List ℕ) (i : ℕ) → is_unicode l ≡ false → Holds l t chars h i ↔ IsTrue
    (Rattle.rsc_look.specs.Holds.holds_at_bytes l t (Rattle.rsc_look.specs.Holds.byte_before h i) (Rattle.rsc_look.specs.Holds.byte_after h i))
Holds-bytes l t chars h i e = rw e ((λ x. x), (λ x. x))

-- and by its sides
pub Holds-sides : (l : Look) (t : ℕ) (chars : ℕ → Bool) (h : List ℕ) (i : ℕ) → is_unicode l ≡ true → Holds l t chars h i
    ↔ HoldsAtSides l chars h i
Holds-sides l t chars h i e = rw e ((λ x. x), (λ x. x))

-- bytes below 128 instead of one another leave the sides as they are
pub AgreePastAscii-from : (h k : List ℕ) → length h ≡ length k → DifferInAscii h k → AgreePastAscii h k
AgreePastAscii-from h k e d = record { same_length = e; each = λ i l. ⊎_elim (λ s. inl s) (λ n. inr (d i l n)) (cases_eq (get_or h i 0) (get_or k i 0)) }

pub AgreePastAscii-sym : (h k : List ℕ) → AgreePastAscii h k → AgreePastAscii k h
AgreePastAscii-sym h k s = let e = s.same_length in
    record { same_length = sym s.same_length; each = λ i l. ⊎_elim (λ q. inl (sym q)) (λ q. inr (q.1, q.0)) (s.each i (omega arith)) }

-- what two haystacks have in common for the six assertions
pub record Interchange (chars : ℕ → Bool) (h k : List ℕ) : Type 0 where
  pub agree : AgreePastAscii h k
  pub ascii : AgreesWithAscii chars
  pub word_bytes : (i : ℕ) → i < length h → is_word_byte (get_or h i 0) ≡ is_word_byte (get_or k i 0)

-- each of the two has it in common with the other
pub Interchange-sym : (chars : ℕ → Bool) (h k : List ℕ) → Interchange chars h k → Interchange chars k h
Interchange-sym chars h k s = let e = s.agree.same_length in
    record { agree = AgreePastAscii-sym h k s.agree; ascii = s.ascii; word_bytes = λ i l. sym (s.word_bytes i (omega arith)) }

encoded_moves : (chars : ℕ → Bool) (h k : List ℕ) (i j c : ℕ) → Interchange chars h k → EncodedFrom h i j c
    → (d : ℕ) × EncodedFrom k i j d × (chars d ≡ chars c)
encoded_moves chars h k i j c s e =
    ⊎_elim
    (λ q. (c, q.0, refl))
    (λ q.
    let here : i < length h = omega arith in
    let low : get_or h i 0 < 128 = subst (λ x. x < 128) q.1 q.2 in
    (get_or k i 0, q.4, s.ascii (get_or k i 0) q.3 ∙ sym (s.word_bytes i here) ∙ sym (s.ascii (get_or h i 0) low) ∙ ap chars (sym q.1)))
    (EncodedFrom-agree h k i j c s.agree e)

ends_moves : (chars : ℕ → Bool) (h k : List ℕ) (i c : ℕ) → Interchange chars h k → EndsAt h i c → (d : ℕ) × EndsAt k i d
    × (chars d ≡ chars c)
ends_moves chars h k i c s e = let m = encoded_moves chars h k e.0 i c s e.1 in (m.0, (e.0, m.1), m.2)

begins_moves : (chars : ℕ → Bool) (h k : List ℕ) (i c : ℕ) → Interchange chars h k → BeginsAt h i c → (d : ℕ) × BeginsAt k i d
    × (chars d ≡ chars c)
begins_moves chars h k i c s e = let m = encoded_moves chars h k i e.0 c s e.1 in (m.0, (e.0, m.1), m.2)

pub IsBefore-moves : (chars : ℕ → Bool) (h k : List ℕ) (i : ℕ) (a : Side) → Interchange chars h k → IsBefore chars h i a → IsBefore chars k i a
IsBefore-moves chars h k i Absent s p = p
IsBefore-moves chars h k i Invalid s p = (p.0, λ c e. let m = ends_moves chars k h i c (Interchange-sym chars h k s) e in p.1 m.0 m.1)
IsBefore-moves chars h k i WordCharacter s p = let m = ends_moves chars h k i p.0 s p.1 in (m.0, m.1, m.2 ∙ p.2)
IsBefore-moves chars h k i Other s p = let m = ends_moves chars h k i p.0 s p.1 in (m.0, m.1, m.2 ∙ p.2)

pub IsAfter-moves : (chars : ℕ → Bool) (h k : List ℕ) (i : ℕ) (a : Side) → Interchange chars h k → IsAfter chars h i a → IsAfter chars k i a
IsAfter-moves chars h k i Absent s p = p ∙ s.agree.same_length
IsAfter-moves chars h k i Invalid s p = let e = s.agree.same_length in
    (omega arith, λ c e. let m = begins_moves chars k h i c (Interchange-sym chars h k s) e in p.1 m.0 m.1)
IsAfter-moves chars h k i WordCharacter s p = let m = begins_moves chars h k i p.0 s p.1 in (m.0, m.1, m.2 ∙ p.2)
IsAfter-moves chars h k i Other s p = let m = begins_moves chars h k i p.0 s p.1 in (m.0, m.1, m.2 ∙ p.2)

-- an assertion on characters holds in both haystacks or in neither
pub HoldsAtSides-moves : (l : Look) (chars : ℕ → Bool) (h k : List ℕ) (i : ℕ) → Interchange chars h k → HoldsAtSides l chars h i
    → HoldsAtSides l chars k i
HoldsAtSides-moves l chars h k i s p =
    record {
      before = p.before;
      after = p.after;
      is_before = IsBefore-moves chars h k i p.before s p.is_before;
      is_after =
          IsAfter-moves chars h k i p.after s p.is_after;
      holds = p.holds;
    }

-- interchanged haystacks have it in common
pub Interchange-from : (p : ℕ → Bool) (chars : ℕ → Bool) (h k : List ℕ) → AgreesWithAscii chars → HasBoundariesOf p is_word_byte_boundary
    → AreInterchanged p h k → DifferInAscii h k → Interchange chars h k
Interchange-from p chars h k a m s d =
    record {
      agree = AgreePastAscii-from h k s.same_length d;
      ascii = a;
      word_bytes =
          λ i l. AreTogether-is_word_byte p (get_or h i 0) (get_or k i 0) m (s.together i l);
    }

-- ---- for the readers of the two sides: a part of a haystack has the positions of the whole

-- a character that ends or begins here is the side there
pub IsBefore-from_char : (chars : ℕ → Bool) (h : List ℕ) (i c : ℕ) (a : Side) → EndsAt h i c → IsSideOf chars c a → IsBefore chars h i a
IsBefore-from_char chars h i c Absent e s = absurd s
IsBefore-from_char chars h i c Invalid e s = absurd s
IsBefore-from_char chars h i c WordCharacter e s = (c, e, s)
IsBefore-from_char chars h i c Other e s = (c, e, s)

-- the side after a position where a character begins
pub IsAfter-from_char : (chars : ℕ → Bool) (h : List ℕ) (i c : ℕ) (a : Side) → BeginsAt h i c → IsSideOf chars c a → IsAfter chars h i a
IsAfter-from_char chars h i c Absent e s = absurd s
IsAfter-from_char chars h i c Invalid e s = absurd s
IsAfter-from_char chars h i c WordCharacter e s = (c, e, s)
IsAfter-from_char chars h i c Other e s = (c, e, s)

-- and where the class of word characters decides which
pub side_is : (chars : ℕ → Bool) (h : List ℕ) (i b : ℕ) → EndsAt h i b → IsBefore chars h i (cond (chars b) WordCharacter Other)
side_is chars h i b e = go (chars b) refl
  where
    go : (v : Bool) → chars b ≡ v → IsBefore chars h i (cond v WordCharacter Other)
    go true f = (b, e, f)
    go false f = (b, e, f)

-- the same after a position
pub side_is_after : (chars : ℕ → Bool) (h : List ℕ) (i b : ℕ) → BeginsAt h i b → IsAfter chars h i (cond (chars b) WordCharacter Other)
side_is_after chars h i b e = go (chars b) refl
  where
    go : (v : Bool) → chars b ≡ v → IsAfter chars h i (cond v WordCharacter Other)
    go true f = (b, e, f)
    go false f = (b, e, f)

-- ---- each position has a side before it and one after it

-- each position has a side before it
pub has_before : (chars : ℕ → Bool) (h : List ℕ) (i : ℕ) → (a : Side) × IsBefore chars h i a
has_before chars h i =
    ⊎_elim (λ e. (Absent, e))
    (λ ne. ⊎_elim (λ p. ⊎_elim (λ w. (WordCharacter, (p.0, p.1, w))) (λ w. (Other, (p.0, p.1, w))) (cases_Bool (chars p.0)))
    (λ n. (Invalid, (omega (arith, ne), n)))
    (EndsAt-decided h i))
    (cases_eq i 0)

-- and one after it
pub has_after : (chars : ℕ → Bool) (h : List ℕ) (i : ℕ) → i ≤ length h → (a : Side) × IsAfter chars h i a
has_after chars h i o =
    ⊎_elim (λ e. (Absent, e))
    (λ ne. ⊎_elim (λ p. ⊎_elim (λ w. (WordCharacter, (p.0, p.1, w))) (λ w. (Other, (p.0, p.1, w))) (cases_Bool (chars p.0)))
    (λ n. (Invalid, (omega (arith, ne), n)))
    (BeginsAt-decided h i))
    (cases_eq i (length h))

-- `==` of the program on two tests, as `exactly_one`
not_exactly_one : (x y : Bool) → beq x y ≡ not (exactly_one x y)
not_exactly_one true true = refl
not_exactly_one _ _ = refl

exactly_one-ne : (x y : Bool) → not (beq x y) ≡ exactly_one x y
exactly_one-ne true true = refl
exactly_one-ne false true = refl
exactly_one-ne _ _ = refl

-- ---- for the calls: what they compute from one side or from both

module _ (chars : ℕ → Bool) (h : List ℕ) (i : ℕ) (a b : Side) where
  by_sides : (l : Look) (r : Bool) → IsBefore chars h i a → IsAfter chars h i b → r ≡ holds_at_sides l a b → IsTrue r ↔ HoldsAtSides l chars h i
  by_sides l r p q e = let s = at_sides l chars h i a b p q in ((λ x. s.0 (sym e ∙ x)), (λ x. e ∙ s.1 x))

  -- the assertions of both sides, from whether each is a word character
  module _ (x y : Bool) (p : IsBefore chars h i a) (q : IsAfter chars h i b) (e : x ≡ is_word_side a) (f : y ≡ is_word_side b) where
    pub starts : IsTrue (y && not x) ↔ HoldsAtSides WordStartUnicode chars h i
    starts = by_sides WordStartUnicode _ p q (rw (e, f) refl)

    -- a word ends
    pub ends : IsTrue (x && not y) ↔ HoldsAtSides WordEndUnicode chars h i
    ends = by_sides WordEndUnicode _ p q (rw (e, f) refl)

    -- one side is a word character
    pub differs : IsTrue (not (beq x y)) ↔ HoldsAtSides WordUnicode chars h i
    differs = by_sides WordUnicode _ p q (exactly_one-ne x y ∙ ap₂ exactly_one e f)

    -- both sides are word characters or neither, and the position is inside none
    pub agrees : (w v : Bool) → w ≡ is_invalid a → w ≡ false → v ≡ is_invalid b → IsTrue (not v && beq x y)
        ↔ HoldsAtSides WordUnicodeNegate chars h i
    agrees w v g z k =
        let n : is_invalid a ≡ false = sym g ∙ z in
        by_sides WordUnicodeNegate _ p q (rw (n, k, e, f) (ap (λ z. not (is_invalid b) && z) (not_exactly_one (is_word_side a) (is_word_side b))))

module _ (chars : ℕ → Bool) (h : List ℕ) (i : ℕ) (a : Side) where
  by_before : (l : Look) (r : Bool) → i ≤ length h → IsBefore chars h i a → ((b : Side) → r ≡ holds_at_sides l a b) → IsTrue r
      ↔ HoldsAtSides l chars h i
  by_before l r o p e = let q = has_after chars h i o in by_sides chars h i a q.0 l r p q.1 (e q.0)

  -- the half assertions look at one side alone
  pub half_before : (r : Bool) → i ≤ length h → IsBefore chars h i a → r ≡ is_absent_or_other a → IsTrue r
      ↔ HoldsAtSides WordStartHalfUnicode chars h i
  half_before r o p e = by_before WordStartHalfUnicode r o p (λ b. e)

  -- the half assertion of the side after
  pub half_after : (r : Bool) → IsAfter chars h i a → r ≡ is_absent_or_other a → IsTrue r ↔ HoldsAtSides WordEndHalfUnicode chars h i
  half_after r q e = let p = has_before chars h i in by_sides chars h i p.0 a WordEndHalfUnicode r p.1 q e

  -- `\B` doesn't hold after an invalid sequence
  pub invalid_before : (w : Bool) → i ≤ length h → IsBefore chars h i a → w ≡ is_invalid a → w ≡ true → IsTrue false
      ↔ HoldsAtSides WordUnicodeNegate chars h i
  invalid_before w o p e f = by_before WordUnicodeNegate false o p (λ b. let z : is_invalid a ≡ true = sym e ∙ f in rw z)

-- ---- inside an encoded character

bad_before : (chars : ℕ → Bool) (h : List ℕ) (i : ℕ) (a : Side) → IsInside h i → IsBefore chars h i a → a ≡ Invalid
bad_before chars h i Absent s p = let f = s.after_first in absurd (omega arith)
bad_before chars h i Invalid s p = refl
bad_before chars h i WordCharacter s p = absurd (IsInside-ends h i p.0 s p.1)
bad_before chars h i Other s p = absurd (IsInside-ends h i p.0 s p.1)

bad_after : (chars : ℕ → Bool) (h : List ℕ) (i : ℕ) (a : Side) → IsInside h i → IsAfter chars h i a → a ≡ Invalid
bad_after chars h i Absent s p = let f = s.before_last in let w = s.encoded.within in absurd (omega arith)
bad_after chars h i Invalid s p = refl
bad_after chars h i WordCharacter s p = absurd (IsInside-begins h i p.0 s p.1)
bad_after chars h i Other s p = absurd (IsInside-begins h i p.0 s p.1)

neither : (l : Look) → holds_at_sides l Invalid Invalid ≡ false
neither WordUnicode = refl
neither _ = refl

pub Holds-inside : (l : Look) (t : ℕ) (chars : ℕ → Bool) (h : List ℕ) (i : ℕ) → is_unicode l ≡ true → IsInside h i → Holds l t chars h i
    → ⊥
Holds-inside l t chars h i u s p =
    let q = (Holds-sides l t chars h i u).0 p in
    let a = bad_before chars h i q.before s q.is_before in
    let b = bad_after chars h i q.after s q.is_after in
    let e : holds_at_sides l Invalid Invalid ≡ true = rw (a, b) at q.holds in
    true≢false (sym e ∙ neither l)

-- `matches` answers false inside a character
pub matches_inside : (l : Look) (t : ℕ) (chars : ℕ → Bool) (h : List ℕ) (i : ℕ) (r : Bool) → IsTrue r ↔ Holds l t chars h i
    → is_unicode l ≡ true
    → IsInside h i → r ≡ false
matches_inside l t chars h i r e u s = false_from_ne_true r (λ x. Holds-inside l t chars h i u s (e.0 x))
