-- The boundaries of assertions make the coarsest partition that keeps them: each is needed, and all together are enough.
use Rattle.std.proofs.Common.{◌≡◌, ℕ, zero, suc, ◌+◌, ◌<◌, ◌≤◌, Bool, true, false, ◌&&◌, ◌||◌, eqb, nat_eq, nat_lt, cond, List, [], ◌∷◌, refl, sym, ap, ◌∙◌, arith, ◌⊎◌, inl, inr, true≢false, not, ltb, ◌↔◌, subst, slice_index, length, Contains, nat_cmp}
use Rattle.std.specs.List.{list_any, list_all}
use Rattle.std.proofs.lemmas.Bool.Decides.{nat_tests}
use Rattle.rsc_look.proofs.Prelude.{HasBoundariesOf, is_word_byte, EncodedFrom, Look, Start, End, StartLF, EndLF, StartCRLF, EndCRLF, WordUnicode, WordUnicodeNegate, WordEndAscii, WordStartUnicode, WordEndUnicode, WordStartHalfAscii, WordStartHalfUnicode, WordEndHalfUnicode, Side, Absent, WordCharacter, Other, exactly_one, byte_before, byte_after, holds_at_bytes, IsBefore, IsAfter, holds_at_sides, is_unicode, AgreesWithAscii, Tells, Numbers, is_boundary_of_set, contains-joined, word_byte_boundaries, AreTogether, class_map, Holds, boundaries_of_looks, IsHaystack, AreInterchanged, DifferInAscii, Keeps, IsCoarsest, AgreesWhereAsked, IsNeeded, IsCoarsestMap, alike_alone, not_told, HasNeededBoundaries, boundaries_of_look, same_as_only, is_its_member}
use Rattle.rsc_look.proofs.BoundariesLemmas.{is_boundary_of_byte, word_byte_boundary_numbers, is_word_byte_boundary, is_boundary_of, contains-word_byte_boundaries, is_boundary_of_each, contains-boundaries_of_looks, contains-boundaries_of_look, TogetherAt-slice_get, TogetherAt-before, holds_at_bytes-same}
use Rattle.rsc_look.proofs.HoldsLemmas.{at_sides, Holds-bytes, Holds-sides, side_is, side_is_after, HoldsAtSides-moves, Interchange, Interchange-from, Interchange-sym}
use Rattle.std.proofs.lemmas.Bool.{agree_below_at, eqb-true, true_from_ne_false, or_right}
use Rattle.std.specs.Cmp.{nat_cmp_total}
use Rattle.std.specs.FinSet as sets
use Rattle.std.specs.FinSet.{same_set, nat_cmp-IsAntisymmetric, contains-empty}
use Rattle.std.proofs.lemmas.List.Folds.{list_any_at, Any-from_list_any}
use Rattle.std.proofs.lemmas.List.Sums.{AllPass-from_list_all}

-- ---- each boundary of an assertion is needed: at one end of a haystack of one byte the assertion tells that byte from the next

-- the end of a haystack of one byte at which the assertion looks at that byte
abbrev pub told_at : Look → ℕ
told_at StartLF = 1
told_at StartCRLF = 1
told_at WordEndAscii = 1
told_at WordEndUnicode = 1
told_at WordStartHalfAscii = 1
told_at WordStartHalfUnicode = 1
told_at _ = 0

pub told_at_le : (l : Look) → told_at l ≤ 1
told_at_le StartLF = omega arith
told_at_le _ = omega arith

-- the side that a byte below 128 makes
abbrev side_of : ℕ → Side
side_of b = cond (is_word_byte b) WordCharacter Other

-- what the assertion says of a haystack of one byte, as a test
abbrev alone_at_bytes : Look → ℕ → ℕ → Bool
alone_at_bytes l t b = holds_at_bytes l t (byte_before (b ∷ []) (told_at l)) (byte_after (b ∷ []) (told_at l))

abbrev sides_at : ℕ → ℕ → Side × Side
sides_at zero b = (Absent, side_of b)
sides_at (suc i) b = (side_of b, Absent)

abbrev alone_at_sides : Look → ℕ → Bool
alone_at_sides l b = holds_at_sides l (sides_at (told_at l) b).0 (sides_at (told_at l) b).1

-- ---- a haystack of one byte below 128

encoded_alone : (b : ℕ) → b < 128 → EncodedFrom (b ∷ []) 0 1 b
encoded_alone b l = record { ordered = omega arith; within = omega arith; encoded = (omega arith, refl) }

before_alone : (chars : ℕ → Bool) (b : ℕ) → b < 128 → chars b ≡ is_word_byte b → IsBefore chars (b ∷ []) 1 (side_of b)
before_alone chars b l w = rw (← w) (side_is chars (b ∷ []) 1 b (0, encoded_alone b l))

after_alone : (chars : ℕ → Bool) (b : ℕ) → b < 128 → chars b ≡ is_word_byte b → IsAfter chars (b ∷ []) 0 (side_of b)
after_alone chars b l w = rw (← w) (side_is_after chars (b ∷ []) 0 b (1, encoded_alone b l))

sides_alone : (chars : ℕ → Bool) (b i : ℕ) → b < 128 → chars b ≡ is_word_byte b → i ≤ 1
    → IsBefore chars (b ∷ []) i (sides_at i b).0 × IsAfter chars (b ∷ []) i (sides_at i b).1
sides_alone chars b zero l w h = (refl, after_alone chars b l w)
sides_alone chars b (suc zero) l w h = (before_alone chars b l w, refl)
sides_alone chars b (suc (suc i)) l w h = absurd (omega arith)

-- ---- from tests to facts

Tells-from : (A B : Type 0) (x y : Bool) → (A → x ≡ true) → (x ≡ true → A) → (B → y ≡ true) → (y ≡ true → B)
    → exactly_one x y ≡ true
    → (A × (B → ⊥)) ⊎ ((A → ⊥) × B)
Tells-from A B true true f g m n e = absurd (true≢false (sym e))
Tells-from A B true false f g m n e = inl (g refl, λ b. true≢false (sym (m b)))
Tells-from A B false true f g m n e = inr ((λ a. true≢false (sym (f a))), n refl)
Tells-from A B false false f g m n e = absurd (true≢false (sym e))

tells_bytes : (l : Look) (t : ℕ) (chars : ℕ → Bool) (b : ℕ) → is_unicode l ≡ false
    → exactly_one (alone_at_bytes l t b) (alone_at_bytes l t (b + 1)) ≡ true
    → Tells l t chars (b ∷ []) ((b + 1) ∷ []) (told_at l)
tells_bytes l t chars b e x =
    rw e (Tells-from _ _ (alone_at_bytes l t b) (alone_at_bytes l t (b + 1)) (λ q. q) (λ q. q) (λ q. q) (λ q. q) x)

tells_sides : (l : Look) (t : ℕ) (chars : ℕ → Bool) (b : ℕ) → is_unicode l ≡ true → AgreesWithAscii chars → b + 1 < 128
    → exactly_one (alone_at_sides l b) (alone_at_sides l (b + 1)) ≡ true → Tells l t chars (b ∷ []) ((b + 1) ∷ []) (told_at l)
tells_sides l t chars b e a lt x =
    let here : b < 128 = omega arith in
    let s = sides_alone chars b (told_at l) here (a b here) (told_at_le l) in
    let u = sides_alone chars (b + 1) (told_at l) lt (a (b + 1) lt) (told_at_le l) in
    let p = at_sides l chars (b ∷ []) (told_at l) _ _ s.0 s.1 in
    let q = at_sides l chars ((b + 1) ∷ []) (told_at l) _ _ u.0 u.1 in
    rw e (Tells-from _ _ (alone_at_sides l b) (alone_at_sides l (b + 1)) p.1 p.0 q.1 q.0 x)

-- ---- the boundaries, one by one

-- a test that each number of a list passes
each_passes : (test : ℕ → Bool) (xs : List ℕ) (b : ℕ) → list_any (λ x. nat_eq x b) xs ≡ true → list_all test xs ≡ true → test b ≡ true
each_passes test xs b m h =
    let found = Any-from_list_any (λ x. nat_eq x b) xs m in
    ap test (sym (found.3 ∙ eqb-true found.1 b found.4)) ∙ AllPass-from_list_all test xs h found.0 found.1 found.2

-- a boundary of the word bytes lies below 127
pub below_127 : (b : ℕ) → is_word_byte_boundary b ≡ true → b + 1 < 128
below_127 b m = let e = each_passes (λ x. nat_lt (x + 1) 128) word_byte_boundary_numbers b m refl in grind (arith, nat_tests)

tells_word_bytes : (l : Look) (t : ℕ) (chars : ℕ → Bool) (b : ℕ) → is_unicode l ≡ false
    → list_all (λ x. exactly_one (alone_at_bytes l t x) (alone_at_bytes l t (x + 1))) word_byte_boundary_numbers ≡ true
    → is_word_byte_boundary b ≡ true
    → Tells l t chars (b ∷ []) ((b + 1) ∷ []) (told_at l)
tells_word_bytes l t chars b e h m =
    tells_bytes l t chars b e (each_passes (λ x. exactly_one (alone_at_bytes l t x) (alone_at_bytes l t (x + 1))) word_byte_boundary_numbers b m h)

tells_word_sides : (l : Look) (t : ℕ) (chars : ℕ → Bool) (b : ℕ) → is_unicode l ≡ true → AgreesWithAscii chars
    → list_all (λ x. exactly_one (alone_at_sides l x) (alone_at_sides l (x + 1))) word_byte_boundary_numbers ≡ true → is_word_byte_boundary b ≡ true
    → Tells l t chars (b ∷ []) ((b + 1) ∷ []) (told_at l)
tells_word_sides l t chars b e a h m = tells_sides l t chars b e a (below_127 b m)
    (each_passes (λ x. exactly_one (alone_at_sides l x) (alone_at_sides l (x + 1))) word_byte_boundary_numbers b m h)

tells_line : (t b : ℕ) → is_boundary_of_byte t b ≡ true → exactly_one (eqb b t) (eqb (b + 1) t) ≡ true
tells_line t b m = grind (arith, nat_tests)

crlf_listed : (b : ℕ) → (is_boundary_of_byte 13 b || is_boundary_of_byte 10 b) ≡ true
    → list_any (λ x. nat_eq x b) (12 ∷ 13 ∷ 9 ∷ 10 ∷ []) ≡ true
crlf_listed b m = grind (arith, nat_tests)

-- each boundary of an assertion is told by it
pub Tells-boundary : (l : Look) (t : ℕ) (chars : ℕ → Bool) (b : ℕ) → (is_unicode l ≡ true → AgreesWithAscii chars)
    → is_boundary_of l t b ≡ true
    → Tells l t chars (b ∷ []) ((b + 1) ∷ []) (told_at l)
Tells-boundary Start t chars b a m = absurd (true≢false (sym m))
Tells-boundary End t chars b a m = absurd (true≢false (sym m))
Tells-boundary StartLF t chars b a m = tells_bytes StartLF t chars b refl (tells_line t b m)
Tells-boundary EndLF t chars b a m = tells_bytes EndLF t chars b refl (tells_line t b m)
Tells-boundary StartCRLF t chars b a m = tells_bytes StartCRLF t chars b refl
    (each_passes (λ x. exactly_one (alone_at_bytes StartCRLF t x) (alone_at_bytes StartCRLF t (x + 1))) (12 ∷ 13 ∷ 9 ∷ 10 ∷ []) b (crlf_listed b m)
    refl)
Tells-boundary EndCRLF t chars b a m = tells_bytes EndCRLF t chars b refl
    (each_passes (λ x. exactly_one (alone_at_bytes EndCRLF t x) (alone_at_bytes EndCRLF t (x + 1))) (12 ∷ 13 ∷ 9 ∷ 10 ∷ []) b (crlf_listed b m) refl)
Tells-boundary WordUnicode t chars b a m = tells_word_sides WordUnicode t chars b refl (a refl) refl m
Tells-boundary WordUnicodeNegate t chars b a m = tells_word_sides WordUnicodeNegate t chars b refl (a refl) refl m
Tells-boundary WordStartUnicode t chars b a m = tells_word_sides WordStartUnicode t chars b refl (a refl) refl m
Tells-boundary WordEndUnicode t chars b a m = tells_word_sides WordEndUnicode t chars b refl (a refl) refl m
Tells-boundary WordStartHalfUnicode t chars b a m = tells_word_sides WordStartHalfUnicode t chars b refl (a refl) refl m
Tells-boundary WordEndHalfUnicode t chars b a m = tells_word_sides WordEndHalfUnicode t chars b refl (a refl) refl m
Tells-boundary l t chars b a m = tells_word_bytes l t chars b refl refl m

-- ---- the boundaries of the word bytes are where two neighbouring bytes differ: computed for all 255 of them

-- of b and the next byte, one is a word byte
abbrev pub differs : ℕ → Bool
differs b = exactly_one (is_word_byte b) (is_word_byte (b + 1))

-- such a byte below 255 is at a boundary, and there is no boundary above
pub differs-is_word_byte_boundary : (b : ℕ) → (ltb b 255 && differs b) ≡ is_word_byte_boundary b
differs-is_word_byte_boundary b = go (ltb b 255) (is_word_byte_boundary b) refl refl
  where
    go : (x y : Bool) → ltb b 255 ≡ x → is_word_byte_boundary b ≡ y → (x && differs b) ≡ y
    go true y e f = agree_below_at differs is_word_byte_boundary 255 b refl (grind (arith, nat_tests)) ∙ f
    go false false e f = refl
    go false true e f = absurd (let s = below_127 b f in grind (arith, nat_tests))

-- ---- the boundaries of the runs of the word bytes

-- a set's membership differs where exactly one of two neighbours is a member
is_boundary_of_set-is : (bytes : Numbers) → ((b : ℕ) → sets.contains bytes b ≡ is_word_byte b) → (b : ℕ)
    → is_boundary_of_set bytes b ≡ (ltb b 255 && differs b)
is_boundary_of_set-is bytes same b = rw (same b, same (b + 1)) (ap (λ x. ltb b 255 && x) (by_cases (is_word_byte b) (is_word_byte (b + 1))))
  where
    by_cases : (x y : Bool) → ((x && not y) || (not x && y)) ≡ exactly_one x y
    by_cases true true = refl
    by_cases _ _ = refl

-- what `add_set` of the word bytes leaves of a set of boundaries
pub word_byte_boundaries_added : (old new bytes : Numbers) → ((b : ℕ) → sets.contains bytes b ≡ is_word_byte b)
    → ((b : ℕ) → sets.contains new b ≡ (sets.contains old b || is_boundary_of_set bytes b)) → new ≡ sets.union old word_byte_boundaries
word_byte_boundaries_added old new bytes same added = same_set nat_cmp_total nat_cmp-IsAntisymmetric new (sets.union old word_byte_boundaries) (λ b.
    added b ∙ ap (λ x. sets.contains old b || x) (is_boundary_of_set-is bytes same b ∙ differs-is_word_byte_boundary b
    ∙ sym (contains-word_byte_boundaries b))
    ∙ sym (contains-joined old word_byte_boundaries b))

-- ---- the boundaries of a list's members make the coarsest partition that keeps them

-- the six have the boundaries of the word bytes
pub is_boundary_of-unicode : (l : Look) (t b : ℕ) → is_unicode l ≡ true → is_boundary_of l t b ≡ is_word_byte_boundary b
is_boundary_of-unicode Start t b e = cc
is_boundary_of-unicode _ t b e = cc

-- ---- one assertion is kept by every partition that has its boundaries

-- the twelve assertions on bytes are kept
pub kept_at_bytes : (p : ℕ → Bool) (l : Look) (t : ℕ) (chars : ℕ → Bool) → HasBoundariesOf p (is_boundary_of l t) → is_unicode l ≡ false
    → (h k : List ℕ)
    → AreInterchanged p h k
    → (i : ℕ) → Holds l t chars h i ↔ Holds l t chars k i
kept_at_bytes p l t chars m e h k s i =
    let same : holds_at_bytes l t (byte_before h i) (byte_after h i) ≡ holds_at_bytes l t (byte_before k i) (byte_after k i) =
    holds_at_bytes-same p l t m (byte_before h i) (byte_before k i) (byte_after h i) (byte_after k i) (TogetherAt-before p h k i s)
    (TogetherAt-slice_get p h k i s) in
    let a = Holds-bytes l t chars h i e in
    let b = Holds-bytes l t chars k i e in
    ((λ x. b.1 (sym same ∙ a.0 x)), (λ x. a.1 (same ∙ b.0 x)))

-- the six assertions on characters are kept
pub kept_at_characters : (p : ℕ → Bool) (l : Look) (t : ℕ) (chars : ℕ → Bool) → AgreesWithAscii chars → HasBoundariesOf p (is_boundary_of l t)
    → is_unicode l ≡ true → (h k : List ℕ)
    → AreInterchanged p h k → DifferInAscii h k → (i : ℕ) → Holds l t chars h i ↔ Holds l t chars k i
kept_at_characters p l t chars ascii m e h k s d i =
    let word_bytes : HasBoundariesOf p is_word_byte_boundary = λ b q x. m b q (is_boundary_of-unicode l t b e ∙ x) in
    let w : Interchange chars h k = Interchange-from p chars h k ascii word_bytes s d in
    let a = Holds-sides l t chars h i e in
    let b = Holds-sides l t chars k i e in
    ((λ x. b.1 (HoldsAtSides-moves l chars h k i w (a.0 x))), (λ x. a.1 (HoldsAtSides-moves l chars k h i (Interchange-sym chars h k w) (b.0 x))))

-- a partition with the boundaries of a list has those of each member
members_boundaries : (p : ℕ → Bool) (looks : List Look) (l : Look) (t : ℕ) → HasBoundariesOf p (is_boundary_of_each looks t) → Contains looks l
    → HasBoundariesOf p (is_boundary_of l t)
members_boundaries p looks l t has c b lt m = has b lt (list_any_at (λ x. is_boundary_of x t b) looks c.0 l c.1 (ap (λ x. is_boundary_of x t b) c.2 ∙ m))

pub Keeps-from : (p : ℕ → Bool) (looks : List Look) (t : ℕ) (chars : ℕ → Bool) → HasBoundariesOf p (is_boundary_of_each looks t)
    → AgreesWhereAsked chars looks → Keeps p looks t chars
Keeps-from p looks t chars has a = record {
  at_bytes = λ l c e h k s i r. kept_at_bytes p l t chars (members_boundaries p looks l t has c) e h k s i;
  at_characters = λ l c e h k s d i r. kept_at_characters p l t chars (a l c e) (members_boundaries p looks l t has c) e h k s d i;
}

-- ---- each boundary is needed

differ_alone : (b : ℕ) → b + 1 < 128 → DifferInAscii (b ∷ []) ((b + 1) ∷ [])
differ_alone b h zero l n = (omega arith, h)
differ_alone b h (suc i) l n = absurd (omega arith)

-- a partition that keeps an assertion has each boundary of it
pub boundary_is_needed : (q : ℕ → Bool) (looks : List Look) (l : Look) (t : ℕ) (chars : ℕ → Bool) (b : ℕ)
    → (is_unicode l ≡ true → AgreesWithAscii chars)
    → Keeps q looks t chars → Contains looks l → b < 255 → is_boundary_of l t b ≡ true → q b ≡ true
boundary_is_needed q looks l t chars b a keeps c lt m = true_from_ne_false (q b) (λ e. go e (is_unicode l) refl)
  where
    told : Tells l t chars (b ∷ []) ((b + 1) ∷ []) (told_at l)
    told = Tells-boundary l t chars b a m

    go : q b ≡ false → (u : Bool) → is_unicode l ≡ u → ⊥
    go e false f = not_told _ _ (keeps.at_bytes l c f (b ∷ []) ((b + 1) ∷ []) (alike_alone q b lt e) (told_at l) (told_at_le l)) told
    go e true f = not_told _ _
        (keeps.at_characters l c f (b ∷ []) ((b + 1) ∷ []) (alike_alone q b lt e)
        (differ_alone b (below_127 b (sym (is_boundary_of-unicode l t b f) ∙ m)))
        (told_at l) (told_at_le l)) told

-- the member whose boundary it is
member_with : (looks : List Look) (t b : ℕ) → sets.contains (boundaries_of_looks looks t) b ≡ true
    → (l : Look) × Contains looks l × (is_boundary_of l t b ≡ true)
member_with looks t b m =
    let found = Any-from_list_any (λ l. is_boundary_of l t b) looks (sym (contains-boundaries_of_looks looks t b) ∙ m) in
    (found.1, (found.0, found.2, found.3), found.4)

boundaries-IsCoarsest : (looks : List Look) (t : ℕ) (chars : ℕ → Bool) → AgreesWhereAsked chars looks
    → IsCoarsest (sets.contains (boundaries_of_looks looks t)) looks t chars
boundaries-IsCoarsest looks t chars a = record {
  keeps = Keeps-from (sets.contains (boundaries_of_looks looks t)) looks t chars (λ b lt m. contains-boundaries_of_looks looks t b ∙ m) a;
  least = λ q keeps b lt m. let y = member_with looks t b m in boundary_is_needed q looks y.0 t chars b (a y.0 y.1) keeps y.1 lt y.2;
}

boundaries-IsNeeded : (looks : List Look) (t : ℕ) (chars : ℕ → Bool) (b : ℕ) → AgreesWhereAsked chars looks
    → sets.contains (boundaries_of_looks looks t) b ≡ true → IsNeeded b looks t chars
boundaries-IsNeeded looks t chars b a m =
    let y = member_with looks t b m in
    record { look = y.0; listed = y.1; position = told_at y.0; at_an_end = told_at_le y.0; tells = Tells-boundary y.0 t chars b (a y.0 y.1) y.2 }

-- the class map of the members' boundaries is that of the coarsest partition
pub IsCoarsestMap-from : (m : List ℕ) (looks : List Look) (t : ℕ) (chars : ℕ → Bool) → m ≡ class_map (sets.contains (boundaries_of_looks looks t))
    → AgreesWhereAsked chars looks → IsCoarsestMap m looks t chars
IsCoarsestMap-from m looks t chars is a = record {
  boundaries = sets.contains (boundaries_of_looks looks t);
  classes = is;
  coarsest = boundaries-IsCoarsest looks t chars a;
  needed = λ b lt e. boundaries-IsNeeded looks t chars b a e;
}

-- haystacks whose bytes at each position have one class are interchanged, where one class is to be together
pub AreInterchanged-from_classes : (m : List ℕ) (p : ℕ → Bool) (h k : List ℕ)
    → ((q : ℕ → Bool) (b c : ℕ) → b < 256 → c < 256 → (slice_index (class_map q) b ≡ slice_index (class_map q) c) ↔ AreTogether q b c)
    → m ≡ class_map p → IsHaystack h → IsHaystack k → length h ≡ length k
    → ((i : ℕ) → i < length h → slice_index m (slice_index h i) ≡ slice_index m (slice_index k i)) → AreInterchanged p h k
AreInterchanged-from_classes m p h k one classes first second len same = record {
  first = first;
  second = second;
  same_length = len;
  together = λ j lt. (one p (slice_index h j) (slice_index k j) (first j 0 lt) (second j 0 (subst (λ n. j < n) len lt))).0
      (subst (λ c. slice_index c (slice_index h j) ≡ slice_index c (slice_index k j)) classes (same j lt));
}

-- ---- one assertion and its boundaries

-- a set that got the boundaries of an assertion has them
has_boundaries : (old new : Numbers) (l : Look) (t : ℕ) → new ≡ sets.union old (boundaries_of_look l t)
    → HasBoundariesOf (sets.contains new) (is_boundary_of l t)
has_boundaries old new l t e b lt m =
    ap (λ s. sets.contains s b) e ∙ contains-joined old (boundaries_of_look l t) b
    ∙ or_right (sets.contains old b) (sets.contains (boundaries_of_look l t) b) (contains-boundaries_of_look l t b ∙ m)

-- a set with the boundaries of one more assertion is exact for it
pub HasNeededBoundaries-from : (old new : Numbers) (l : Look) (t : ℕ) (chars : ℕ → Bool) → new ≡ sets.union old (boundaries_of_look l t)
    → (is_unicode l ≡ true → AgreesWithAscii chars) → HasNeededBoundaries (sets.contains new) l t chars
HasNeededBoundaries-from old new l t chars e a = record {
  kept = λ q f.
      let m : HasBoundariesOf q (is_boundary_of l t) = λ b lt x. f b lt (has_boundaries old new l t e b lt x) in
      record {
        at_bytes = λ k c u h j s i r. let z = same_as_only l k c in let v : is_unicode l ≡ false = ap is_unicode z
            ∙ u in subst (λ x. Holds x t chars h i ↔ Holds x t chars j i) z (kept_at_bytes q l t chars m v h j s i);
        at_characters = λ k c u h j s d i r. let z = same_as_only l k c in let v : is_unicode l ≡ true = ap is_unicode z
            ∙ u in subst (λ x. Holds x t chars h i ↔ Holds x t chars j i) z
            (kept_at_characters q l t chars (a v) m v h j s d i);
      };
  least = λ q keeps b lt m. boundary_is_needed q (l ∷ []) l t chars b a keeps (is_its_member l) lt (sym (contains-boundaries_of_look l t b) ∙ m);
  needed = λ b lt m. record {
    look = l;
    listed = is_its_member l;
    position = told_at l;
    at_an_end = told_at_le l;
    tells =
        Tells-boundary l t chars b a (sym (contains-boundaries_of_look l t b) ∙ m);
  };
}

-- the same of the assertion's own boundaries alone
pub HasNeededBoundaries_own : (l : Look) (t : ℕ) (chars : ℕ → Bool) → (is_unicode l ≡ true → AgreesWithAscii chars)
    → HasNeededBoundaries (sets.contains (boundaries_of_look l t)) l t chars
HasNeededBoundaries_own l t chars =
    HasNeededBoundaries-from sets.empty (boundaries_of_look l t) l t chars (same_set nat_cmp_total nat_cmp-IsAntisymmetric _ _ (λ b.
    sym (contains-joined sets.empty (boundaries_of_look l t) b ∙ ap (λ x. x || sets.contains (boundaries_of_look l t) b) (contains-empty nat_cmp b))))
