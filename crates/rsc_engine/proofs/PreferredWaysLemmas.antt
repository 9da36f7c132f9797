-- A pattern has one preferred way, whatever numbers its choices have.
use Rattle.std.proofs.Common.{◌≡◌, ℕ, zero, suc, ◌+◌, ◌-◌, ◌<◌, ◌≤◌, inl, inr, ⊎_elim, Bool, true, false, List, [], ◌∷◌, ◌++◌, length, get_or, refl, sym, ap, ◌∙◌, subst, arith, length-append, Some, None}
use Rattle.std.proofs.lemmas.Bool.{cases_lt}
use Rattle.std.proofs.lemmas.List.{get_or_append_left, get_or-append-add}
use Rattle.std.specs.List.{AllPairs}
use Rattle.rsc_engine.specs.Patterns.{Pattern, Empty, Never, Class, Literal, Assertion, Then, Either, Repeat, Group, Subject, may_be_empty}
use Rattle.rsc_engine.specs.Courses.{Course, Skip, Dead, Byte, Here, After, Choose, Turn, Again, Within, Stand, fresh, chosen, noted, Turns, SomeTurns, GoesOnce, Reaches, FirstTurns, IsFirstOnce}
use Rattle.rsc_engine.specs.PreferredWays.{optional_course, IsOfRanges, bytes_in_order, AreCopies, AreOptionalCopies, IsAgain, IsStar, IsCourseOf, choices, IsPreferredWay}
use Rattle.rsc_engine.specs.RenamedLayout.{AreRenamed, IsOneToOne, AreAlike}
use Rattle.rsc_engine.proofs.RenamedLayoutLemmas.{AreBoth, first_same}

-- ---- the first way of a course is one of its ways, and the only first one

abbrev LeadsOn : ((Stand → Type 0) → Stand → Stand → Type 0) → (Stand → Stand → Type 0) → Type 1
LeadsOn First R = (Wanted : Stand → Type 0) (s t : Stand) → First Wanted s t → R s t × Wanted t

turns-goes : (First : (Stand → Type 0) → Stand → Stand → Type 0) (R : Stand → Stand → Type 0) (w : ℕ) (greedy : Bool) → LeadsOn First R
    → (n : ℕ)
    → LeadsOn (λ Such k l. FirstTurns First R w greedy n Such k l) (Turns R w n)
turns-goes First R w greedy on zero Wanted s t f = ((f.0, f.1), f.2)
turns-goes First R w greedy on (suc n) Wanted s t f =
    let one = on (Reaches Wanted (SomeTurns R w)) (chosen w s) f.2 f.3 in
    let rest = turns-goes First R w greedy on n Wanted f.2 t f.4 in
    ((f.0, f.2, one.0, rest.0), rest.1)

pub new-goes : (x : Subject) (c : Course) → LeadsOn (λ Such k l. IsFirstOnce x c Such k l) (GoesOnce x c)
new-goes x Skip Wanted s t f = f
new-goes x Dead Wanted s t f = absurd f
new-goes x (Byte a b) Wanted s t f = f
new-goes x (Here look) Wanted s t f = f
new-goes x (After c d) Wanted s t f =
    let one = new-goes x c (Reaches Wanted (GoesOnce x d)) s f.0 f.1 in
    let other = new-goes x d Wanted f.0 t f.2 in
    ((f.0, one.0, other.0), other.1)
new-goes x (Choose w c d) Wanted s t f = ⊎_elim
    (λ (g : IsFirstOnce x c Wanted (chosen w s) t). let h = new-goes x c Wanted (chosen w s) t g in ((f.0, inl h.0), h.1))
    (λ (g : (Reaches Wanted (GoesOnce x c) (chosen w s) → ⊥) × IsFirstOnce x d Wanted (chosen w s) t).
    let h = new-goes x d Wanted (chosen w s) t g.1 in ((f.0, inr h.0), h.1))
    f.1
new-goes x (Turn w greedy c) Wanted s t f =
    let g = turns-goes (λ Such k l. IsFirstOnce x c Such k l) (GoesOnce x c) w greedy (new-goes x c) f.0 Wanted s t f.1 in ((f.0, g.0), g.1)
new-goes x (Again w greedy c) Wanted s t f =
    let one = new-goes x c (Reaches Wanted (SomeTurns (GoesOnce x c) w)) s f.0 f.1 in
    let g = turns-goes (λ Such k l. IsFirstOnce x c Such k l) (GoesOnce x c) w greedy (new-goes x c) f.2 Wanted f.0 t f.3 in
    ((f.0, one.0, (f.2, g.0)), g.1)
new-goes x (Within slot c) Wanted s t f =
    let g = new-goes x c (λ l. Wanted (noted (slot + 1) l)) (noted slot s) f.0 f.1 in
    ((f.0, g.0, f.2), subst Wanted (sym f.2) g.1)

abbrev IsOne : ((Stand → Type 0) → Stand → Stand → Type 0) → Type 1
IsOne First = (Wanted : Stand → Type 0) (s t u : Stand) → First Wanted s t → First Wanted s u → t ≡ u

-- where it comes no more it doesn't come once more
over_or_more : (First : (Stand → Type 0) → Stand → Stand → Type 0) (R : Stand → Stand → Type 0) (w : ℕ) (greedy : Bool) → LeadsOn First R
    → (n : ℕ)
    (Wanted : Stand → Type 0) (s t u : Stand) → FirstTurns First R w greedy zero Wanted s t → FirstTurns First R w greedy (suc n) Wanted s u → ⊥
over_or_more First R w true on n Wanted s t u f g =
    let one = on (Reaches Wanted (SomeTurns R w)) (chosen w s) g.2 g.3 in f.3 refl (g.2, one.0, one.1)
over_or_more First R w false on n Wanted s t u f g = g.1 refl (subst Wanted f.1 f.2)

turns-one : (First : (Stand → Type 0) → Stand → Stand → Type 0) (R : Stand → Stand → Type 0) (w : ℕ) (greedy : Bool) → LeadsOn First R
    → IsOne First
    → (m n : ℕ) (Wanted : Stand → Type 0) (s t u : Stand) → FirstTurns First R w greedy m Wanted s t → FirstTurns First R w greedy n Wanted s u
    → t ≡ u
turns-one First R w greedy on one zero zero Wanted s t u f g = f.1 ∙ sym g.1
turns-one First R w greedy on one zero (suc n) Wanted s t u f g = absurd (over_or_more First R w greedy on n Wanted s t u f g)
turns-one First R w greedy on one (suc m) zero Wanted s t u f g = absurd (over_or_more First R w greedy on m Wanted s u t g f)
turns-one First R w greedy on one (suc m) (suc n) Wanted s t u f g =
    let same = one (Reaches Wanted (SomeTurns R w)) (chosen w s) g.2 f.2 g.3 f.3 in
    turns-one First R w greedy on one m n Wanted f.2 t u f.4 (subst (λ (z : Stand). FirstTurns First R w greedy n Wanted z u) same g.4)

new-one : (x : Subject) (c : Course) → IsOne (λ Such k l. IsFirstOnce x c Such k l)
new-one x Skip Wanted s t u f g = sym f.0 ∙ g.0
new-one x Dead Wanted s t u f g = absurd f
new-one x (Byte a b) Wanted s t u f g = f.0.1 ∙ sym g.0.1
new-one x (Here look) Wanted s t u f g = sym f.0.1 ∙ g.0.1
new-one x (After c d) Wanted s t u f g =
    let same = new-one x c (Reaches Wanted (GoesOnce x d)) s g.0 f.0 g.1 f.1 in
    new-one x d Wanted f.0 t u f.2 (subst (λ (z : Stand). IsFirstOnce x d Wanted z u) same g.2)
new-one x (Choose w c d) Wanted s t u f g = ⊎_elim
    (λ (y : IsFirstOnce x c Wanted (chosen w s) t). ⊎_elim
    (λ (z : IsFirstOnce x c Wanted (chosen w s) u). new-one x c Wanted (chosen w s) t u y z)
    (λ (z : (Reaches Wanted (GoesOnce x c) (chosen w s) → ⊥) × IsFirstOnce x d Wanted (chosen w s) u).
    let h = new-goes x c Wanted (chosen w s) t y in absurd (z.0 (t, h.0, h.1)))
    g.1)
    (λ (y : (Reaches Wanted (GoesOnce x c) (chosen w s) → ⊥) × IsFirstOnce x d Wanted (chosen w s) t). ⊎_elim
    (λ (z : IsFirstOnce x c Wanted (chosen w s) u). let h = new-goes x c Wanted (chosen w s) u z in absurd (y.0 (u, h.0, h.1)))
    (λ (z : (Reaches Wanted (GoesOnce x c) (chosen w s) → ⊥) × IsFirstOnce x d Wanted (chosen w s) u). new-one x d Wanted (chosen w s) t u y.1 z.1)
    g.1)
    f.1
new-one x (Turn w greedy c) Wanted s t u f g =
    turns-one (λ Such k l. IsFirstOnce x c Such k l) (GoesOnce x c) w greedy (new-goes x c) (new-one x c) f.0 g.0 Wanted s t u f.1 g.1
new-one x (Again w greedy c) Wanted s t u f g =
    let same = new-one x c (Reaches Wanted (SomeTurns (GoesOnce x c) w)) s g.0 f.0 g.1 f.1 in
    turns-one (λ Such k l. IsFirstOnce x c Such k l) (GoesOnce x c) w greedy (new-goes x c) (new-one x c) f.2 g.2 Wanted f.0 t u f.3
    (subst (λ (z : Stand). FirstTurns (λ Such k l. IsFirstOnce x c Such k l) (GoesOnce x c) w greedy g.2 Wanted z u) same g.3)
new-one x (Within slot c) Wanted s t u f g =
    f.2 ∙ (ap (λ (z : Stand). noted (slot + 1) z) (new-one x c (λ l. Wanted (noted (slot + 1) l)) (noted slot s) f.0 g.0 f.1 g.1) ∙ sym g.2)

-- ---- courses of one pattern are alike but for the numbers

abbrev Any : ℕ → ℕ → Type 0
Any v w = Unit {0}

abbrev AreCourses : (Course → Type 0) → Type 0
AreCourses Is = (c e : Course) → Is c → Is e → AreRenamed Any c e

-- the same relation, of the one in another form
from_form : (c d e : Course) → c ≡ d → AreRenamed Any d e → AreRenamed Any c e
from_form c d e same r = subst (λ (z : Course). AreRenamed Any z e) (sym same) r

same-ranges : (ranges : List (ℕ × ℕ)) → AreCourses (IsOfRanges ranges)
same-ranges [] c e h g = from_form c Dead e h g
same-ranges (r ∷ []) c e h g = from_form c (Byte r.0 r.1) e h g
same-ranges (r ∷ (q ∷ rest)) c e h g =
    from_form c (Choose h.0 (Byte r.0 r.1) h.1) e h.2 (g.0, Byte r.0 r.1, g.1, g.2, tt, refl, same-ranges (q ∷ rest) h.1 g.1 h.3 g.3)

same-bytes : (bytes : List ℕ) → AreRenamed Any (bytes_in_order bytes) (bytes_in_order bytes)
same-bytes [] = refl
same-bytes (b ∷ rest) = (Byte b b, bytes_in_order rest, refl, refl, same-bytes rest)

same-copies : (Is : Course → Type 0) → AreCourses Is → (n : ℕ) → AreCourses (AreCopies Is n)
same-copies Is same zero c e h g = from_form c Skip e h g
same-copies Is same (suc n) c e h g =
    from_form c (After h.0 h.1) e h.2 (g.0, g.1, g.2, same h.0 g.0 h.3 g.3, same-copies Is same n h.1 g.1 h.4 g.4)

same-choice : (greedy : Bool) (w v : ℕ) (d f : Course) → AreRenamed Any d f → AreRenamed Any (optional_course greedy w d) (optional_course greedy v f)
same-choice true w v d f r = (v, f, Skip, refl, tt, r, refl)
same-choice false w v d f r = (v, Skip, f, refl, tt, refl, r)

-- a choice of two courses that are alike
same-come : (greedy : Bool) (w v : ℕ) (c d e f : Course) → c ≡ optional_course greedy w d → e ≡ optional_course greedy v f → AreRenamed Any d f
    → AreRenamed Any c e
same-come greedy w v c d e f a b r =
    from_form c (optional_course greedy w d) e a (subst (λ (z : Course). AreRenamed Any (optional_course greedy w d) z) (sym b) (same-choice greedy w v d f r))

same-most : (Is : Course → Type 0) → AreCourses Is → (greedy : Bool) (n : ℕ) → AreCourses (AreOptionalCopies Is greedy n)
same-most Is same greedy zero c e h g = from_form c Skip e h g
same-most Is same greedy (suc n) c e h g =
    same-come greedy h.0 g.0 c (After h.1 h.2) e (After g.1 g.2) h.3 g.3
    (g.1, g.2, refl, same h.1 g.1 h.4 g.4, same-most Is same greedy n h.2 g.2 h.5 g.5)

same-again : (Is : Course → Type 0) → AreCourses Is → (greedy : Bool) → AreCourses (IsAgain Is greedy)
same-again Is same greedy c e h g = from_form c (Again h.0 greedy h.1) e h.2 (g.0, g.1, g.2, tt, same h.1 g.1 h.3 g.3)

same-star : (Is : Course → Type 0) → AreCourses Is → (empty greedy : Bool) → AreCourses (IsStar Is empty greedy)
same-star Is same true greedy c e h g = same-come greedy h.0 g.0 c h.1 e g.1 h.2 g.2 (same-again Is same greedy h.1 g.1 h.3 g.3)
same-star Is same false greedy c e h g = from_form c (Turn h.0 greedy h.1) e h.2 (g.0, g.1, g.2, tt, same h.1 g.1 h.3 g.3)

same-course : (p : Pattern) → AreCourses (IsCourseOf p)
same-course Empty c e h g = from_form c Skip e h g
same-course Never c e h g = from_form c Dead e h g
same-course (Class ranges) c e h g = same-ranges ranges c e h g
same-course (Literal bytes) c e h g =
    from_form c (bytes_in_order bytes) e h (subst (λ (z : Course). AreRenamed Any (bytes_in_order bytes) z) (sym g) (same-bytes bytes))
same-course (Assertion look) c e h g = from_form c (Here look) e h g
same-course (Then a b) c e h g =
    from_form c (After h.0 h.1) e h.2 (g.0, g.1, g.2, same-course a h.0 g.0 h.3 g.3, same-course b h.1 g.1 h.4 g.4)
same-course (Either a b) c e h g =
    from_form c (Choose h.0 h.1 h.2) e h.3 (g.0, g.1, g.2, g.3, tt, same-course a h.1 g.1 h.4 g.4, same-course b h.2 g.2 h.5 g.5)
same-course (Repeat zero None greedy a) c e h g = same-star (IsCourseOf a) (same-course a) (may_be_empty a) greedy c e h g
same-course (Repeat zero (Some max) greedy a) c e h g = same-most (IsCourseOf a) (same-course a) greedy max c e h g
same-course (Repeat (suc zero) None greedy a) c e h g = same-again (IsCourseOf a) (same-course a) greedy c e h g
same-course (Repeat (suc (suc min)) None greedy a) c e h g =
    from_form c (After h.0 h.1) e h.2
    (g.0, g.1, g.2, same-copies (IsCourseOf a) (same-course a) (suc min) h.0 g.0 h.3 g.3, same-again (IsCourseOf a) (same-course a) greedy h.1 g.1 h.4 g.4)
same-course (Repeat (suc min) (Some max) greedy a) c e h g =
    from_form c (After h.0 h.1) e h.2 (
      g.0,
      g.1,
      g.2,
      same-copies (IsCourseOf a) (same-course a) (suc min) h.0 g.0 h.3 g.3,
      same-most (IsCourseOf a) (same-course a) greedy (max - suc min) h.1 g.1 h.4 g.4,
    )
same-course (Group slot a) c e h g = from_form c (Within slot h.0) e h.1 (g.0, g.1, same-course a h.0 g.0 h.2 g.2)

-- ---- by the places of their numbers

-- as many choices
as_many : (c e : Course) → AreRenamed Any c e → length (choices c) ≡ length (choices e)
as_many Skip e h = ap (λ (z : Course). length (choices z)) (sym h)
as_many Dead e h = ap (λ (z : Course). length (choices z)) (sym h)
as_many (Byte a b) e h = ap (λ (z : Course). length (choices z)) (sym h)
as_many (Here look) e h = ap (λ (z : Course). length (choices z)) (sym h)
as_many (After c d) e h =
    let one = as_many c h.0 h.3 in
    let other = as_many d h.1 h.4 in
    omega (arith, ap (λ (z : Course). length (choices z)) h.2, one, other, length-append (choices c) (choices d), length-append (choices h.0) (choices h.1))
as_many (Choose w c d) e h =
    let one = as_many c h.1 h.5 in
    let other = as_many d h.2 h.6 in
    omega (arith, ap (λ (z : Course). length (choices z)) h.3, one, other, length-append (choices c) (choices d), length-append (choices h.1) (choices h.2))
as_many (Turn w greedy c) e h = let one = as_many c h.1 h.4 in omega (arith, ap (λ (z : Course). length (choices z)) h.2, one)
as_many (Again w greedy c) e h = let one = as_many c h.1 h.4 in omega (arith, ap (λ (z : Course). length (choices z)) h.2, one)
as_many (Within slot c) e h = as_many c h.0 h.2 ∙ ap (λ (z : Course). length (choices z)) (sym h.1)

-- at each place of two lists R holds
abbrev AreAt : (ℕ → ℕ → Type 0) → List ℕ → List ℕ → Type 0
AreAt R xs ys = (k : ℕ) → k < length xs → R (get_or xs k 0) (get_or ys k 0)

at_left : (R : ℕ → ℕ → Type 0) (xs xt ys yt : List ℕ) → length xs ≡ length ys → AreAt R (xs ++ xt) (ys ++ yt) → AreAt R xs ys
at_left R xs xt ys yt same h k l =
    subst (λ (v : ℕ). R v (get_or ys k 0)) (get_or_append_left xs xt 0 k l)
    (subst (λ (w : ℕ). R (get_or (xs ++ xt) k 0) w) (get_or_append_left ys yt 0 k (omega (arith, l, same)))
    (h k (omega (arith, l, length-append xs xt))))

at_right : (R : ℕ → ℕ → Type 0) (xs xt ys yt : List ℕ) → length xs ≡ length ys → AreAt R (xs ++ xt) (ys ++ yt) → AreAt R xt yt
at_right R xs xt ys yt same h k l =
    subst (λ (v : ℕ). R v (get_or yt k 0)) (get_or-append-add xs xt k 0)
    (subst (λ (w : ℕ). R (get_or (xs ++ xt) (length xs + k) 0) w)
    (ap (λ (n : ℕ). get_or (ys ++ yt) (n + k) 0) same ∙ get_or-append-add ys yt k 0)
    (h (length xs + k) (omega (arith, l, length-append xs xt))))

at_rest : (R : ℕ → ℕ → Type 0) (v w : ℕ) (xs ys : List ℕ) → AreAt R (v ∷ xs) (w ∷ ys) → AreAt R xs ys
at_rest R v w xs ys h k l = h (suc k) (omega (arith, l))

renamed_at : (R : ℕ → ℕ → Type 0) (c e : Course) → AreRenamed Any c e → AreAt R (choices c) (choices e) → AreRenamed R c e
renamed_at R Skip e h a = h
renamed_at R Dead e h a = h
renamed_at R (Byte p q) e h a = h
renamed_at R (Here look) e h a = h
renamed_at R (After c d) e h a =
    let b : AreAt R (choices c ++ choices d) (choices h.0 ++ choices h.1) =
    subst (λ (z : Course). AreAt R (choices c ++ choices d) (choices z)) h.2 a in
    let same = as_many c h.0 h.3 in (
      h.0,
      h.1,
      h.2,
      renamed_at R c h.0 h.3 (at_left R (choices c) (choices d) (choices h.0) (choices h.1) same b),
      renamed_at R d h.1 h.4 (at_right R (choices c) (choices d) (choices h.0) (choices h.1) same b),
    )
renamed_at R (Choose w c d) e h a =
    let b : AreAt R (w ∷ (choices c ++ choices d)) (h.0 ∷ (choices h.1 ++ choices h.2)) =
    subst (λ (z : Course). AreAt R (w ∷ (choices c ++ choices d)) (choices z)) h.3 a in
    let rest = at_rest R w h.0 (choices c ++ choices d) (choices h.1 ++ choices h.2) b in
    let same = as_many c h.1 h.5 in (
      h.0,
      h.1,
      h.2,
      h.3,
      b 0 (omega arith),
      renamed_at R c h.1 h.5 (at_left R (choices c) (choices d) (choices h.1) (choices h.2) same rest),
      renamed_at R d h.2 h.6 (at_right R (choices c) (choices d) (choices h.1) (choices h.2) same rest),
    )
renamed_at R (Turn w greedy c) e h a =
    let b : AreAt R (w ∷ choices c) (h.0 ∷ choices h.1) = subst (λ (z : Course). AreAt R (w ∷ choices c) (choices z)) h.2 a in
    (h.0, h.1, h.2, b 0 (omega arith), renamed_at R c h.1 h.4 (at_rest R w h.0 (choices c) (choices h.1) b))
renamed_at R (Again w greedy c) e h a =
    let b : AreAt R (w ∷ choices c) (h.0 ∷ choices h.1) = subst (λ (z : Course). AreAt R (w ∷ choices c) (choices z)) h.2 a in
    (h.0, h.1, h.2, b 0 (omega arith), renamed_at R c h.1 h.4 (at_rest R w h.0 (choices c) (choices h.1) b))
renamed_at R (Within slot c) e h a =
    (h.0, h.1, renamed_at R c h.0 h.2 (subst (λ (z : Course). AreAt R (choices c) (choices z)) h.1 a))

-- the numbers at one place stand for each other
abbrev StandAt : List ℕ → List ℕ → ℕ → ℕ → Type 0
StandAt xs ys v w = (k : ℕ) × (k < length xs) × (get_or xs k 0 ≡ v) × (get_or ys k 0 ≡ w)

-- where each number is at one place
one_place : (xs : List ℕ) (j k : ℕ) → AllPairs (λ v w. (v ≡ w) → ⊥) xs → j < length xs → k < length xs → get_or xs j 0 ≡ get_or xs k 0
    → j ≡ k
one_place xs j k apart l m same = ⊎_elim
    (λ (b : j < k). absurd (apart j k 0 b m same))
    (λ (a : k ≤ j). ⊎_elim (λ (b : k < j). absurd (apart k j 0 b l (sym same))) (λ (b : j ≤ k). omega (arith, a, b)) (cases_lt k j))
    (cases_lt j k)

one_at : (xs ys : List ℕ) → length xs ≡ length ys → AllPairs (λ v w. (v ≡ w) → ⊥) xs → AllPairs (λ v w. (v ≡ w) → ⊥) ys
    → IsOneToOne (StandAt xs ys)
one_at xs ys same ax ay = record {
  to = λ v w a b r q e.
      let place : r.0 ≡ q.0 = one_place xs r.0 q.0 ax r.1 q.1 (r.2 ∙ (e ∙ sym q.2)) in
      sym r.3 ∙ (ap (λ (k : ℕ). get_or ys k 0) place ∙ q.3);
  back = λ v w a b r q e.
      let place : r.0 ≡ q.0 = one_place ys r.0 q.0 ay (omega (arith, r.1, same)) (omega (arith, q.1, same)) (r.3 ∙ (e ∙ sym q.3)) in
      sym r.2 ∙ (ap (λ (k : ℕ). get_or xs k 0) place ∙ q.2);
}

-- ---- one preferred way

pub one_way : (x : Subject) (p : Pattern) (Wanted : ℕ → Type 0) (i j k : ℕ) (one other : List (ℕ × ℕ)) → IsPreferredWay x p Wanted i j one
    → IsPreferredWay x p Wanted i k other → (j ≡ k) × (one ≡ other)
one_way x p Wanted i j k one other f g = (
  sym f.3 ∙ (image.2.at ∙ (ap (λ (s : Stand). s.at) same ∙ g.3)),
  sym f.4 ∙ (image.2.records ∙ (ap (λ (s : Stand). s.records) same ∙ g.4)),
)
  where
    R : ℕ → ℕ → Type 0
    R = StandAt (choices f.0.course) (choices g.0.course)

    alike : AreRenamed Any f.0.course g.0.course
    alike = same-course p f.0.course g.0.course f.0.is g.0.is

    here : AreAlike R (fresh i) (fresh i)
    here = record { at = refl; records = refl; to = λ v w r c. absurd (omega (arith, c.1)); back = λ v w r c. absurd (omega (arith, c.1)) }

    both : AreBoth R (λ s. Wanted s.at) (λ s. Wanted s.at)
    both = (λ s u a w. subst Wanted a.at w, λ s u a w. subst Wanted a.at w)

    image : (u : Stand) × IsFirstOnce x g.0.course (λ s. Wanted s.at) (fresh i) u × AreAlike R f.1 u
    image = first_same x R f.0.course g.0.course
        (one_at (choices f.0.course) (choices g.0.course) (as_many f.0.course g.0.course alike) f.0.apart g.0.apart)
        (renamed_at R f.0.course g.0.course alike (λ n l. (n, l, refl, refl))) (λ s. Wanted s.at) (λ s. Wanted s.at) both (fresh i) (fresh i) f.1 here f.2

    same : image.0 ≡ g.1
    same = new-one x g.0.course (λ s. Wanted s.at) (fresh i) image.0 g.1 image.1 g.2
