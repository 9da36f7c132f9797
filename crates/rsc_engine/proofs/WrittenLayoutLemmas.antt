-- A course of a pattern, as a pattern, goes where the pattern goes, and first where it goes first.
use Rattle.std.proofs.Common.{◌≡◌, ℕ, zero, suc, ◌+◌, ◌-◌, inl, inr, ⊎_elim, Bool, true, false, ◌||◌, ◌&&◌, not, true≢false, List, [], ◌∷◌, refl, sym, ap, ◌∙◌, subst, arith, Option, Some, None}
use Rattle.rsc_engine.specs.Patterns.{Pattern, Empty, Never, Class, Literal, Assertion, Then, Either, Repeat, Group, Subject, Times, SomeTimes, Goes, may_be_empty}
use Rattle.rsc_engine.specs.FirstEnds.{loops_take_bytes, HasEndIn, limit_after}
use Rattle.rsc_engine.specs.Ways.{Point, with_record}
use Rattle.rsc_engine.specs.FirstWays.{AreFirstRounds, IsFirstWay}
use Rattle.rsc_engine.specs.LinksLayout.{copies, optional, up_to}
use Rattle.rsc_engine.specs.Courses.{Course, Skip, Dead, Byte, Here, After, Choose, Turn, Again, Within, fresh}
use Rattle.rsc_engine.specs.PreferredWays.{optional_course, IsOfRanges, bytes_in_order, AreCopies, AreOptionalCopies, IsAgain, IsStar, IsCourseOf, IsPreferredWay}
use Rattle.rsc_engine.specs.WrittenLayout.{written}
use Rattle.rsc_engine.proofs.FirstEndsLemmas.{ends-along, both_are, both, loop-takes, part-loops, up_to-loops, counted-loops}
use Rattle.rsc_engine.proofs.FirstWaysLemmas.{HasFirstWay, way-alike, class-way, literal-way, literal_none-way, up_to-way, counted-way}
use Rattle.rsc_engine.proofs.PatternsLemmas.{limit_less, class-is, class-back, literal-is, literal-back, up_to-is, up_to-back, counted-is, counted-back}
use Rattle.rsc_engine.proofs.HeadsLayoutLemmas.{apart-of, plain}

-- the one goes where the other goes, and where the other's first way leads if the one's does; if loops of the other take bytes, those of the one do
record IsLike (p q : Pattern) : Type 1 where
  to : (x : Subject) (i j : ℕ) → Goes x p i j → Goes x q i j
  back : (x : Subject) (i j : ℕ) → Goes x q i j → Goes x p i j
  first : HasFirstWay p q
  takes : may_be_empty q ≡ false → may_be_empty p ≡ false
  loops : loops_take_bytes q ≡ true → loops_take_bytes p ≡ true

like-self : (p : Pattern) → IsLike p p
like-self p = record { to = λ x i j g. g; back = λ x i j g. g; first = λ x Wanted m n f. f; takes = λ e. e; loops = λ e. e }

like-on : (p q r : Pattern) → IsLike p q → IsLike q r → IsLike p r
like-on p q r a b = record {
  to = λ x i j g. b.to x i j (a.to x i j g);
  back = λ x i j g. a.back x i j (b.back x i j g);
  first = λ x Wanted m n f. b.first x Wanted m n (a.first x Wanted m n f);
  takes = λ e. a.takes (b.takes e);
  loops = λ e. a.loops (b.loops e);
}

-- the same course
like-form : (c d : Course) (p : Pattern) → c ≡ d → IsLike (written d) p → IsLike (written c) p
like-form c d p e l = subst (λ (z : Course). IsLike (written z) p) (sym e) l

-- ---- made of two

and_false : (a b c d : Bool) → (c ≡ false → a ≡ false) → (d ≡ false → b ≡ false) → (c && d) ≡ false → (a && b) ≡ false
and_false a b false d f g e = rw (f refl) refl
and_false false b true d f g e = refl
and_false true b true d f g e = g e

or_falses : (a b c d : Bool) → (c ≡ false → a ≡ false) → (d ≡ false → b ≡ false) → (c || d) ≡ false → (a || b) ≡ false
or_falses a b true d f g e = absurd (true≢false e)
or_falses a b false d f g e = rw (f refl) (g e)

and_true : (a b c d : Bool) → (c ≡ true → a ≡ true) → (d ≡ true → b ≡ true) → (c && d) ≡ true → (a && b) ≡ true
and_true a b c d f g e = let h = both_are c d e in both a b (f h.0) (g h.1)

like-then : (p q r s : Pattern) → IsLike p q → IsLike r s → IsLike (Then p r) (Then q s)
like-then p q r s a b = record {
  to = λ x i j g. (g.0, a.to x i g.0 g.1, b.to x g.0 j g.2);
  back = λ x i j g. (g.0, a.back x i g.0 g.1, b.back x g.0 j g.2);
  first = λ x Wanted m n f. (
    f.0,
    way-alike x q (HasEndIn Wanted (Goes x r)) (HasEndIn Wanted (Goes x s)) m f.0 (ends-along Wanted (Goes x r) (Goes x s) (b.to x))
        (ends-along Wanted (Goes x s) (Goes x r) (b.back x)) (a.first x (HasEndIn Wanted (Goes x r)) m f.0 f.1),
    b.first x Wanted f.0 n f.2,
  );
  takes = and_false (may_be_empty p) (may_be_empty r) (may_be_empty q) (may_be_empty s) a.takes b.takes;
  loops = and_true (loops_take_bytes p) (loops_take_bytes r) (loops_take_bytes q) (loops_take_bytes s) a.loops b.loops;
}

like-either : (p q r s : Pattern) → IsLike p q → IsLike r s → IsLike (Either p r) (Either q s)
like-either p q r s a b = record {
  to = λ x i j g. ⊎_elim (λ (h : Goes x p i j). inl (a.to x i j h)) (λ (h : Goes x r i j). inr (b.to x i j h)) g;
  back = λ x i j g. ⊎_elim (λ (h : Goes x q i j). inl (a.back x i j h)) (λ (h : Goes x s i j). inr (b.back x i j h)) g;
  first = λ x Wanted m n f. ⊎_elim
      (λ (h : IsFirstWay x p Wanted m n). inl (a.first x Wanted m n h))
      (λ (h : (HasEndIn Wanted (Goes x p) m.0 → ⊥) × IsFirstWay x r Wanted m n).
      inr (λ e. h.0 (ends-along Wanted (Goes x q) (Goes x p) (a.back x) m.0 e), b.first x Wanted m n h.1))
      f;
  takes = or_falses (may_be_empty p) (may_be_empty r) (may_be_empty q) (may_be_empty s) a.takes b.takes;
  loops = and_true (loops_take_bytes p) (loops_take_bytes r) (loops_take_bytes q) (loops_take_bytes s) a.loops b.loops;
}

like-optional : (greedy : Bool) (p q : Pattern) → IsLike p q → IsLike (optional greedy p) (optional greedy q)
like-optional true p q a = like-either p q Empty Empty a (like-self Empty)
like-optional false p q a = like-either Empty Empty p q (like-self Empty) a

-- ---- repeated

times-along : (R S : ℕ → ℕ → Type 0) → ((i j : ℕ) → R i j → S i j) → (n i j : ℕ) → Times R n i j → Times S n i j
times-along R S on zero i j t = t
times-along R S on (suc n) i j t = (t.0, on i t.0 t.1, times-along R S on n t.0 j t.2)

some-along : (R S : ℕ → ℕ → Type 0) → ((i j : ℕ) → R i j → S i j) → (min : ℕ) (max : Option ℕ) (i j : ℕ) → SomeTimes R min max i j
    → SomeTimes S min max i j
some-along R S on min max i j t = (t.0, t.1, t.2, times-along R S on t.0 i j t.3)

rounds-like : (x : Subject) (p q : Pattern) (greedy : Bool) → IsLike p q → (times min : ℕ) (max : Option ℕ) (Wanted : ℕ → Type 0) (m n : Point)
    → AreFirstRounds (λ Such k l. IsFirstWay x p Such k l) (Goes x p) greedy times min max Wanted m n
    → AreFirstRounds (λ Such k l. IsFirstWay x q Such k l) (Goes x q) greedy times min max Wanted m n
rounds-like x p q greedy a zero min max Wanted m n f = (
  f.0,
  f.1,
  f.2,
  λ e c. f.3 e (
    c.0,
    (
      c.1.0,
      a.back x m.0 c.1.0 c.1.1,
      ends-along Wanted (SomeTimes (Goes x q) (min - 1) (limit_after max)) (SomeTimes (Goes x p) (min - 1) (limit_after max))
          (some-along (Goes x q) (Goes x p) (a.back x) (min - 1) (limit_after max)) c.1.0 c.1.2,
    ),
  ),
)
rounds-like x p q greedy a (suc times) min max Wanted m n f = (
  f.0,
  f.1,
  f.2,
  way-alike x q (HasEndIn Wanted (SomeTimes (Goes x p) (min - 1) (limit_after max))) (HasEndIn Wanted (SomeTimes (Goes x q) (min - 1) (limit_after max))) m f.2
      (ends-along Wanted (SomeTimes (Goes x p) (min - 1) (limit_after max)) (SomeTimes (Goes x q) (min - 1) (limit_after max))
      (some-along (Goes x p) (Goes x q) (a.to x) (min - 1) (limit_after max)))
      (ends-along Wanted (SomeTimes (Goes x q) (min - 1) (limit_after max)) (SomeTimes (Goes x p) (min - 1) (limit_after max))
      (some-along (Goes x q) (Goes x p) (a.back x) (min - 1) (limit_after max)))
      (a.first x (HasEndIn Wanted (SomeTimes (Goes x p) (min - 1) (limit_after max))) m f.2 f.3),
  rounds-like x p q greedy a times (min - 1) (limit_after max) Wanted f.2 n f.4,
)

not_false : (a c : Bool) → (c ≡ false → a ≡ false) → not c ≡ true → not a ≡ true
not_false a true f e = absurd (true≢false (sym e))
not_false a false f e = rw (f refl) refl

like-repeat : (min : ℕ) (max : Option ℕ) (greedy : Bool) (p q : Pattern) → IsLike p q → IsLike (Repeat min max greedy p) (Repeat min max greedy q)
like-repeat min max greedy p q a = record {
  to = λ x i j g. some-along (Goes x p) (Goes x q) (a.to x) min max i j g;
  back = λ x i j g. some-along (Goes x q) (Goes x p) (a.back x) min max i j g;
  first = λ x Wanted m n f. (f.0, rounds-like x p q greedy a f.0 min max Wanted m n f.1);
  takes = takes min;
  loops = loops max;
}
  where
    takes : (min : ℕ) → may_be_empty (Repeat min max greedy q) ≡ false → may_be_empty (Repeat min max greedy p) ≡ false
    takes zero e = absurd (true≢false e)
    takes (suc min) e = a.takes e

    loops : (max : Option ℕ) → loops_take_bytes (Repeat min max greedy q) ≡ true → loops_take_bytes (Repeat min max greedy p) ≡ true
    loops None e = and_true (not (may_be_empty p)) (loops_take_bytes p) (not (may_be_empty q)) (loops_take_bytes q)
        (not_false (may_be_empty p) (may_be_empty q) a.takes) a.loops e
    loops (Some most) e = a.loops e

like-group : (slot : ℕ) (p q : Pattern) → IsLike p q → IsLike (Group slot p) (Group slot q)
like-group slot p q a = record {
  to = a.to;
  back = a.back;
  first = λ x Wanted m n f. (f.0, a.first x Wanted (with_record slot m) f.0 f.1, f.2);
  takes = a.takes;
  loops = a.loops;
}

-- ---- written out

like-ranges : (ranges : List (ℕ × ℕ)) (c : Course) → IsOfRanges ranges c → IsLike (written c) (Class ranges)
like-ranges [] c h = like-form c Dead (Class []) h (record {
  to = λ x i j g. absurd g;
  back = λ x i j g. absurd (true≢false (sym g.0));
  first = λ x Wanted m n f. absurd f;
  takes = λ e. refl;
  loops = λ e. refl;
})
like-ranges (r ∷ []) c h = like-form c (Byte r.0 r.1) (Class (r ∷ [])) h (like-self (Class (r ∷ [])))
like-ranges (r ∷ (q ∷ rest)) c h = like-form c (Choose h.0 (Byte r.0 r.1) h.1) (Class (r ∷ (q ∷ rest))) h.2 (
    like-on (Either (Class (r ∷ [])) (written h.1)) (Either (Class (r ∷ [])) (Class (q ∷ rest))) (Class (r ∷ (q ∷ rest)))
    (like-either (Class (r ∷ [])) (Class (r ∷ [])) (written h.1) (Class (q ∷ rest)) (like-self (Class (r ∷ []))) (like-ranges (q ∷ rest) h.1 h.3))
    (record {
      to = class-is r.0 r.1 (q ∷ rest);
      back = class-back r.0 r.1 (q ∷ rest);
      first = class-way r.0 r.1 (q ∷ rest);
      takes = λ e. refl;
      loops = λ e. refl;
    })
    )

like-bytes : (bytes : List ℕ) → IsLike (written (bytes_in_order bytes)) (Literal bytes)
like-bytes [] = record { to = λ x i j g. g; back = λ x i j g. g; first = literal_none-way; takes = λ e. e; loops = λ e. refl }
like-bytes (b ∷ rest) =
    like-on (Then (Class ((b, b) ∷ [])) (written (bytes_in_order rest))) (Then (Class ((b, b) ∷ [])) (Literal rest)) (Literal (b ∷ rest))
    (like-then (Class ((b, b) ∷ [])) (Class ((b, b) ∷ [])) (written (bytes_in_order rest)) (Literal rest) (like-self (Class ((b, b) ∷ [])))
    (like-bytes rest))
    (record { to = literal-is b rest; back = literal-back b rest; first = literal-way b rest; takes = λ e. refl; loops = λ e. refl })

-- courses of the part, and patterns like it
abbrev AreLike : (Course → Type 0) → Pattern → Type 1
AreLike Is p = (c : Course) → Is c → IsLike (written c) p

like-copies : (Is : Course → Type 0) (p : Pattern) → AreLike Is p → (n : ℕ) → AreLike (AreCopies Is n) (copies n p)
like-copies Is p like zero c h = like-form c Skip Empty h (like-self Empty)
like-copies Is p like (suc n) c h =
    like-form c (After h.0 h.1) (copies (suc n) p) h.2
    (like-then (written h.0) p (written h.1) (copies n p) (like h.0 h.3) (like-copies Is p like n h.1 h.4))

like-may : (greedy : Bool) (w : ℕ) (d : Course) (p : Pattern) → IsLike (written d) p → IsLike (written (optional_course greedy w d)) (optional greedy p)
like-may true w d p a = like-optional true (written d) p a
like-may false w d p a = like-optional false (written d) p a

like-most : (Is : Course → Type 0) (p : Pattern) → AreLike Is p → (greedy : Bool) (n : ℕ) → AreLike (AreOptionalCopies Is greedy n) (up_to greedy n p)
like-most Is p like greedy zero c h = like-form c Skip Empty h (like-self Empty)
like-most Is p like greedy (suc n) c h =
    like-form c (optional_course greedy h.0 (After h.1 h.2)) (up_to greedy (suc n) p) h.3
    (like-may greedy h.0 (After h.1 h.2) (Then p (up_to greedy n p))
    (like-then (written h.1) p (written h.2) (up_to greedy n p) (like h.1 h.4) (like-most Is p like greedy n h.2 h.5)))

up_to-like : (greedy : Bool) (n : ℕ) (p : Pattern) → IsLike (up_to greedy n p) (Repeat 0 (Some n) greedy p)
up_to-like greedy n p = record {
  to = up_to-is greedy n p;
  back = up_to-back greedy n p;
  first = up_to-way greedy n p;
  takes = λ e. absurd (true≢false e);
  loops = up_to-loops greedy n p;
}

counted-like : (k l : ℕ) (max : Option ℕ) (greedy : Bool) (p : Pattern)
    → IsLike (Then (copies k p) (Repeat l (limit_less max k) greedy p)) (Repeat (k + l) max greedy p)
counted-like k l max greedy p = record {
  to = counted-is k l max greedy p;
  back = counted-back k l max greedy p;
  first = counted-way k l max greedy p;
  takes = takes k l;
  loops = counted-loops k l max greedy p;
}
  where
    takes : (k l : ℕ) → may_be_empty (Repeat (k + l) max greedy p) ≡ false
        → may_be_empty (Then (copies k p) (Repeat l (limit_less max k) greedy p)) ≡ false
    takes zero zero e = absurd (true≢false e)
    takes zero (suc l) e = let same : zero + suc l ≡ suc l = omega arith in rw same at e
    takes (suc k) l e =
        let same : suc k + l ≡ suc (k + l) = omega arith in
        let part : may_be_empty p ≡ false = rw same at e in
        rw part refl

like-again : (Is : Course → Type 0) (p : Pattern) → AreLike Is p → (greedy : Bool) → AreLike (IsAgain Is greedy) (Repeat 1 None greedy p)
like-again Is p like greedy c h =
    like-form c (Again h.0 greedy h.1) (Repeat 1 None greedy p) h.2 (like-repeat 1 None greedy (written h.1) p (like h.1 h.3))

like-star : (Is : Course → Type 0) (p : Pattern) → AreLike Is p → (greedy empty : Bool) → empty ≡ false
    → AreLike (IsStar Is empty greedy) (Repeat 0 None greedy p)
like-star Is p like greedy true e c h = absurd (true≢false e)
like-star Is p like greedy false e c h =
    like-form c (Turn h.0 greedy h.1) (Repeat 0 None greedy p) h.2 (like-repeat 0 None greedy (written h.1) p (like h.1 h.3))

one_more : (n : ℕ) → suc n + 1 ≡ suc (suc n)
one_more n = omega arith

none_more : (n : ℕ) → suc n + 0 ≡ suc n
none_more n = omega arith

like-course : (p : Pattern) → loops_take_bytes p ≡ true → AreLike (IsCourseOf p) p
like-course Empty l c h = like-form c Skip Empty h (like-self Empty)
like-course Never l c h = like-form c Dead Never h (like-self Never)
like-course (Class ranges) l c h = like-ranges ranges c h
like-course (Literal bytes) l c h = like-form c (bytes_in_order bytes) (Literal bytes) h (like-bytes bytes)
like-course (Assertion look) l c h = like-form c (Here look) (Assertion look) h (like-self (Assertion look))
like-course (Then a b) l c h =
    let loops = both_are (loops_take_bytes a) (loops_take_bytes b) l in
    like-form c (After h.0 h.1) (Then a b) h.2
    (like-then (written h.0) a (written h.1) b (like-course a loops.0 h.0 h.3) (like-course b loops.1 h.1 h.4))
like-course (Either a b) l c h =
    let loops = both_are (loops_take_bytes a) (loops_take_bytes b) l in
    like-form c (Choose h.0 h.1 h.2) (Either a b) h.3
    (like-either (written h.1) a (written h.2) b (like-course a loops.0 h.1 h.4) (like-course b loops.1 h.2 h.5))
like-course (Repeat zero None greedy a) l c h =
    like-star (IsCourseOf a) a (like-course a (part-loops 0 None greedy a l)) greedy (may_be_empty a) (loop-takes 0 greedy a l) c h
like-course (Repeat zero (Some max) greedy a) l c h =
    like-on (written c) (up_to greedy max a) (Repeat 0 (Some max) greedy a) (like-most (IsCourseOf a) a (like-course a l) greedy max c h)
    (up_to-like greedy max a)
like-course (Repeat (suc zero) None greedy a) l c h = like-again (IsCourseOf a) a (like-course a (part-loops 1 None greedy a l)) greedy c h
like-course (Repeat (suc (suc min)) None greedy a) l c h =
    let part = like-course a (part-loops (suc (suc min)) None greedy a l) in
    like-form c (After h.0 h.1) (Repeat (suc (suc min)) None greedy a) h.2
    (subst (λ (n : ℕ). IsLike (Then (written h.0) (written h.1)) (Repeat n None greedy a)) (one_more min)
    (like-on (Then (written h.0) (written h.1)) (Then (copies (suc min) a) (Repeat 1 None greedy a)) (Repeat (suc min + 1) None greedy a)
    (like-then (written h.0) (copies (suc min) a) (written h.1) (Repeat 1 None greedy a) (like-copies (IsCourseOf a) a part (suc min) h.0 h.3)
    (like-again (IsCourseOf a) a part greedy h.1 h.4))
    (counted-like (suc min) 1 None greedy a)))
like-course (Repeat (suc min) (Some max) greedy a) l c h =
    like-form c (After h.0 h.1) (Repeat (suc min) (Some max) greedy a) h.2
    (subst (λ (n : ℕ). IsLike (Then (written h.0) (written h.1)) (Repeat n (Some max) greedy a)) (none_more min)
    (like-on (Then (written h.0) (written h.1)) (Then (copies (suc min) a) (Repeat 0 (Some (max - suc min)) greedy a))
    (Repeat (suc min + 0) (Some max) greedy a)
    (like-then (written h.0) (copies (suc min) a) (written h.1) (Repeat 0 (Some (max - suc min)) greedy a)
    (like-copies (IsCourseOf a) a (like-course a l) (suc min) h.0 h.3)
    (like-on (written h.1) (up_to greedy (max - suc min) a) (Repeat 0 (Some (max - suc min)) greedy a)
    (like-most (IsCourseOf a) a (like-course a l) greedy (max - suc min) h.1 h.4) (up_to-like greedy (max - suc min) a)))
    (counted-like (suc min) 0 (Some max) greedy a)))
like-course (Group slot a) l c h =
    like-form c (Within slot h.0) (Group slot a) h.1 (like-group slot (written h.0) a (like-course a l h.0 h.2))

pub preferred-first : (x : Subject) (p : Pattern) (Wanted : ℕ → Type 0) (i j : ℕ) (records : List (ℕ × ℕ)) → loops_take_bytes p ≡ true
    → IsPreferredWay x p Wanted i j records → IsFirstWay x p Wanted (i, []) (j, records)
preferred-first x p Wanted i j records l f =
    subst (λ (m : Point). IsFirstWay x p Wanted (i, []) m) (ap (λ (k : ℕ). (k, f.1.records)) f.3 ∙ ap (λ (r : List (ℕ × ℕ)). (j, r)) f.4)
    (like.first x Wanted (i, []) (f.1.at, f.1.records)
    (plain x f.0.course (like.loops l) (apart-of f.0.course f.0.apart) (λ s. Wanted s.at) Wanted (fresh i) f.1 (λ v m c. absurd (omega (arith, c.1)))
    (λ u m. (λ w. w, λ w. w)) f.2))
  where
    like : IsLike (written f.0.course) p
    like = like-course p l f.0.course f.0.is
