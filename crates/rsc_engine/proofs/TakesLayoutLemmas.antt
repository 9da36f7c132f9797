-- The courses of parts made of parts, and the numbers of their choices.
use Rattle.std.proofs.Common.{◌≡◌, ℕ, zero, suc, ◌+◌, ◌-◌, ◌<◌, ◌≤◌, ◌⊎◌, inl, inr, ⊎_elim, Bool, true, false, List, [], ◌∷◌, ◌++◌, length, slice_get, get_or, refl, sym, ap, ◌∙◌, subst, arith, Some, None}
use Rattle.rsc_look.specs.declared.assertion.Look.{Look}
use Rattle.rsc_nfa.specs.declared.state.State.{State}
use Rattle.rsc_nfa.specs.declared.state.State.TheVariants.{ByteRange, Assert, Fork, Capture}
use Rattle.rsc_engine.specs.Patterns.{Pattern, Empty, Never, Class, Literal, Assertion, Then, Either, Repeat, Group, may_be_empty}
use Rattle.rsc_engine.specs.LinksLayout.{choice_of, copies, optional, up_to}
use Rattle.rsc_engine.specs.Courses.{Course, Skip, Dead, Byte, Here, After, Choose, Turn, Again, Within}
use Rattle.rsc_engine.specs.PreferredWays.{optional_course, AreCopies, IsStar, IsCourseOf, choices}
use Rattle.rsc_engine.specs.CoursesLayout.{Follows}
use Rattle.rsc_engine.specs.TakesLayout.{AreNumbers, TakesCourse}
use Rattle.rsc_engine.proofs.CoursesLayoutLemmas.{Follows-skip, Follows-here, Follows-byte, Follows-dead, Follows-reversed, Follows-after, Follows-choose, Follows-within, Follows-turn, Follows-again}

-- ---- numbers

AreNumbers-none : (low high : ℕ) → AreNumbers low high []
AreNumbers-none low high = record { within = λ k d l. absurd (omega (arith, l)); apart = λ i j d l h. absurd (omega (arith, h)) }

AreNumbers-one : (low high w : ℕ) → low ≤ w → w < high → AreNumbers low high (w ∷ [])
AreNumbers-one low high w l h = record { within = here; apart = λ i j d before within. absurd (omega (arith, before, within)) }
  where
    here : (k d : ℕ) → k < 1 → (low ≤ get_or (w ∷ []) k d) × (get_or (w ∷ []) k d < high)
    here zero d m = (l, h)
    here (suc k) d m = absurd (omega (arith, m))

-- an element of two lists together is one of the first or of the second
at_joined : (xs ys : List ℕ) (k d : ℕ) → k < length (xs ++ ys)
    → ((k < length xs) × (get_or (xs ++ ys) k d ≡ get_or xs k d))
    ⊎ ((h : ℕ) × (k ≡ length xs + h) × (h < length ys) × (get_or (xs ++ ys) k d ≡ get_or ys h d))
at_joined [] ys k d l = inr (k, omega arith, l, refl)
at_joined (x ∷ xs) ys zero d l = inl (omega arith, refl)
at_joined (x ∷ xs) ys (suc k) d l = ⊎_elim
    (λ (a : (k < length xs) × (get_or (xs ++ ys) k d ≡ get_or xs k d)). inl (omega (arith, a.0), a.1))
    (λ (b : (h : ℕ) × (k ≡ length xs + h) × (h < length ys) × (get_or (xs ++ ys) k d ≡ get_or ys h d)). inr (b.0, omega (arith, b.1), b.2, b.3))
    (at_joined xs ys k d (omega (arith, l)))

AreNumbers-joined : (low high a b c e : ℕ) (xs ys : List ℕ) → low ≤ a → low ≤ c → b ≤ high → e ≤ high → (b ≤ c) ⊎ (e ≤ a)
    → AreNumbers a b xs
    → AreNumbers c e ys → AreNumbers low high (xs ++ ys)
AreNumbers-joined low high a b c e xs ys la lc bh eh disjoint x y = record {
  within = λ k d l. ⊎_elim
      (λ (one : (k < length xs) × (get_or (xs ++ ys) k d ≡ get_or xs k d)).
      let w = x.within k d one.0 in let same = one.1 in (omega (arith, w.0, same, la), omega (arith, w.1, same, bh)))
      (λ (other : (h : ℕ) × (k ≡ length xs + h) × (h < length ys) × (get_or (xs ++ ys) k d ≡ get_or ys h d)).
      let w = y.within other.0 d other.2 in let same = other.3 in (omega (arith, w.0, same, lc), omega (arith, w.1, same, eh)))
      (at_joined xs ys k d l);
  apart = λ i j d before within same. ⊎_elim
      (λ (one : (i < length xs) × (get_or (xs ++ ys) i d ≡ get_or xs i d)). ⊎_elim
      (λ (two : (j < length xs) × (get_or (xs ++ ys) j d ≡ get_or xs j d)). x.apart i j d before two.0 (sym one.1 ∙ (same ∙ two.1)))
      (λ (two : (h : ℕ) × (j ≡ length xs + h) × (h < length ys) × (get_or (xs ++ ys) j d ≡ get_or ys h d)).
      let v = x.within i d one.0 in
      let w = y.within two.0 d two.2 in
      let equal : get_or xs i d ≡ get_or ys two.0 d = sym one.1 ∙ (same ∙ two.3) in
      ⊎_elim (λ (z : b ≤ c). omega (arith, v.1, w.0, equal, z)) (λ (z : e ≤ a). omega (arith, v.0, w.1, equal, z)) disjoint)
      (at_joined xs ys j d within))
      (λ (one : (h : ℕ) × (i ≡ length xs + h) × (h < length ys) × (get_or (xs ++ ys) i d ≡ get_or ys h d)). ⊎_elim
      (λ (two : (j < length xs) × (get_or (xs ++ ys) j d ≡ get_or xs j d)). absurd (omega (arith, before, one.1, two.0)))
      (λ (two : (h : ℕ) × (j ≡ length xs + h) × (h < length ys) × (get_or (xs ++ ys) j d ≡ get_or ys h d)).
      y.apart one.0 two.0 d (omega (arith, before, one.1, two.1)) two.2 (sym one.3 ∙ (same ∙ two.3)))
      (at_joined xs ys j d within))
      (at_joined xs ys i d (omega (arith, before, within)));
}

AreNumbers-wider : (low high least most : ℕ) (xs : List ℕ) → least ≤ low → high ≤ most → AreNumbers low high xs → AreNumbers least most xs
AreNumbers-wider low high least most xs l h x = record {
  within = λ k d m. let w = x.within k d m in (omega (arith, w.0, l), omega (arith, w.1, h));
  apart = x.apart;
}

-- ---- parts

pub Takes-is : (low high first next : ℕ) (p q : Pattern) (states : List State) → ((c : Course) → IsCourseOf p c → IsCourseOf q c)
    → TakesCourse low high first next p states → TakesCourse low high first next q states
Takes-is low high first next p q states same t =
    record { course = t.course; is = same t.course t.is; follows = t.follows; numbers = t.numbers }

pub Takes-wider : (low high least most first next : ℕ) (p : Pattern) (states : List State) → least ≤ low → high ≤ most
    → TakesCourse low high first next p states → TakesCourse least most first next p states
Takes-wider low high least most first next p states l h t =
    record { course = t.course; is = t.is; follows = t.follows; numbers = AreNumbers-wider low high least most (choices t.course) l h t.numbers }

pub Takes-empty : (low high next : ℕ) (states : List State) → TakesCourse low high next next Empty states
Takes-empty low high next states = record { course = Skip; is = refl; follows = Follows-skip states next; numbers = AreNumbers-none low high }

pub Takes-never : (low high s next : ℕ) (states : List State) → slice_get states s ≡ Some (Fork s s) → TakesCourse low high s next Never states
Takes-never low high s next states is = record { course = Dead; is = refl; follows = Follows-dead states s next is; numbers = AreNumbers-none low high }

pub Takes-range : (low high s a b next : ℕ) (states : List State) → slice_get states s ≡ Some (ByteRange a b next)
    → TakesCourse low high s next (Class ((a, b) ∷ [])) states
Takes-range low high s a b next states is =
    record { course = Byte a b; is = refl; follows = Follows-byte states s a b next is; numbers = AreNumbers-none low high }

-- a range whose first byte is above its last takes none
pub Takes-reversed : (low high s next a b : ℕ) (states : List State) → b < a → TakesCourse low high s next Never states
    → TakesCourse low high s next (Class ((a, b) ∷ [])) states
Takes-reversed low high s next a b states less t = record {
  course = Byte a b;
  is = refl;
  follows = Follows-reversed states s next a b less (subst (λ (c : Course). Follows states s next c) t.is t.follows);
  numbers = AreNumbers-none low high;
}

pub Takes-assert : (low high s next : ℕ) (look : Look) (states : List State) → slice_get states s ≡ Some (Assert look next)
    → TakesCourse low high s next (Assertion look) states
Takes-assert low high s next look states is =
    record { course = Here look; is = refl; follows = Follows-here states s next look is; numbers = AreNumbers-none low high }

pub Takes-then : (low middle high first between next : ℕ) (p q : Pattern) (states : List State) → low ≤ middle → middle ≤ high
    → TakesCourse low middle between next q states → TakesCourse middle high first between p states → TakesCourse low high first next (Then p q) states
Takes-then low middle high first between next p q states l h x y = record {
  course = After y.course x.course;
  is = (y.course, x.course, refl, y.is, x.is);
  follows = Follows-after states first between next y.course x.course y.follows x.follows;
  numbers = AreNumbers-joined low high middle high low middle (choices y.course) (choices x.course) l (omega arith) (omega arith) h (inr (omega arith))
      y.numbers x.numbers;
}

pub Takes-either : (low middle last high one other id next : ℕ) (p q : Pattern) (states : List State) → low ≤ middle → middle ≤ last → id ≡ last
    → high ≡ last + 1 → slice_get states id ≡ Some (Fork one other) → TakesCourse low middle other next q states
    → TakesCourse middle last one next p states
    → TakesCourse low high id next (Either p q) states
Takes-either low middle last high one other id next p q states l m same top is x y = record {
  course = Choose id y.course x.course;
  is = (id, y.course, x.course, refl, y.is, x.is);
  follows = Follows-choose states id one other next y.course x.course is y.follows x.follows;
  numbers = AreNumbers-joined low high last high low last (id ∷ []) (choices y.course ++ choices x.course) (omega (arith, l, m)) (omega arith) (omega arith)
      (omega (arith, top)) (inr (omega arith)) (AreNumbers-one last high id (omega (arith, same)) (omega (arith, same, top)))
      (AreNumbers-joined low last middle last low middle (choices y.course) (choices x.course) l (omega arith) (omega arith) m (inr (omega arith)) y.numbers
      x.numbers);
}

-- the part or nothing, as `optional` has it
pub Takes-choice : (low last high one id next : ℕ) (greedy : Bool) (p : Pattern) (states : List State) → low ≤ last → id ≡ last → high ≡ last + 1
    → slice_get states id ≡ Some (choice_of greedy one next) → TakesCourse low last one next p states
    → TakesCourse low high id next (optional greedy p) states
Takes-choice low last high one id next true p states l same top is x =
    Takes-either low low last high one next id next p Empty states (omega arith) l same top is (Takes-empty low low next states) x
Takes-choice low last high one id next false p states l same top is x =
    Takes-either low last last high next one id next Empty p states l (omega arith) same top is x (Takes-empty last last next states)

pub Takes-group : (low high first body after next slot : ℕ) (p : Pattern) (states : List State) → slice_get states first ≡ Some (Capture slot body)
    → slice_get states after ≡ Some (Capture (slot + 1) next) → TakesCourse low high body after p states
    → TakesCourse low high first next (Group slot p) states
Takes-group low high first body after next slot p states begins closes x = record {
  course = Within slot x.course;
  is = (x.course, refl, x.is);
  follows = Follows-within states first body after next slot x.course begins closes x.follows;
  numbers = x.numbers;
}

-- a loop that is entered by its turn
pub Takes-turn : (low high first f next : ℕ) (greedy : Bool) (p : Pattern) (states : List State) → may_be_empty p ≡ false → f ≡ low → low < high
    → slice_get states f ≡ Some (choice_of greedy first next) → TakesCourse (low + 1) high first f p states
    → TakesCourse low high f next (Repeat 0 None greedy p) states
Takes-turn low high first f next greedy p states taking same some is x = record {
  course = Turn f greedy x.course;
  is = subst (λ (b : Bool). IsStar (IsCourseOf p) b greedy (Turn f greedy x.course)) (sym taking) (f, x.course, refl, x.is);
  follows = Follows-turn states f first next greedy x.course is x.follows;
  numbers = AreNumbers-joined low high low (low + 1) (low + 1) high (f ∷ []) (choices x.course) (omega arith) (omega arith) (omega (arith, some))
      (omega arith)
      (inl (omega arith)) (AreNumbers-one low (low + 1) f (omega (arith, same)) (omega (arith, same))) x.numbers;
}

-- and by its first round
pub Takes-again : (low high first f next : ℕ) (greedy : Bool) (p : Pattern) (states : List State) → f ≡ low → low < high
    → slice_get states f ≡ Some (choice_of greedy first next) → TakesCourse (low + 1) high first f p states
    → TakesCourse low high first next (Repeat 1 None greedy p) states
Takes-again low high first f next greedy p states same some is x = record {
  course = Again f greedy x.course;
  is = (f, x.course, refl, x.is);
  follows = Follows-again states f first next greedy x.course is x.follows;
  numbers = AreNumbers-joined low high low (low + 1) (low + 1) high (f ∷ []) (choices x.course) (omega arith) (omega arith) (omega (arith, some))
      (omega arith)
      (inl (omega arith)) (AreNumbers-one low (low + 1) f (omega (arith, same)) (omega (arith, same))) x.numbers;
}

-- ---- the courses of a part, in the form in which it is built

optional-course : (greedy : Bool) (p : Pattern) (c : Course) → IsCourseOf (optional greedy p) c
    → (w : ℕ) × (d : Course) × (c ≡ optional_course greedy w d) × IsCourseOf p d
optional-course true p c h = (h.0, h.1, h.3 ∙ ap (λ (e : Course). Choose h.0 h.1 e) h.5, h.4)
optional-course false p c h = (h.0, h.2, h.3 ∙ ap (λ (d : Course). Choose h.0 d h.2) h.4, h.5)

pub class-course : (a b : ℕ) (rest : List (ℕ × ℕ)) → 0 < length rest → (c : Course) → IsCourseOf (Either (Class ((a, b) ∷ [])) (Class rest)) c
    → IsCourseOf (Class ((a, b) ∷ rest)) c
class-course a b [] some c h = absurd (omega (arith, some))
class-course a b (q ∷ rest) some c h = (h.0, h.2, h.3 ∙ ap (λ (d : Course). Choose h.0 d h.2) h.4, h.5)

pub byte-course : (b : ℕ) (rest : List ℕ) (c : Course) → IsCourseOf (Then (Class ((b, b) ∷ [])) (Literal rest)) c
    → IsCourseOf (Literal (b ∷ rest)) c
byte-course b rest c h = h.2 ∙ (ap (λ (d : Course). After d h.1) h.3 ∙ ap (λ (e : Course). After (Byte b b) e) h.4)

pub star-course : (greedy : Bool) (p : Pattern) → may_be_empty p ≡ true → (c : Course) → IsCourseOf (optional greedy (Repeat 1 None greedy p)) c
    → IsCourseOf (Repeat 0 None greedy p) c
star-course greedy p empty c h = subst (λ (b : Bool). IsStar (IsCourseOf p) b greedy c) (sym empty) (optional-course greedy (Repeat 1 None greedy p) c h)

copies-course : (n : ℕ) (p : Pattern) (c : Course) → IsCourseOf (copies n p) c → AreCopies (IsCourseOf p) n c
copies-course zero p c h = h
copies-course (suc n) p c h = (h.0, h.1, h.2, h.3, copies-course n p h.1 h.4)

pub up_to-course : (greedy : Bool) (n : ℕ) (p : Pattern) (c : Course) → IsCourseOf (up_to greedy n p) c → IsCourseOf (Repeat 0 (Some n) greedy p) c
up_to-course greedy zero p c h = h
up_to-course greedy (suc n) p c h =
    let g = optional-course greedy (Then p (up_to greedy n p)) c h in
    (g.0, g.3.0, g.3.1, g.2 ∙ ap (λ (d : Course). optional_course greedy g.0 d) g.3.2, g.3.3, up_to-course greedy n p g.3.1 g.3.4)

pub limited-course : (min max : ℕ) (greedy : Bool) (p : Pattern) → 0 < min → (c : Course)
    → IsCourseOf (Then (copies min p) (Repeat 0 (Some (max - min)) greedy p)) c → IsCourseOf (Repeat (min + 0) (Some max) greedy p) c
limited-course zero max greedy p some c h = absurd (omega (arith, some))
limited-course (suc min) max greedy p some c h =
    let same : suc min ≡ suc min + 0 = omega arith in
    subst (λ (n : ℕ). IsCourseOf (Repeat n (Some max) greedy p) c) same (h.0, h.1, h.2, copies-course (suc min) p h.0 h.3, h.4)

pub unlimited-course : (min : ℕ) (greedy : Bool) (p : Pattern) → 1 < min → (c : Course)
    → IsCourseOf (Then (copies (min - 1) p) (Repeat 1 None greedy p)) c → IsCourseOf (Repeat (min - 1 + 1) None greedy p) c
unlimited-course zero greedy p some c h = absurd (omega (arith, some))
unlimited-course (suc zero) greedy p some c h = absurd (omega (arith, some))
unlimited-course (suc (suc min)) greedy p some c h =
    let same : suc (suc min) ≡ suc (suc min) - 1 + 1 = omega arith in
    let less : suc (suc min) - 1 ≡ suc min = omega arith in
    subst (λ (n : ℕ). IsCourseOf (Repeat n None greedy p) c) same
    (h.0, h.1, h.2, copies-course (suc min) p h.0 (subst (λ (n : ℕ). IsCourseOf (copies n p) h.0) less h.3), h.4)
