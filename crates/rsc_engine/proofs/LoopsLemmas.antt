-- How lists of states grow by repetitions.
use Rattle.std.proofs.Common.{Bool, true, false, ◌∙◌, subst, refl, ◌≡◌, ℕ, zero, suc, ◌+◌, ◌-◌, ◌<◌, ◌≤◌, List, length, set, slice_get, sym, arith, Option, Some, None}
use Rattle.std.proofs.lemmas.List.{length-set}
use Rattle.rsc_nfa.specs.declared.state.State.{State}
use Rattle.rsc_engine.specs.Patterns.{Pattern, Then, Repeat, may_be_empty}
use Rattle.rsc_engine.specs.EnclosesLayout.{Encloses}
use Rattle.rsc_engine.specs.StatesLayout.{asked_by, FitsAndAsks}
use Rattle.rsc_engine.proofs.StatesLayoutLemmas.{FitsAndAsks-choice, FitsAndAsks-loop, FitsAndAsks-alike, optional-same, optional-back, up_to-same, counted-same}
use Rattle.rsc_engine.specs.GroupNumbers.{group_count_in, numbered}
use Rattle.rsc_engine.proofs.GroupNumbersLemmas.{numbered-empty}
use Rattle.rsc_engine.specs.LinksLayout.{Adds, Builds, BuildsPart, BuildsCopies, IsAdded, Realizes, choice_of, copies, optional, up_to}
use Rattle.rsc_engine.proofs.LinksLayoutLemmas.{Realizes-choice, Realizes-star, Realizes-plus, is_choice}
use Rattle.rsc_engine.proofs.EnclosesLayoutLemmas.{Encloses-choice, Encloses-loop}
use Rattle.rsc_engine.proofs.PatternsLemmas.{star-back, up_to-back, limit_less, counted-back}
use Rattle.rsc_engine.specs.ByWaysLayout.{ByWays}
use Rattle.rsc_engine.specs.Courses.{Course}
use Rattle.rsc_engine.specs.PreferredWays.{IsCourseOf}
use Rattle.rsc_engine.specs.TakesLayout.{TakesCourse}
use Rattle.rsc_engine.proofs.TakesLayoutLemmas.{Takes-choice, Takes-turn, Takes-again, Takes-wider, star-course, up_to-course, limited-course, unlimited-course}
use Rattle.rsc_engine.proofs.FirstWaysLemmas.{star-ways, up_to-ways, counted-ways}
use Rattle.rsc_engine.proofs.ByWaysLayoutLemmas.{ByWays-choice, ByWays-star, ByWays-plus}
use Rattle.rsc_engine.proofs.SizesLemmas.{optional-size, entered-size, loop-size, unlimited-size, limited-size, up_to_only-size}
use Rattle.rsc_engine.proofs.CompileLemmas.{Adds-one, Adds-both, Adds-is, Adds-written, IsPart, grown, Builds-empty, Builds-then, Builds-is}

-- the part or nothing
pub Builds-optional : (slots : ℕ × ℕ) (old last new : List State) (one id next : ℕ) (greedy : Bool) (p : Pattern) → Builds slots old last one next p
    → IsAdded last new (choice_of greedy one next) id → Builds slots old new id next (optional greedy p)
Builds-optional slots old last new one id next greedy p x a =
    Adds-both old last new (IsPart slots (length old) (length last) one next p) (λ (all : List State). slice_get all id ≡ Some (choice_of greedy one next))
    (IsPart slots (length old) (length new) id next (optional greedy p)) x (Adds-one last new (choice_of greedy one next) id a)
    (λ all r is. (
      Realizes-choice all id one next greedy p is r.0,
      Encloses-choice slots.0 (length old) (length last) (length new) one id next all x.longer a.last (grown last new (choice_of greedy one next) id a) r.1
          (is_choice all id one next greedy is),
      FitsAndAsks-alike slots.1 (asked_by p) (asked_by (optional greedy p)) (length old) (length new) all (optional-back greedy p)
          (FitsAndAsks-choice slots.1 (asked_by p) (length old) (length last) (length new) id one next all x.longer a.last
          (grown last new (choice_of greedy one next) id a) (is_choice all id one next greedy is) r.2),
      ByWays-choice all id one next greedy p is r.3,
      Takes-choice (length old) (length last) (length new) one id next greedy p all x.longer a.last
          (grown last new (choice_of greedy one next) id a) is r.4,
    ))

pub Builds-star : (slots : ℕ × ℕ) (old last new : List State) (one id next : ℕ) (greedy : Bool) (p : Pattern)
    → may_be_empty p ≡ true → Builds slots old last one next (Repeat 1 None greedy p) → IsAdded last new (choice_of greedy one next) id
    → Builds slots old new id next (Repeat 0 None greedy p)
Builds-star slots old last new one id next greedy p empty x a =
    Builds-is slots old new id next (optional greedy (Repeat 1 None greedy p)) (Repeat 0 None greedy p) (star-back greedy p) (star-ways greedy p)
    (optional-same greedy (Repeat 1 None greedy p)) (star-course greedy p empty)
    (Builds-optional slots old last new one id next greedy (Repeat 1 None greedy p) x a)

-- a loop: its fork, its part, and the fork overwritten
record LoopsOver (slots : ℕ × ℕ) (low high first again next : ℕ) (greedy : Bool) (p : Pattern) (all : List State) : Type 0 where
  choice : slice_get all again ≡ Some (choice_of greedy first next)
  part : Realizes all first again p
  encloses : Encloses slots.0 low high again next all × Encloses slots.0 low high first next all
  names : FitsAndAsks slots.1 (asked_by p) low high all
  orders : ByWays all first again p
  takes : TakesCourse (low + 1) high first again p all

Adds-loop : (slots : ℕ × ℕ) (old middle last : List State) (state : State) (first again next : ℕ) (greedy : Bool) (p : Pattern)
    → IsAdded old middle state again
    → Builds slots middle last first again p
    → Adds old (set last again (choice_of greedy first next))
    (LoopsOver slots (length old) (length (set last again (choice_of greedy first next))) first again next greedy p)
Adds-loop slots old middle last state first again next greedy p a x =
    let written : State = choice_of greedy first next in
    Adds-is old (set last again written)
    (λ (all : List State). (slice_get all again ≡ Some written) × IsPart slots (length middle) (length last) first again p all)
    (LoopsOver slots (length old) (length (set last again written)) first again next greedy p)
    (λ all is.
    let fork = is_choice all again first next greedy is.0 in
    record {
      choice = is.0;
      part = is.1.0;
      encloses = Encloses-loop slots.0 (length old) (length middle) (length last) (length (set last again written)) first again next all a.last
          (grown old middle state again a) x.longer (length-set last again written) fork is.1.1;
      names = FitsAndAsks-loop slots.1 (asked_by p) (length old) (length middle) (length last) (length (set last again written)) again first next all a.last
          (grown old middle state again a) x.longer (length-set last again written) fork is.1.2;
      orders = is.1.3;
      takes = Takes-wider (length middle) (length last) (length old + 1) (length (set last again written)) first again p all
          (omega (arith, grown old middle state again a)) (omega (arith, length-set last again written)) is.1.4;
    })
    (Adds-written old middle last state written again (IsPart slots (length middle) (length last) first again p) a x)

-- the states of a loop are some
longer : (old middle last : List State) (state : State) (again : ℕ) (written : State) → IsAdded old middle state again → length middle ≤ length last
    → length old < length (set last again written)
longer old middle last state again written a l = omega (arith, grown old middle state again a, l, length-set last again written)

pub Builds-again : (slots : ℕ × ℕ) (old middle last : List State) (state : State) (first again next : ℕ) (greedy : Bool) (p : Pattern)
    → may_be_empty p ≡ false → IsAdded old middle state again → Builds slots middle last first again p
    → Builds slots old (set last again (choice_of greedy first next)) again next (Repeat 0 None greedy p)
Builds-again slots old middle last state first again next greedy p taking a x =
    let new : List State = set last again (choice_of greedy first next) in
    Adds-is old new (LoopsOver slots (length old) (length new) first again next greedy p)
    (IsPart slots (length old) (length new) again next (Repeat 0 None greedy p))
    (λ all b. (
      Realizes-star all again first next greedy p (is_choice all again first next greedy b.choice) b.part,
      b.encloses.0,
      b.names,
      ByWays-star all again first next greedy p b.choice b.orders,
      Takes-turn (length old) (length new) first again next greedy p all taking a.last
          (longer old middle last state again (choice_of greedy first next) a x.longer) b.choice b.takes,
    ))
    (Adds-loop slots old middle last state first again next greedy p a x)

pub Builds-plus : (slots : ℕ × ℕ) (old middle last : List State) (state : State) (first again next : ℕ) (greedy : Bool) (p : Pattern)
    → IsAdded old middle state again → Builds slots middle last first again p
    → Builds slots old (set last again (choice_of greedy first next)) first next (Repeat 1 None greedy p)
Builds-plus slots old middle last state first again next greedy p a x =
    let new : List State = set last again (choice_of greedy first next) in
    Adds-is old new (LoopsOver slots (length old) (length new) first again next greedy p)
    (IsPart slots (length old) (length new) first next (Repeat 1 None greedy p))
    (λ all b. (
      Realizes-plus all again first next greedy p (is_choice all again first next greedy b.choice) b.part,
      b.encloses.1,
      b.names,
      ByWays-plus all again first next greedy p b.choice b.orders,
      Takes-again (length old) (length new) first again next greedy p all a.last (longer old middle last state again (choice_of greedy first next) a x.longer)
          b.choice b.takes,
    ))
    (Adds-loop slots old middle last state first again next greedy p a x)

-- at most a number of times
Builds-up_to : (slots : ℕ × ℕ) (old new : List State) (first next n : ℕ) (greedy : Bool) (p : Pattern)
    → Builds slots old new first next (up_to greedy n p)
    → Builds slots old new first next (Repeat 0 (Some n) greedy p)
Builds-up_to slots old new first next n greedy p x =
    Builds-is slots old new first next (up_to greedy n p) (Repeat 0 (Some n) greedy p) (up_to-back greedy n p) (up_to-ways greedy n p)
    (up_to-same greedy n p) (up_to-course greedy n p) x

-- a number of times, and then at least another
Builds-counted : (slots : ℕ × ℕ) (old middle new : List State) (n m rest first next : ℕ) (max : Option ℕ) (greedy : Bool) (p : Pattern)
    → ((c : Course) → IsCourseOf (Then (copies n p) (Repeat m (limit_less max n) greedy p)) c → IsCourseOf (Repeat (n + m) max greedy p) c)
    → Builds slots old middle rest next (Repeat m (limit_less max n) greedy p) → Builds slots middle new first rest (copies n p)
    → Builds slots old new first next (Repeat (n + m) max greedy p)
Builds-counted slots old middle new n m rest first next max greedy p courses x y =
    Builds-is slots old new first next (Then (copies n p) (Repeat m (limit_less max n) greedy p)) (Repeat (n + m) max greedy p)
    (counted-back n m max greedy p) (counted-ways n m max greedy p) (counted-same n m max greedy p) courses
    (Builds-then slots old middle new first rest next (copies n p) (Repeat m (limit_less max n) greedy p) x y)

pub Builds-limited : (slots : ℕ × ℕ) (old middle new : List State) (min max rest first next : ℕ) (greedy : Bool) (p : Pattern)
    → 0 < min → Builds slots old middle rest next (up_to greedy (max - min) p)
    → Builds slots middle new first rest (copies min p) → Builds slots old new first next (Repeat min (Some max) greedy p)
Builds-limited slots old middle new min max rest first next greedy p some x y =
    let none : min + 0 ≡ min = omega arith in
    subst (λ (n : ℕ). Builds slots old new first next (Repeat n (Some max) greedy p)) none
    (Builds-counted slots old middle new min 0 rest first next (Some max) greedy p (limited-course min max greedy p some)
    (Builds-up_to slots old middle rest next (max - min) greedy p x) y)

pub Builds-unlimited : (slots : ℕ × ℕ) (old middle new : List State) (min last first next : ℕ) (greedy : Bool) (p : Pattern)
    → 1 < min → Builds slots old middle last next (Repeat 1 None greedy p)
    → Builds slots middle new first last (copies (min - 1) p) → Builds slots old new first next (Repeat min None greedy p)
Builds-unlimited slots old middle new min last first next greedy p some x y =
    let one : min - 1 + 1 ≡ min = omega (arith, some) in
    subst (λ (n : ℕ). Builds slots old new first next (Repeat n None greedy p)) one
    (Builds-counted slots old middle new (min - 1) 1 last first next None greedy p (unlimited-course min greedy p some) x y)

-- ---- with the slots of groups

-- of one part the groups are numbered in one way
same_number : (left now n count : ℕ) → left ≡ now + count → left ≡ n + count → now ≡ n
same_number left now n count x y = omega (arith, x, y)

pub BuildsCopies-none : (slot_of : ℕ → ℕ) (slots : ℕ × ℕ) (left : ℕ) (states : List State) (next : ℕ) (p : Pattern)
    → BuildsCopies slot_of slots left left states states next next 0 (copies 0) p
BuildsCopies-none slot_of slots left states next p = (λ l. absurd (omega (arith, l)), λ n e. Builds-empty slots states next, omega arith)

pub BuildsCopies-up_to_none : (slot_of : ℕ → ℕ) (slots : ℕ × ℕ) (left : ℕ) (states : List State) (next : ℕ) (greedy : Bool) (p : Pattern)
    → BuildsCopies slot_of slots left left states states next next 0 (up_to greedy 0) p
BuildsCopies-up_to_none slot_of slots left states next greedy p = (λ l. absurd (omega (arith, l)), λ n e. Builds-empty slots states next, omega arith)

pub BuildsCopies-more : (slot_of : ℕ → ℕ)
    (slots : ℕ × ℕ) (left mid now : ℕ) (old middle new : List State) (first between next count : ℕ) (p : Pattern)
    → BuildsCopies slot_of slots left mid old middle between next count (copies count) p
    → BuildsPart slot_of slots left now middle new first between p
    → BuildsCopies slot_of slots left now old new first next (suc count) (copies (suc count)) p
BuildsCopies-more slot_of slots left mid now old middle new first between next count p x y = (
  λ l. y.0,
  λ n e. Builds-then slots old middle new first between next (numbered slot_of n p) (copies count (numbered slot_of n p)) (x.1 n e)
      (subst (λ (k : ℕ). Builds slots middle new first between (numbered slot_of k p)) (same_number left now n (group_count_in p) y.0 e) y.1),
  omega (arith, x.2, y.2),
)

pub BuildsCopies-up_to_more : (slot_of : ℕ → ℕ)
    (slots : ℕ × ℕ) (left mid now : ℕ) (old middle last new : List State) (one between id next count : ℕ)
    (greedy : Bool) (p : Pattern)
    → BuildsCopies slot_of slots left mid old middle between next count (up_to greedy count) p
    → BuildsPart slot_of slots left now middle last one between p → IsAdded last new (choice_of greedy one next) id
    → BuildsCopies slot_of slots left now old new id next (suc count) (up_to greedy (suc count)) p
BuildsCopies-up_to_more slot_of slots left mid now old middle last new one between id next count greedy p x y a = (
  λ l. y.0,
  λ n e. Builds-optional slots old last new one id next greedy (Then (numbered slot_of n p) (up_to greedy count (numbered slot_of n p)))
      (Builds-then slots old middle last one between next (numbered slot_of n p) (up_to greedy count (numbered slot_of n p)) (x.1 n e)
      (subst (λ (k : ℕ). Builds slots middle last one between (numbered slot_of k p)) (same_number left now n (group_count_in p) y.0 e) y.1))
      a,
  omega (arith, x.2, y.2, a.one, optional-size greedy (Then p (up_to greedy count p))),
)

pub BuildsPart-star : (slot_of : ℕ → ℕ)
    (slots : ℕ × ℕ) (left now : ℕ) (old last new : List State) (one id next : ℕ) (greedy : Bool) (p : Pattern)
    → may_be_empty p ≡ true → BuildsPart slot_of slots left now old last one next (Repeat 1 None greedy p)
    → IsAdded last new (choice_of greedy one next) id
    → BuildsPart slot_of slots left now old new id next (Repeat 0 None greedy p)
BuildsPart-star slot_of slots left now old last new one id next greedy p empty x a = (
  x.0,
  Builds-star slots old last new one id next greedy (numbered slot_of now p) (numbered-empty slot_of now p ∙ empty) x.1 a,
  omega (arith, x.2, a.one, entered-size greedy p empty),
)

pub BuildsPart-again : (slot_of : ℕ → ℕ)
    (slots : ℕ × ℕ) (left now : ℕ) (old middle last : List State) (state : State) (first again next : ℕ) (greedy : Bool)
    (p : Pattern) → may_be_empty p ≡ false → IsAdded old middle state again → BuildsPart slot_of slots left now middle last first again p
    → BuildsPart slot_of slots left now old (set last again (choice_of greedy first next)) again next (Repeat 0 None greedy p)
BuildsPart-again slot_of slots left now old middle last state first again next greedy p taking a x = (
  x.0,
  Builds-again slots old middle last state first again next greedy (numbered slot_of now p) (numbered-empty slot_of now p ∙ taking) a x.1,
  omega (arith, x.2, a.one, length-set last again (choice_of greedy first next), loop-size greedy p taking),
)

pub BuildsPart-plus : (slot_of : ℕ → ℕ)
    (slots : ℕ × ℕ) (left now : ℕ) (old middle last : List State) (state : State) (first again next : ℕ) (greedy : Bool)
    (p : Pattern) → IsAdded old middle state again → BuildsPart slot_of slots left now middle last first again p
    → BuildsPart slot_of slots left now old (set last again (choice_of greedy first next)) first next (Repeat 1 None greedy p)
BuildsPart-plus slot_of slots left now old middle last state first again next greedy p a x = (
  x.0,
  Builds-plus slots old middle last state first again next greedy (numbered slot_of now p) a x.1,
  omega (arith, x.2, a.one, length-set last again (choice_of greedy first next)),
)

pub BuildsPart-unlimited : (slot_of : ℕ → ℕ)
    (slots : ℕ × ℕ) (left mid now : ℕ) (old middle new : List State) (min last first next : ℕ) (greedy : Bool)
    (p : Pattern) → 1 < min → BuildsPart slot_of slots left mid old middle last next (Repeat 1 None greedy p)
    → BuildsCopies slot_of slots left now middle new first last (min - 1) (copies (min - 1)) p
    → BuildsPart slot_of slots left now old new first next (Repeat min None greedy p)
BuildsPart-unlimited slot_of slots left mid now old middle new min last first next greedy p more x y =
    let its = y.0 (omega (arith, more)) in (
      its,
      Builds-unlimited slots old middle new min last first next greedy (numbered slot_of now p) more
          (subst (λ (k : ℕ). Builds slots old middle last next (Repeat 1 None greedy (numbered slot_of k p)))
          (same_number left mid now (group_count_in p) x.0 its) x.1)
          (y.1 now its),
      omega (arith, x.2, y.2, unlimited-size (min - 1) min greedy p (omega (arith, more))),
    )

pub BuildsPart-limited : (slot_of : ℕ → ℕ)
    (slots : ℕ × ℕ) (left mid now : ℕ) (old middle new : List State) (min max rest first next : ℕ) (greedy : Bool)
    (p : Pattern) → 0 < min → BuildsCopies slot_of slots left mid old middle rest next (max - min) (up_to greedy (max - min)) p
    → BuildsCopies slot_of slots left now middle new first rest min (copies min) p
    → BuildsPart slot_of slots left now old new first next (Repeat min (Some max) greedy p)
BuildsPart-limited slot_of slots left mid now old middle new min max rest first next greedy p some x y =
    let its = y.0 some in (
      its,
      Builds-limited slots old middle new min max rest first next greedy (numbered slot_of now p) some (x.1 now its) (y.1 now its),
      omega (arith, x.2, y.2, limited-size min max greedy p),
    )

pub BuildsPart-up_to : (slot_of : ℕ → ℕ) (slots : ℕ × ℕ) (left now : ℕ) (old new : List State) (min max first next : ℕ) (greedy : Bool)
    (p : Pattern) → min ≡ 0 → 0 < max → BuildsCopies slot_of slots left now old new first next max (up_to greedy max) p
    → BuildsPart slot_of slots left now old new first next (Repeat min (Some max) greedy p)
BuildsPart-up_to slot_of slots left now old new min max first next greedy p none some x =
    let its = x.0 some in
    subst (λ (n : ℕ). BuildsPart slot_of slots left now old new first next (Repeat n (Some max) greedy p)) (sym none)
    (its, Builds-up_to slots old new first next max greedy (numbered slot_of now p) (x.1 now its), omega (arith, x.2, up_to_only-size max greedy p))

pub BuildsPart-no_times : (slot_of : ℕ → ℕ) (slots : ℕ × ℕ) (left now : ℕ) (states : List State) (next : ℕ) (greedy : Bool) (p : Pattern)
    → left ≡ now + group_count_in p → BuildsPart slot_of slots left now states states next next (Repeat 0 (Some 0) greedy p)
BuildsPart-no_times slot_of slots left now states next greedy p its = (
  its,
  Builds-up_to slots states states next next 0 greedy (numbered slot_of now p) (Builds-empty slots states next),
  omega (arith, up_to_only-size 0 greedy p),
)

pub BuildsPart-zero : (slot_of : ℕ → ℕ)
    (slots : ℕ × ℕ) (left now : ℕ) (old new : List State) (min max first next : ℕ) (greedy : Bool) (p : Pattern)
    → min ≡ 0 → max ≡ 0 → BuildsPart slot_of slots left now old new first next (Repeat 0 (Some 0) greedy p)
    → BuildsPart slot_of slots left now old new first next (Repeat min (Some max) greedy p)
BuildsPart-zero slot_of slots left now old new min max first next greedy p none never x =
    subst (λ (n : ℕ). BuildsPart slot_of slots left now old new first next (Repeat n (Some max) greedy p)) (sym none)
    (subst (λ (n : ℕ). BuildsPart slot_of slots left now old new first next (Repeat 0 (Some n) greedy p)) (sym never) x)

pub positive : (n : ℕ) → (n ≡ 0 → ⊥) → 0 < n
positive zero apart = absurd (apart refl)
positive (suc n) apart = omega arith

pub more_than_one : (n : ℕ) → (n ≡ 0 → ⊥) → (n ≡ 1 → ⊥) → 1 < n
more_than_one zero none one = absurd (none refl)
more_than_one (suc zero) none one = absurd (one refl)
more_than_one (suc (suc n)) none one = omega arith
