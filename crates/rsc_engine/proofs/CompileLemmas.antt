-- How lists of states grow, part by part.
use Rattle.std.proofs.Common.{nat_eq, true, false, subst, true≢false, drop, drop-cons, get_or, ◌≡◌, ℕ, zero, suc, ◌+◌, ◌-◌, ◌*◌, ◌<◌, ◌≤◌, inl, inr, List, [], ◌∷◌, ◌++◌, length, set, slice_get, refl, sym, ap, ◌∙◌, arith, length-append, Some}
use Rattle.std.proofs.lemmas.List.{length-set}
use Rattle.std.proofs.Math.Seq.{drop-length}
use Rattle.rsc_look.specs.declared.assertion.Look.{Look}
use Rattle.rsc_nfa.specs.declared.state.State.{State}
use Rattle.rsc_nfa.specs.declared.state.State.TheVariants.{ByteRange, Assert, Fork, Capture}
use Rattle.rsc_engine.specs.Patterns.{Pattern, Empty, Never, Class, Literal, Assertion, Then, Either, Group, one_of, Subject, Goes}
use Rattle.rsc_engine.specs.EnclosesLayout.{IsOnWay, StaysOnWay, Encloses}
use Rattle.rsc_nfa.specs.Classes.{asserts}
use Rattle.rsc_nfa.specs.Steps.{is_between}
use Rattle.rsc_engine.specs.Asks.{asks}
use Rattle.rsc_engine.specs.StatesLayout.{Fits, asked_by, FitsAndAsks}
use Rattle.rsc_engine.proofs.StatesLayoutLemmas.{FitsAndAsks-none, FitsAndAsks-joined, FitsAndAsks-one, FitsAndAsks-above, FitsAndAsks-alike, nothing, either_back, between-same}
use Rattle.rsc_captures.specs.Groups.{GroupLists, slot_number}
use Rattle.std.proofs.lemmas.Bool.Decides.{nat_tests}
use Rattle.rsc_engine.specs.GroupNumbers.{group_count_in, numbered}
use Rattle.rsc_engine.specs.LinksLayout.{Adds, Builds, BuildsPart, IsAdded, Realizes}
use Rattle.rsc_engine.proofs.LinksLayoutLemmas.{Realizes-never, Realizes-range, Realizes-assert, Realizes-capture, Realizes-empty, Realizes-is, Realizes-then, Realizes-between, Realizes-either, one_of_one}
use Rattle.rsc_engine.proofs.EnclosesLayoutLemmas.{Encloses-one, Encloses-then, Encloses-either}
use Rattle.rsc_engine.proofs.PatternsLemmas.{none-between, class-back, literal-back}
use Rattle.rsc_engine.specs.ByWaysLayout.{ByWays}
use Rattle.rsc_engine.specs.Courses.{Course}
use Rattle.rsc_engine.specs.PreferredWays.{IsCourseOf}
use Rattle.rsc_engine.specs.TakesLayout.{TakesCourse}
use Rattle.rsc_engine.proofs.TakesLayoutLemmas.{Takes-empty, Takes-never, Takes-range, Takes-assert, Takes-is, Takes-then, Takes-either, Takes-group, Takes-wider, Takes-reversed, class-course, byte-course}
use Rattle.rsc_engine.proofs.FirstWaysLemmas.{HasWays, class-ways, literal-ways, literal_none-ways}
use Rattle.rsc_engine.proofs.ByWaysLayoutLemmas.{ByWays-empty, ByWays-is, ByWays-never, ByWays-range, ByWays-assert, ByWays-group, ByWays-then, ByWays-either}

-- ---- what a list has at an index

pub get-before : (xs : List State) (ys : List State) (k : ℕ) → k < length xs → slice_get (xs ++ ys) k ≡ slice_get xs k
get-before [] ys k l = absurd (omega (arith, l))
get-before (x ∷ xs) ys zero l = refl
get-before (x ∷ xs) ys (suc k) l = get-before xs ys k (omega (arith, l))

pub get-after : (xs : List State) (y : State) → slice_get (xs ++ y ∷ []) (length xs) ≡ Some y
get-after [] y = refl
get-after (x ∷ xs) y = get-after xs y

get-set : (xs : List State) (i : ℕ) (y : State) → i < length xs → slice_get (set xs i y) i ≡ Some y
get-set [] i y l = absurd (omega (arith, l))
get-set (x ∷ xs) zero y l = refl
get-set (x ∷ xs) (suc i) y l = get-set xs i y (omega (arith, l))

get-set_other : (xs : List State) (i k : ℕ) (y : State) → ((k ≡ i) → ⊥) → slice_get (set xs i y) k ≡ slice_get xs k
get-set_other [] i k y apart = refl
get-set_other (x ∷ xs) zero zero y apart = absurd (apart refl)
get-set_other (x ∷ xs) zero (suc k) y apart = refl
get-set_other (x ∷ xs) (suc i) zero y apart = refl
get-set_other (x ∷ xs) (suc i) (suc k) y apart = get-set_other xs i k y (λ e. apart (ap suc e))

-- ---- what is added

-- a state
pub Adds-one : (old new : List State) (state : State) (id : ℕ) → IsAdded old new state id → Adds old new (λ states. slice_get states id ≡ Some state)
Adds-one old new state id a = record {
  longer = omega (arith, ap length a.added, length-append old (state ∷ []));
  kept = λ k l. rw a.added (get-before old (state ∷ []) k l);
  holds = λ states is.
      rw a.last (is (length old) (omega arith) (omega (arith, ap length a.added, length-append old (state ∷ []))) ∙ (rw a.added (get-after old state)));
}

-- and then more
pub Adds-both : (old middle new : List State) (P Q R : List State → Type 0) → Adds old middle P → Adds middle new Q
    → ((states : List State) → P states → Q states → R states) → Adds old new R
Adds-both old middle new P Q R p q r = record {
  longer = omega (arith, p.longer, q.longer);
  kept = λ k l. q.kept k (omega (arith, l, p.longer)) ∙ p.kept k l;
  holds = λ states is. r states
      (p.holds states (λ k l m. is k l (omega (arith, m, q.longer)) ∙ q.kept k m))
      (q.holds states (λ k l m. is k (omega (arith, l, p.longer)) m));
}

-- the same, seen in another way
pub Adds-is : (old new : List State) (P Q : List State → Type 0) → ((states : List State) → P states → Q states) → Adds old new P → Adds old new Q
Adds-is old new P Q f p = record {
  longer = p.longer;
  kept = p.kept;
  holds = λ states is. f states (p.holds states is);
}

-- a state is added, then others, and then the state is overwritten
pub Adds-written : (old middle new : List State) (state written : State) (id : ℕ) (P : List State → Type 0) → IsAdded old middle state id
    → Adds middle new P → Adds old (set new id written) (λ states. (slice_get states id ≡ Some written) × P states)
Adds-written old middle new state written id P a p = record {
  longer = omega (arith, length-set new id written, p.longer, more);
  kept = λ k l. get-set_other new id k written (λ e. absurd (omega (arith, e, a.last, l)))
      ∙ (p.kept k (omega (arith, l, more)) ∙ rw a.added (get-before old (state ∷ []) k l));
  holds = λ states is. (
    is id (omega (arith, a.last)) (omega (arith, length-set new id written, p.longer, more, a.last))
        ∙ get-set new id written (omega (arith, p.longer, more, a.last)),
    p.holds states (λ k l m.
        is k (omega (arith, l, more)) (omega (arith, length-set new id written, m))
        ∙ get-set_other new id k written (λ e. absurd (omega (arith, e, a.last, l, more)))),
  );
}
  where
    more : length middle ≡ length old + 1
    more = ap length a.added ∙ length-append old (state ∷ [])

-- ---- parts

-- the states from low to high are a part's
abbrev pub IsPart : ℕ × ℕ → ℕ → ℕ → ℕ → ℕ → Pattern → List State → Type 0
IsPart slots low high first next p all =
    Realizes all first next p × Encloses slots.0 low high first next all × FitsAndAsks slots.1 (asked_by p) low high all × ByWays all first next p
    × TakesCourse low high first next p all

-- all but the order and the course
abbrev IsShape : ℕ × ℕ → ℕ → ℕ → ℕ → ℕ → Pattern → List State → Type 0
IsShape slots low high first next p all =
    Realizes all first next p × Encloses slots.0 low high first next all × FitsAndAsks slots.1 (asked_by p) low high all

shape-then : (slots : ℕ × ℕ) (low middle high first between next : ℕ) (p q : Pattern) (all : List State) → low ≤ middle → middle ≤ high
    → IsShape slots low middle between next q all → IsShape slots middle high first between p all → IsShape slots low high first next (Then p q) all
shape-then slots low middle high first between next p q all l h a b = (
  Realizes-then all first between next p q a.0 b.0,
  Encloses-then slots.0 low middle high first between next all l h a.1 b.1,
  FitsAndAsks-joined slots.1 (asked_by (Then p q)) (asked_by q) (asked_by p) low middle high all
      (either_back (asked_by q) (asked_by p)) l h a.2 b.2,
)

part-then : (slots : ℕ × ℕ) (low middle high first between next : ℕ) (p q : Pattern) (all : List State) → low ≤ middle → middle ≤ high
    → IsPart slots low middle between next q all → IsPart slots middle high first between p all → IsPart slots low high first next (Then p q) all
part-then slots low middle high first between next p q all l h a b =
    let s = shape-then slots low middle high first between next p q all l h (a.0, a.1, a.2) (b.0, b.1, b.2) in
    (s.0, s.1, s.2, ByWays-then all first between next p q a.3 b.3, Takes-then low middle high first between next p q all l h a.4 b.4)

pub Builds-then : (slots : ℕ × ℕ) (old middle new : List State) (first between next : ℕ) (p q : Pattern) → Builds slots old middle between next q
    → Builds slots middle new first between p → Builds slots old new first next (Then p q)
Builds-then slots old middle new first between next p q x y =
    Adds-both old middle new (IsPart slots (length old) (length middle) between next q) (IsPart slots (length middle) (length new) first between p)
    (IsPart slots (length old) (length new) first next (Then p q)) x y
    (λ all a b. part-then slots (length old) (length middle) (length new) first between next p q all x.longer y.longer a b)

-- a part is what goes where it goes
pub Builds-is : (slots : ℕ × ℕ) (old new : List State) (first next : ℕ) (p q : Pattern) → ((x : Subject) (i j : ℕ) → Goes x q i j → Goes x p i j)
    → HasWays p q
    → ((f : Look) → asks f p ≡ asks f q) → ((c : Course) → IsCourseOf p c → IsCourseOf q c) → Builds slots old new first next p
    → Builds slots old new first next q
Builds-is slots old new first next p q back ways same courses x =
    Adds-is old new (IsPart slots (length old) (length new) first next p) (IsPart slots (length old) (length new) first next q)
    (λ all r. (
      Realizes-is all first next p q back r.0,
      r.1,
      FitsAndAsks-alike slots.1 (asked_by p) (asked_by q) (length old) (length new) all same r.2,
      ByWays-is all first next p q ways r.3,
      Takes-is (length old) (length new) first next p q all courses r.4,
    )) x

-- no state
pub Builds-empty : (slots : ℕ × ℕ) (states : List State) (next : ℕ) → Builds slots states states next next Empty
Builds-empty slots states next = record {
  longer = omega arith;
  kept = λ k l. refl;
  holds = λ all is. (
    Realizes-empty all next,
    record { begins = inr refl; stays = λ k state l h. absurd (omega (arith, l, h)) },
    FitsAndAsks-none slots.1 (length states) (length states) all (omega arith),
    ByWays-empty all next,
    Takes-empty (length states) (length states) next all,
  );
}

pub Builds-no_byte : (slots : ℕ × ℕ) (states : List State) (next : ℕ) → Builds slots states states next next (Literal [])
Builds-no_byte slots states next =
    Builds-is slots states states next next Empty (Literal []) (λ x i j g. g) literal_none-ways (λ f. refl) (λ c h. h)
    (Builds-empty slots states next)

-- ---- single states

pub grown : (old new : List State) (state : State) (id : ℕ) → IsAdded old new state id → length new ≡ length old + 1
grown old new state id a = a.one

Builds-state : (slots : ℕ × ℕ) (old new : List State) (state : State) (id next : ℕ) (p : Pattern) → IsAdded old new state id
    → StaysOnWay (λ (s : ℕ). IsOnWay (length old) (length new) next s) slots.0 state
    → Fits slots.1 state → ((f : Look) → asserts f state ≡ asks f p) → ((all : List State) → slice_get all id ≡ Some state
    → Realizes all id next p × ByWays all id next p × TakesCourse (length old) (length new) id next p all)
    → Builds slots old new id next p
Builds-state slots old new state id next p a stays fits has realizes =
    Adds-is old new (λ (all : List State). slice_get all id ≡ Some state) (IsPart slots (length old) (length new) id next p)
    (λ all is. (
      (realizes all is).0,
      Encloses-one slots.0 (length old) (length new) id next all state a.last (grown old new state id a) is stays,
      FitsAndAsks-one slots.1 (asked_by p) (length old) (length new) id all state a.last (grown old new state id a) is fits has,
      (realizes all is).1,
      (realizes all is).2,
    ))
    (Adds-one old new state id a)

pub Builds-never : (slots : ℕ × ℕ) (old new : List State) (this id next : ℕ) → this ≡ length old → IsAdded old new (Fork this this) id
    → Builds slots old new id next Never
Builds-never slots old new this id next e a =
    let same : this ≡ id = e ∙ sym a.last in
    let here : IsOnWay (length old) (length new) next this = inl (omega (arith, e), omega (arith, e, grown old new (Fork this this) id a)) in
    Builds-state slots old new (Fork this this) id next Never a (here, here) tt (λ f. refl)
    (λ all is.
    let loop = is ∙ ap (λ (n : ℕ). Some (Fork n n)) same in
    (Realizes-never all id next loop, ByWays-never all id next loop, Takes-never (length old) (length new) id next all loop))

pub Builds-range : (slots : ℕ × ℕ) (old new : List State) (x y id next : ℕ) → x ≤ y → IsAdded old new (ByteRange x y next) id
    → Builds slots old new id next (Class ((x, y) ∷ []))
Builds-range slots old new x y id next order a =
    Builds-state slots old new (ByteRange x y next) id next (Class ((x, y) ∷ [])) a (inr refl) order (λ f. refl)
    (λ all is. (Realizes-range all id x y next is, ByWays-range all id x y next is, Takes-range (length old) (length new) id x y next all is))

pub Builds-assert : (slots : ℕ × ℕ) (old new : List State) (look : Look) (id next : ℕ) → IsAdded old new (Assert look next) id
    → Builds slots old new id next (Assertion look)
Builds-assert slots old new look id next a =
    Builds-state slots old new (Assert look next) id next (Assertion look) a (inr refl) tt (λ f. refl)
    (λ all is. (Realizes-assert all id next look is, ByWays-assert all id next look is, Takes-assert (length old) (length new) id next look all is))

shape-capture : (slots : ℕ × ℕ) (low high c id next : ℕ) (all : List State) → id ≡ low → high ≡ low + 1
    → slice_get all id ≡ Some (Capture c next)
    → slots.0 < c → c < slots.1 → IsShape slots low high id next Empty all
shape-capture slots low high c id next all same one is l m = (
  Realizes-capture all id c next is,
  Encloses-one slots.0 low high id next all (Capture c next) same one is (l, inr refl),
  FitsAndAsks-one slots.1 nothing low high id all (Capture c next) same one is m (λ f. refl),
)

-- ---- states after parts

pub Builds-either : (slots : ℕ × ℕ) (old middle last new : List State) (one other id next : ℕ) (p q : Pattern) → Builds slots old middle other next q
    → Builds slots middle last one next p → IsAdded last new (Fork one other) id → Builds slots old new id next (Either p q)
Builds-either slots old middle last new one other id next p q x y a =
    Adds-both old last new Both (λ (all : List State). slice_get all id ≡ Some (Fork one other))
    (IsPart slots (length old) (length new) id next (Either p q))
    (Adds-both old middle last (IsPart slots (length old) (length middle) other next q) (IsPart slots (length middle) (length last) one next p) Both x y
    (λ all b c. (b, c)))
    (Adds-one last new (Fork one other) id a)
    (λ all b is. (
      Realizes-either all id one other next p q is b.1.0 b.0.0,
      Encloses-either slots.0 (length old) (length middle) (length last) (length new) one other id next all x.longer y.longer a.last
          (grown last new (Fork one other) id a) b.0.1 b.1.1 is,
      FitsAndAsks-above slots.1 (asked_by (Either p q)) (length old) (length last) (length new) id one other all
          (omega (arith, x.longer, y.longer)) a.last (grown last new (Fork one other) id a) is
          (FitsAndAsks-joined slots.1 (asked_by (Either p q)) (asked_by q) (asked_by p) (length old) (length middle) (length last) all
          (either_back (asked_by q) (asked_by p)) x.longer y.longer b.0.2 b.1.2),
      ByWays-either all id one other next p q is b.1.3 b.0.3,
      Takes-either (length old) (length middle) (length last) (length new) one other id next p q all x.longer y.longer a.last
          (grown last new (Fork one other) id a) is b.0.4 b.1.4,
    ))
  where
    Both : List State → Type 0
    Both all = IsPart slots (length old) (length middle) other next q all × IsPart slots (length middle) (length last) one next p all

-- a range before others, in a class
pub Builds-class : (slots : ℕ × ℕ) (old middle last new : List State) (x y one other id next : ℕ) (rest : List (ℕ × ℕ))
    → 0 < length rest → Builds slots old middle other next (Class rest) → Builds slots middle last one next (Class ((x, y) ∷ []))
    → IsAdded last new (Fork one other) id → Builds slots old new id next (Class ((x, y) ∷ rest))
Builds-class slots old middle last new x y one other id next rest some r a b =
    Builds-is slots old new id next (Either (Class ((x, y) ∷ [])) (Class rest)) (Class ((x, y) ∷ rest)) (class-back x y rest)
    (class-ways x y rest) (λ f. refl) (class-course x y rest some)
    (Builds-either slots old middle last new one other id next (Class ((x, y) ∷ [])) (Class rest) r a b)

-- a byte before others
pub Builds-byte : (slots : ℕ × ℕ) (old middle new : List State) (b first id next : ℕ) (rest : List ℕ)
    → Builds slots old middle first next (Literal rest)
    → IsAdded middle new (ByteRange b b first) id → Builds slots old new id next (Literal (b ∷ rest))
Builds-byte slots old middle new b first id next rest r a =
    Builds-is slots old new id next (Then (Class ((b, b) ∷ [])) (Literal rest)) (Literal (b ∷ rest)) (literal-back b rest)
    (literal-ways b rest) (λ f. refl) (byte-course b rest)
    (Builds-then slots old middle new id first next (Class ((b, b) ∷ [])) (Literal rest) r (Builds-range slots middle new b b id first (omega arith) a))

-- a part between two records, which are in the slots of a pair; the one of its end is written last
pub Builds-group : (slots : ℕ × ℕ) (old middle last new : List State) (state : State) (start end body after id next : ℕ) (p : Pattern)
    → slots.0 < start → end ≡ start + 1 → end < slots.1
    → IsAdded old middle state after → Builds slots middle last body after p → IsAdded (set last after (Capture end next)) new (Capture start body) id
    → Builds slots old new id next (Group start p)
Builds-group slots old middle last new state start end body after id next p l second m a x b =
    Adds-both old (set last after (Capture end next)) new Two (λ (all : List State). slice_get all id ≡ Some (Capture start body))
    (IsPart slots (length old) (length new) id next (Group start p))
    (Adds-written old middle last state (Capture end next) after (IsPart slots (length middle) (length last) body after p) a x)
    (Adds-one (set last after (Capture end next)) new (Capture start body) id b)
    (λ all y is.
    let s = shape-then slots (length old) (length last) (length new) id body next Empty (Then p Empty) all (omega (arith, x.longer, one)) (omega (arith, two))
    (shape-then slots (length old) (length middle) (length last) body after next p Empty all (omega (arith, one)) x.longer
    (shape-capture slots (length old) (length middle) end after next all a.last one y.0 (omega (arith, l, second)) m)
    (y.1.0, y.1.1, y.1.2))
    (shape-capture slots (length last) (length new) start id body all (b.last ∙ same) two is l (omega (arith, m, second))) in (
      Realizes-is all id next p (Group start p) (λ t i j g. g)
          (Realizes-between all id body after next p (Realizes-capture all after end next y.0) y.1.0 (Realizes-capture all id start body is)),
      s.1,
      FitsAndAsks-alike slots.1 (asked_by (Then Empty (Then p Empty))) (asked_by (Group start p)) (length old) (length new) all (between-same p) s.2,
      ByWays-group all id body after next start p is (y.0 ∙ ap (λ (c : ℕ). Some (Capture c next)) second) y.1.3,
      Takes-wider (length middle) (length last) (length old) (length new) id next (Group start p) all (omega (arith, one)) (omega (arith, two))
          (Takes-group (length middle) (length last) id body after next start p all is (y.0 ∙ ap (λ (c : ℕ). Some (Capture c next)) second) y.1.4),
    ))
  where
    Two : List State → Type 0
    Two all = (slice_get all after ≡ Some (Capture end next)) × IsPart slots (length middle) (length last) body after p all

    one : length middle ≡ length old + 1
    one = a.one

    same : length (set last after (Capture end next)) ≡ length last
    same = length-set last after (Capture end next)

    two : length new ≡ length last + 1
    two = omega (arith, b.one, same)

-- ---- a list from an index on

pub drop-last : {A : Type 0} (xs : List A) (i : ℕ) (d : A) → 0 < i → i ≤ length xs → drop (i - 1) xs ≡ get_or xs (i - 1) d ∷ drop i xs
drop-last xs i d some l =
    let back : suc (i - 1) ≡ i = omega (arith, some) in
    drop-cons xs (i - 1) d (omega (arith, some, l)) ∙ ap (λ (n : ℕ). get_or xs (i - 1) d ∷ drop n xs) back

pub drop-one : {A : Type 0} (xs : List A) (d : A) → 0 < length xs → drop (length xs - 1) xs ≡ get_or xs (length xs - 1) d ∷ []
drop-one {A = A} xs d some = drop-last xs (length xs) d some (omega arith) ∙ ap (λ (ys : List A). get_or xs (length xs - 1) d ∷ ys) (drop-length xs)

-- a class without a range has no byte
pub Builds-none : (slots : ℕ × ℕ) (old new : List State) (first next : ℕ) (ranges : List (ℕ × ℕ)) → length ranges ≡ 0
    → Builds slots old new first next Never
    → Builds slots old new first next (Class ranges)
Builds-none slots old new first next [] none x =
    Builds-is slots old new first next Never (Class []) (λ t i j g. absurd (true≢false (sym g.0)))
    (λ t m n f. absurd f) (λ f. refl) (λ c h. h) x
Builds-none slots old new first next (r ∷ rest) none x = absurd (omega (arith, none))

-- nor has one of a range whose first byte is above its last
pub Builds-reversed : (slots : ℕ × ℕ) (old new : List State) (first next x y : ℕ) → y < x → Builds slots old new first next Never
    → Builds slots old new first next (Class ((x, y) ∷ []))
Builds-reversed slots old new first next x y less b =
    Adds-is old new (IsPart slots (length old) (length new) first next Never) (IsPart slots (length old) (length new) first next (Class ((x, y) ∷ [])))
    (λ all r. (
      Realizes-is all first next Never (Class ((x, y) ∷ [])) (λ t i j g. absurd
          (none-between x y (slice_get t.haystack i) less (one_of_one (is_between x y (slice_get t.haystack i)) g.0))) r.0,
      r.1,
      FitsAndAsks-alike slots.1 (asked_by Never) (asked_by (Class ((x, y) ∷ []))) (length old) (length new) all (λ f. refl) r.2,
      ByWays-is all first next Never (Class ((x, y) ∷ [])) (λ t m n f. absurd f) r.3,
      Takes-reversed (length old) (length new) first next x y all less r.4,
    )) b

-- ---- parts with the slots of their groups

pub BuildsPart-empty : (slot_of : ℕ → ℕ) (slots : ℕ × ℕ) (left : ℕ) (states : List State) (next : ℕ)
    → BuildsPart slot_of slots left left states states next next Empty
BuildsPart-empty slot_of slots left states next = (omega arith, Builds-empty slots states next, omega arith)

pub BuildsPart-then : (slot_of : ℕ → ℕ) (slots : ℕ × ℕ) (left mid now : ℕ) (old middle new : List State) (first between next : ℕ) (p q : Pattern)
    → BuildsPart slot_of slots left mid old middle between next q → BuildsPart slot_of slots mid now middle new first between p
    → BuildsPart slot_of slots left now old new first next (Then p q)
BuildsPart-then slot_of slots left mid now old middle new first between next p q x y = (
  omega (arith, x.0, y.0),
  Builds-then slots old middle new first between next (numbered slot_of now p) (numbered slot_of (now + group_count_in p) q)
      (subst (λ (n : ℕ). Builds slots old middle between next (numbered slot_of n q)) y.0 x.1) y.1,
  omega (arith, x.2, y.2),
)

pub BuildsPart-either : (slot_of : ℕ → ℕ)
    (slots : ℕ × ℕ) (left mid now : ℕ) (old middle last new : List State) (one other id next : ℕ) (p q : Pattern)
    → BuildsPart slot_of slots left mid old middle other next q → BuildsPart slot_of slots mid now middle last one next p
    → IsAdded last new (Fork one other) id → BuildsPart slot_of slots left now old new id next (Either p q)
BuildsPart-either slot_of slots left mid now old middle last new one other id next p q x y a = (
  omega (arith, x.0, y.0),
  Builds-either slots old middle last new one other id next (numbered slot_of now p) (numbered slot_of (now + group_count_in p) q)
      (subst (λ (n : ℕ). Builds slots old middle other next (numbered slot_of n q)) y.0 x.1) y.1 a,
  omega (arith, x.2, y.2, a.one),
)

-- a part before others
pub BuildsPart-one_of : (slot_of : ℕ → ℕ)
    (slots : ℕ × ℕ) (left mid now : ℕ) (old middle last new : List State) (one other id next : ℕ) (p : Pattern)
    (rest : List Pattern) → 0 < length rest
    → BuildsPart slot_of slots left mid old middle other next (one_of rest) → BuildsPart slot_of slots mid now middle last one next p
    → IsAdded last new (Fork one other) id → BuildsPart slot_of slots left now old new id next (one_of (p ∷ rest))
BuildsPart-one_of slot_of slots left mid now old middle last new one other id next p [] some x y a = absurd (omega (arith, some))
BuildsPart-one_of slot_of slots left mid now old middle last new one other id next p (q ∷ rest) some x y a =
    BuildsPart-either slot_of slots left mid now old middle last new one other id next p (one_of (q ∷ rest)) x y a

-- without a part there is no match
pub BuildsPart-nothing : (slot_of : ℕ → ℕ) (slots : ℕ × ℕ) (left : ℕ) (old new : List State) (first next : ℕ) (parts : List Pattern)
    → length parts ≡ 0
    → Builds slots old new first next Never → length new ≡ length old + 1 → BuildsPart slot_of slots left left old new first next (one_of parts)
BuildsPart-nothing slot_of slots left old new first next [] none x one = (omega arith, x, one)
BuildsPart-nothing slot_of slots left old new first next (p ∷ rest) none x one = absurd (omega (arith, none))

pub BuildsPart-group : (slot_of : ℕ → ℕ) (slots : ℕ × ℕ) (left inner number : ℕ) (old middle last new : List State) (state : State)
    (start end body after id next : ℕ) (p : Pattern)
    → slots.0 < start → end ≡ start + 1 → end < slots.1 → start ≡ slot_of number → inner ≡ number + 1
    → IsAdded old middle state after → BuildsPart slot_of slots left inner middle last body after p
    → IsAdded (set last after (Capture end next)) new (Capture start body) id → BuildsPart slot_of slots left number old new id next (Group 0 p)
BuildsPart-group slot_of slots left inner number old middle last new state start end body after id next p l second m its one a x b = (
  omega (arith, x.0, one),
  subst (λ (slot : ℕ). Builds slots old new id next (Group slot (numbered slot_of (number + 1) p))) its
      (Builds-group slots old middle last new state start end body after id next (numbered slot_of (number + 1) p) l second m a
      (subst (λ (n : ℕ). Builds slots middle last body after (numbered slot_of n p)) one x.1) b),
  omega (arith, x.2, a.one, b.one, length-set last after (Capture end next)),
)

-- ---- the slots of a group of a part

-- they come after those of the whole match
pub group-slots : (lists : GroupLists) (p g : ℕ) → 0 < g → p < length lists → 2 * p + 1 < slot_number lists p g
group-slots lists p zero some l = absurd (omega (arith, some))
group-slots lists p (suc g) some l =
    let later : nat_eq (suc g) 0 ≡ false = grind (arith, nat_tests) in
    rw later (omega (arith, l))
