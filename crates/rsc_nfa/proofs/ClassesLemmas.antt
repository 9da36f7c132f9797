-- The boundaries that a class set gathers from the states are exactly what keeps all runs.
use Rattle.std.proofs.Common.{◌≡◌, ℕ, ◌+◌, ◌<◌, ◌≤◌, Bool, true, false, ◌||◌, List, [], ◌∷◌, length, take, get_or, sym, ap, ap₂, ◌∙◌, nat_cmp, ◌↔◌, refl, arith, subst, slice_get, slice_index, Option, Some, None, MatchOption, zero, suc, ◌&&◌, nat_le, ◌⊎◌, inl, inr, true≢false, IsTrue, Any}
use Rattle.std.specs.List.{list_any}
use Rattle.std.specs.FinSet as sets
use Rattle.std.specs.FinSet.{contains-empty, same_set, nat_cmp-IsAntisymmetric}
use Rattle.std.specs.Cmp.{nat_cmp_total}
use Rattle.std.proofs.lemmas.List.{take_all, take_more}
use Rattle.std.proofs.lemmas.List.Folds.{list_any-append, Any-from_list_any, list_any_at}
use Rattle.std.proofs.Math.Bool.{or-false}
use Rattle.rsc_alphabet.specs.ByteSets.{Numbers}
use Rattle.rsc_alphabet.specs.PartitionsLaws.{contains-joined, union_none}
use Rattle.rsc_nfa.specs.declared.state.State.{State}
use Rattle.rsc_nfa.specs.declared.state.State.TheVariants.{ByteRange, Assert, Fork, Capture, Accept}
use Rattle.rsc_nfa.specs.Classes.{boundaries_of_state, boundaries_of_states, asks_characters, has_unicode_assertion, AreInterchangedBy, KeepsRuns, IsStepNeeded, IsEachBoundaryNeeded, KeepsRunsUnder, HasNoSpareBoundary}
use Rattle.std.proofs.lemmas.Option.{slice_get-get_or, get_or_from_slice_get, slice_get_within}
use Rattle.rsc_look.specs.KeepingLaws.{is_its_member, next_together, alike_alone, not_told, same_as_only}
use Rattle.rsc_alphabet.specs.Partitions.{AreTogether, class_map, boundaries_of_range}
use Rattle.rsc_alphabet.specs.Ranges.{holds}
use Rattle.rsc_look.specs.declared.assertion.Look.{Look}
use Rattle.rsc_look.specs.Looks.{is_unicode}
use Rattle.rsc_look.specs.Holds.{Holds}
use Rattle.rsc_look.specs.Boundaries.{boundaries_of_look}
use Rattle.rsc_look.specs.Keeping.{AreInterchanged, DifferInAscii, Keeps, AgreesWithAscii, HasNeededBoundaries, IsNeeded, Tells}
use Rattle.rsc_nfa.specs.Steps.{is_between, StepsTo, IsStep, IsRun, place, IsPlaceWithin}
use Rattle.std.proofs.lemmas.Bool.Decides.{nat_tests}
use Rattle.std.proofs.lemmas.Bool.{true_from_ne_false}
use Rattle.rsc_captures.specs.Groups.{GroupLists}
use Rattle.rsc_nfa.specs.StateFaults.{fault_in, AreFaultless}
use Rattle.rsc_nfa.proofs.StateFaultsLemmas.{fault-none}

-- ---- a set that gathers the boundaries of states, one after the other

-- the boundaries of states, as a test
pub contains-boundaries : (states : List State) (t b : ℕ)
    → sets.contains (boundaries_of_states states t) b ≡ list_any (λ s. sets.contains (boundaries_of_state s t) b) states
contains-boundaries [] t b = contains-empty nat_cmp b
contains-boundaries (s ∷ rest) t b =
    contains-joined (boundaries_of_state s t) (boundaries_of_states rest t) b
    ∙ ap (λ x. sets.contains (boundaries_of_state s t) b || x) (contains-boundaries rest t b)

-- ---- one state more

-- the set has the boundaries of the states
abbrev pub AreGathered : Numbers → List State → ℕ → Type 0
AreGathered set states t = (b : ℕ) → sets.contains set b ≡ sets.contains (boundaries_of_states states t) b

-- before the first state
pub AreGathered-none : (set : Numbers) (states : List State) (t : ℕ) → set ≡ sets.empty → AreGathered set [] t
AreGathered-none set states t e b = ap (λ u. sets.contains u b) e

-- after one state more
pub AreGathered-more : (set new : Numbers) (states : List State) (t i : ℕ) (state : State) → i < length states → state ≡ get_or states i state
    → AreGathered set (take i states) t → new ≡ sets.union set (boundaries_of_state state t) → AreGathered new (take (i + 1) states) t
AreGathered-more set new states t i state lt at gathered adds b =
    let s : State = get_or states i state in
    ap (λ u. sets.contains u b) (adds ∙ ap (λ (x : State). sets.union set (boundaries_of_state x t)) at) ∙ contains-joined set (boundaries_of_state s t) b
    ∙ ap₂ (λ x y. x || y) (gathered b ∙ contains-boundaries (take i states) t b) (sym (or-false (sets.contains (boundaries_of_state s t) b))) ∙ sym
    (contains-boundaries (take (i + 1) states) t b
    ∙ ap (λ (x : List State). list_any (λ u. sets.contains (boundaries_of_state u t) b) x) (take_more states i state lt)
    ∙ list_any-append (λ u. sets.contains (boundaries_of_state u t) b) (take i states) (s ∷ []))

-- ---- what adds nothing

-- a state without boundaries
abbrev pub is_plain : State → Bool
is_plain (ByteRange a b next) = false
is_plain (Assert l next) = false
is_plain _ = true

-- such a state adds none
pub plain-adds : (s : Numbers) (state : State) (t : ℕ) → is_plain state ≡ true → s ≡ sets.union s (boundaries_of_state state t)
plain-adds s (ByteRange a b next) t e = absurd (cc)
plain-adds s (Assert l next) t e = absurd (cc)
plain-adds s _ t e = sym (union_none s)

-- ---- after the loop

-- a boundary of a list of states is one of some state
pub owner : (states : List State) (t b : ℕ) → sets.contains (boundaries_of_states states t) b ≡ true
    → Any (λ s. sets.contains (boundaries_of_state s t) b ≡ true) states
owner states t b m = Any-from_list_any (λ s. sets.contains (boundaries_of_state s t) b) states (sym (contains-boundaries states t b) ∙ m)

-- after the last state
pub AreGathered-all : (set : Numbers) (states : List State) (t n : ℕ) → length states ≤ n → AreGathered set (take n states) t
    → set ≡ boundaries_of_states states t
AreGathered-all set states t n l gathered =
    same_set nat_cmp_total nat_cmp-IsAntisymmetric set (boundaries_of_states states t) (λ b.
    gathered b ∙ ap (λ (x : List State). sets.contains (boundaries_of_states x t) b) (take_all n states l))

-- ---- the laws of the layers below that are used

-- two bytes have one class exactly if they are together
abbrev pub OneClassIsTogether : (ℕ → Bool) → Type 0
OneClassIsTogether p = (b c : ℕ) → b < 256 → c < 256 → (slice_index (class_map p) b ≡ slice_index (class_map p) c) ↔ AreTogether p b c

-- bytes that are together are both in a range or both outside, where the partition has its boundaries
abbrev pub RangesAreKept : (ℕ → Bool) → Type 0
RangesAreKept p =
    (r : ℕ × ℕ) (b c : ℕ) → b < 256 → c < 256 → ((k : ℕ) → k < 255 → sets.contains (boundaries_of_range r) k ≡ true → p k ≡ true)
    → AreTogether p b c → holds r b ≡ holds r c

-- the boundaries of an assertion are exact for it
abbrev pub AreExact : ℕ → (ℕ → Bool) → Type 0
AreExact t chars = (l : Look) → (is_unicode l ≡ true → AgreesWithAscii chars) → HasNeededBoundaries (sets.contains (boundaries_of_look l t)) l t chars

-- the partition has the boundaries of the state
abbrev pub HasBoundariesOfState : (ℕ → Bool) → State → ℕ → Type 0
HasBoundariesOfState p state t = (q : ℕ) → sets.contains (boundaries_of_state state t) q ≡ true → p q ≡ true

-- ---- a step

-- the two haystacks may be exchanged
pub AreInterchangedBy-sym : (m : List ℕ) (u : Bool) (h k : List ℕ) → AreInterchangedBy m u h k → AreInterchangedBy m u k h
AreInterchangedBy-sym m u h k s = record {
  first = s.second;
  second = s.first;
  same_length = sym s.same_length;
  same_class = λ i l. sym (s.same_class i (omega (arith, s.same_length)));
  in_ascii = λ e i l n. let r = s.in_ascii e i (omega (arith, s.same_length)) (λ q. n (sym q)) in (r.1, r.0);
}

AreInterchanged-from : (p : ℕ → Bool) (m : List ℕ) (u : Bool) (h k : List ℕ) → OneClassIsTogether p → m ≡ class_map p
    → AreInterchangedBy m u h k
    → AreInterchanged p h k
AreInterchanged-from p m u h k law is s = record {
  first = s.first;
  second = s.second;
  same_length = s.same_length;
  together = λ i l. (law (slice_index h i) (slice_index k i) (s.first i 0 l) (s.second i 0 (omega (arith, s.same_length)))).0
      (subst (λ x. slice_index x (slice_index h i) ≡ slice_index x (slice_index k i)) is (s.same_class i l));
}

same_between : (p : ℕ → Bool) (a b i : ℕ) (h k : List ℕ) → RangesAreKept p
    → ((q : ℕ) → sets.contains (boundaries_of_range (a, b)) q ≡ true → p q ≡ true)
    → AreInterchanged p h k → i < length h → is_between a b (slice_get h i) ≡ is_between a b (slice_get k i)
same_between p a b i h k ranges has s l =
    let u : i < length k = omega (arith, s.same_length) in
    ap (is_between a b) (slice_get-get_or h i 0 l)
    ∙ ranges (a, b) (get_or h i 0) (get_or k i 0) (s.first i 0 l) (s.second i 0 u) (λ q lt m. has q m) (s.together i l)
    ∙ sym (ap (is_between a b) (slice_get-get_or k i 0 u))

Holds-moves : (p : ℕ → Bool) (l : Look) (t : ℕ) (chars : ℕ → Bool) (h k : List ℕ) (i : ℕ)
    → HasNeededBoundaries (sets.contains (boundaries_of_look l t)) l t chars
    → ((q : ℕ) → sets.contains (boundaries_of_look l t) q ≡ true → p q ≡ true)
    → AreInterchanged p h k → (is_unicode l ≡ true → DifferInAscii h k) → i ≤ length h → Holds l t chars h i → Holds l t chars k i
Holds-moves p l t chars h k i e has s d r x = go (is_unicode l) refl
  where
    keeps : Keeps p (l ∷ []) t chars
    keeps = e.kept p (λ b lt m. has b m)

    go : (u : Bool) → is_unicode l ≡ u → Holds l t chars k i
    go true f = (keeps.at_characters l (is_its_member l) f h k s (d f) i r).0 x
    go false f = (keeps.at_bytes l (is_its_member l) f h k s i r).0 x

StepsTo-moves : (p : ℕ → Bool) (state : State) (t : ℕ) (chars : ℕ → Bool) (h k : List ℕ) (end i : ℕ) (to : ℕ × ℕ) → RangesAreKept p
    → AreExact t chars
    → HasBoundariesOfState p state t → (asks_characters state ≡ true → AgreesWithAscii chars) → AreInterchanged p h k
    → (asks_characters state ≡ true → DifferInAscii h k)
    → end ≤ length h → i ≤ end → StepsTo state t chars h end i to → StepsTo state t chars k end i to
StepsTo-moves p (ByteRange a b next) t chars h k end i to ranges exact has g s d e r x =
    (x.0, sym (same_between p a b i h k ranges has s (omega (arith, x.0))) ∙ x.1, x.2, x.3)
StepsTo-moves p (Assert l next) t chars h k end i to ranges exact has g s d e r x =
    (Holds-moves p l t chars h k i (exact l g) has s d (omega arith) x.0, x.1, x.2)
StepsTo-moves p (Fork a b) t chars h k end i to ranges exact has g s d e r x = x
StepsTo-moves p (Capture slot next) t chars h k end i to ranges exact has g s d e r x = x
StepsTo-moves p (Accept a) t chars h k end i to ranges exact has g s d e r x = x

-- a state that asks for characters is one of the list
pub asks-listed : (states : List State) (s : ℕ) (state : State) → slice_get states s ≡ Some state → asks_characters state ≡ true
    → has_unicode_assertion states ≡ true
asks-listed states s state e a =
    list_any_at asks_characters states s state (slice_get_within states s state e) (ap asks_characters (get_or_from_slice_get states s state state e) ∙ a)

-- the state that a step is from
pub step_of : (states : List State) (t : ℕ) (chars : ℕ → Bool) (h : List ℕ) (end : ℕ) (p q : ℕ × ℕ) → IsStep states t chars h end p q
    → (state : State) × (slice_get states p.0 ≡ Some state) × StepsTo state t chars h end p.1 q
step_of states t chars h end p q x = go (slice_get states p.0) refl x
  where
    go : (o : Option State) → slice_get states p.0 ≡ o → MatchOption o ⊥ (λ state. StepsTo state t chars h end p.1 q)
        → (state : State) × (slice_get states p.0 ≡ Some state) × StepsTo state t chars h end p.1 q
    go None e x = absurd x
    go (Some state) e x = (state, e, x)

-- the partition has the boundaries of each state
abbrev pub HasBoundariesOfStates : (ℕ → Bool) → List State → ℕ → Type 0
HasBoundariesOfStates p states t = (s : ℕ) (state : State) → slice_get states s ≡ Some state → HasBoundariesOfState p state t

module _ (p : ℕ → Bool) (states : List State) (t : ℕ) (chars : ℕ → Bool) (ranges : RangesAreKept p) (exact : AreExact t chars)
    (all : HasBoundariesOfStates p states t)
    (ascii : has_unicode_assertion states ≡ true → AgreesWithAscii chars) where
  IsStep-moves : (h k : List ℕ) (end : ℕ) (from to : ℕ × ℕ) → AreInterchanged p h k → (has_unicode_assertion states ≡ true → DifferInAscii h k)
      → end ≤ length h
      → from.1 ≤ end → IsStep states t chars h end from to → IsStep states t chars k end from to
  IsStep-moves h k end from to s d e r x =
      let here = step_of states t chars h end from to x in
      let state = here.0 in
      let q = here.1 in
      rw q (StepsTo-moves p state t chars h k end from.1 to ranges exact (all from.0 state q) (λ a. ascii (asks-listed states from.0 state q a)) s
      (λ a. d (asks-listed states from.0 state q a)) e r here.2)

  IsRun-moves : (h k : List ℕ) (start end : ℕ) (run : List (ℕ × ℕ)) → AreInterchanged p h k → (has_unicode_assertion states ≡ true → DifferInAscii h k)
      → end ≤ length h
      → IsRun states t chars h start end run → IsRun states t chars k start end run
  IsRun-moves h k start end run s d e r = record {
    places = r.places;
    steps = λ n l. IsStep-moves h k end (place run n) (place run (n + 1)) s d e ((r.places n (omega arith)).2) (r.steps n l);
  }

  -- bytes of one class keep runs
  pub KeepsRuns-from : (m : List ℕ) → OneClassIsTogether p → m ≡ class_map p → KeepsRuns m states t chars
  KeepsRuns-from m law is = record { kept = both }
    where
      both : (h k : List ℕ) → AreInterchangedBy m (has_unicode_assertion states) h k → (start end : ℕ) → end ≤ length h
          → (run : List (ℕ × ℕ)) → IsRun states t chars h start end run ↔ IsRun states t chars k start end run
      both h k s start end e run =
          let back = AreInterchangedBy-sym m (has_unicode_assertion states) h k s in (
            IsRun-moves h k start end run (AreInterchanged-from p m _ h k law is s) s.in_ascii e,
            IsRun-moves k h start end run (AreInterchanged-from p m _ k h law is back) back.in_ascii (omega (arith, s.same_length)),
          )

-- the boundaries of all states are those of each
pub HasBoundariesOfStates-from : (states : List State) (t : ℕ) → HasBoundariesOfStates (sets.contains (boundaries_of_states states t)) states t
HasBoundariesOfStates-from states t s state e q m =
    contains-boundaries states t q ∙ list_any_at (λ u. sets.contains (boundaries_of_state u t) q) states s state (slice_get_within states s state e)
    (ap (λ u. sets.contains (boundaries_of_state u t) q) (get_or_from_slice_get states s state state e) ∙ m)

-- ---- one state

-- of two, one leads to `next` and the other nowhere
abbrev ExactlyOne : (ℕ × ℕ → Type 0) → (ℕ × ℕ → Type 0) → ℕ × ℕ → Type 0
ExactlyOne A B next = (A next × ((to : ℕ × ℕ) → ¬ (B to))) ⊎ (((to : ℕ × ℕ) → ¬ (A to)) × B next)

-- a step from the state, one of n, tells the byte b from the next one
record StepTells (n : ℕ) (state : State) (t : ℕ) (chars : ℕ → Bool) (b : ℕ) : Type 0 where
  position : ℕ
  next : ℕ × ℕ
  at_an_end : position ≤ 1
  known : next.0 < n
  arrives : next.1 ≤ 1
  tells : ExactlyOne (StepsTo state t chars (b ∷ []) 1 position) (StepsTo state t chars ((b + 1) ∷ []) 1 position) next

-- the boundaries of a range are before its first byte and after its last
abbrev pub RangesHaveBoundaries : Type 0
RangesHaveBoundaries = (r : ℕ × ℕ) (k : ℕ) → k < 255 → (sets.contains (boundaries_of_range r) k ≡ true) ↔ ((k + 1 ≡ r.0) ⊎ (k ≡ r.1))

inside : (a e x : ℕ) → a ≤ x → x ≤ e → IsTrue (nat_le a x && nat_le x e)
inside a e x l u = grind (arith, nat_tests)

below : (a e x : ℕ) → x < a → IsTrue (nat_le a x && nat_le x e) → ⊥
below a e x l t = let h : a ≤ x = grind (arith, nat_tests) in absurd (omega arith)

above : (a e x : ℕ) → e < x → IsTrue (nat_le a x && nat_le x e) → ⊥
above a e x l t = let h : x ≤ e = grind (arith, nat_tests) in absurd (omega arith)

range-tells : (a e next t : ℕ) (chars : ℕ → Bool) (b : ℕ) → a ≤ e → ((b + 1) ≡ a) ⊎ (b ≡ e)
    → ExactlyOne (StepsTo (ByteRange a e next) t chars (b ∷ []) 1 0) (StepsTo (ByteRange a e next) t chars ((b + 1) ∷ []) 1 0) (next, 1)
range-tells a e next t chars b ordered (inl q) =
    inr ((λ to x. below a e b (omega arith) x.1), (omega arith, inside a e (b + 1) (omega arith) (omega arith), refl, refl))
range-tells a e next t chars b ordered (inr q) =
    inl ((omega arith, inside a e b (omega arith) (omega arith), refl, refl), (λ to x. above a e (b + 1) (omega arith) x.1))

assert-tells : (l : Look) (next t : ℕ) (chars : ℕ → Bool) (b : ℕ) (m : Look) (i : ℕ) → l ≡ m → Tells m t chars (b ∷ []) ((b + 1) ∷ []) i
    → ExactlyOne (StepsTo (Assert l next) t chars (b ∷ []) 1 i) (StepsTo (Assert l next) t chars ((b + 1) ∷ []) 1 i) (next, i)
assert-tells l next t chars b m i e told = go (subst (λ x. Tells x t chars (b ∷ []) ((b + 1) ∷ []) i) (sym e) told)
  where
    go : Tells l t chars (b ∷ []) ((b + 1) ∷ []) i
        → ExactlyOne (StepsTo (Assert l next) t chars (b ∷ []) 1 i) (StepsTo (Assert l next) t chars ((b + 1) ∷ []) 1 i) (next, i)
    go (inl x) = inl ((x.0, refl, refl), (λ to y. x.1 y.0))
    go (inr x) = inr ((λ to y. x.0 y.0), (x.1, refl, refl))

state-tells : RangesHaveBoundaries → (groups : GroupLists) (n s : ℕ) (state : State) (t : ℕ) (chars : ℕ → Bool) (b : ℕ) → b < 255
    → fault_in groups n s (Some state) ≡ None → (asks_characters state ≡ true → AgreesWithAscii chars) → AreExact t chars
    → sets.contains (boundaries_of_state state t) b ≡ true → StepTells n state t chars b
state-tells boundaries groups n s (ByteRange a e next) t chars b lt faultless g exact m =
    let r : (a ≤ e) × (next < n) = fault-none groups n s (ByteRange a e next) faultless in
    record {
      position = 0;
      next = (next, 1);
      at_an_end = omega arith;
      known = r.1;
      arrives = omega arith;
      tells = range-tells a e next t chars b r.0 ((boundaries (a, e) b lt).0 m);
    }
state-tells boundaries groups n s (Assert l next) t chars b lt faultless g exact m =
    let y : IsNeeded b (l ∷ []) t chars = (exact l g).needed b lt m in
    record {
      position = y.position;
      next = (next, y.position);
      at_an_end = y.at_an_end;
      known = fault-none groups n s (Assert l next) faultless;
      arrives = y.at_an_end;
      tells = assert-tells l next t chars b y.look y.position (same_as_only l y.look y.listed) y.tells;
    }
state-tells boundaries groups n s _ t chars b lt faultless g exact m = absurd (true≢false (sym m ∙ contains-empty nat_cmp b))

-- ---- all states

step-needed : (states : List State) (t : ℕ) (chars : ℕ → Bool) (b s : ℕ) (state : State) → s < length states → slice_get states s ≡ Some state
    → StepTells (length states) state t chars b → IsStepNeeded b states t chars
step-needed states t chars b s state lt e told = record {
  state = s;
  position = told.position;
  next = told.next;
  there = lt;
  at_an_end = told.at_an_end;
  arrives = (told.known, omega arith, told.arrives);
  tells = subst (λ o. ExactlyOne (λ to. MatchOption o ⊥ (λ x. StepsTo x t chars (b ∷ []) 1 told.position to))
      (λ to. MatchOption o ⊥ (λ x. StepsTo x t chars ((b + 1) ∷ []) 1 told.position to)) told.next) (sym e) told.tells;
}

-- each boundary is needed by a state
pub IsEachBoundaryNeeded-from : (groups : GroupLists) (states : List State) (t : ℕ) (chars : ℕ → Bool) (m : List ℕ) → RangesHaveBoundaries
    → AreExact t chars
    → AreFaultless groups states → (has_unicode_assertion states ≡ true → AgreesWithAscii chars)
    → OneClassIsTogether (sets.contains (boundaries_of_states states t))
    → m ≡ class_map (sets.contains (boundaries_of_states states t)) → IsEachBoundaryNeeded m states t chars
IsEachBoundaryNeeded-from groups states t chars m boundaries exact faultless ascii law is b lt differ =
    let at_boundary : sets.contains (boundaries_of_states states t) b ≡ true = true_from_ne_false (sets.contains (boundaries_of_states states t) b) (λ e.
    let one_class = (law b (b + 1) (omega arith) (omega arith)).1 (next_together (sets.contains (boundaries_of_states states t)) b e) in
    differ (subst (λ x. slice_index x b ≡ slice_index x (b + 1)) (sym is) one_class)) in
    let y : Any (λ s. sets.contains (boundaries_of_state s t) b ≡ true) states = owner states t b at_boundary in
    let at : slice_get states y.0 ≡ Some y.1 = slice_get-get_or states y.0 y.1 y.2 ∙ ap Some y.3 in
    let none : fault_in groups (length states) y.0 (Some y.1) ≡ None = subst (λ o. fault_in groups (length states) y.0 o ≡ None) at (faultless y.0 y.2) in
    step-needed states t chars b y.0 y.1 y.2 at (state-tells boundaries groups (length states) y.0 y.1 t chars b lt none
    (λ a. ascii (asks-listed states y.0 y.1 at a)) exact y.4)

-- ---- each boundary belongs to every partition that keeps the runs

two : (states : List State) (t : ℕ) (chars : ℕ → Bool) (h : List ℕ) (p q : ℕ × ℕ) → IsPlaceWithin states 0 1 p → IsPlaceWithin states 0 1 q
    → IsStep states t chars h 1 p q → IsRun states t chars h 0 1 (p ∷ (q ∷ []))
two states t chars h p q u v s = record { places = places; steps = steps }
  where
    places : (k : ℕ) → k < 2 → IsPlaceWithin states 0 1 (place (p ∷ (q ∷ [])) k)
    places zero l = u
    places (suc zero) l = v
    places (suc (suc k)) l = absurd (omega arith)

    steps : (k : ℕ) → k + 1 < 2 → IsStep states t chars h 1 (place (p ∷ (q ∷ [])) k) (place (p ∷ (q ∷ [])) (k + 1))
    steps zero l = s
    steps (suc k) l = absurd (omega arith)

needed-parts : (q : ℕ → Bool) (states : List State) (t : ℕ) (chars : ℕ → Bool) (b : ℕ) → b < 255 → KeepsRunsUnder q states t chars
    → IsStepNeeded b states t chars → q b ≡ true
needed-parts q states t chars b lt keeps n = true_from_ne_false (q b) (λ e.
    let same = keeps (b ∷ []) ((b + 1) ∷ []) (alike_alone q b lt e) 0 1 (omega arith) (from ∷ (n.next ∷ [])) in
    not_told _ _ (
      (λ s. (same.0 (two states t chars (b ∷ []) from n.next u n.arrives s)).steps 0 (omega arith)),
      (λ s. (same.1 (two states t chars ((b + 1) ∷ []) from n.next u n.arrives s)).steps 0 (omega arith)),
    ) (elim n.tells [ inl x ↦ inl (x.0, x.1 n.next) | inr x ↦ inr (x.0 n.next, x.1) ]))
  where
    from : ℕ × ℕ
    from = (n.state, n.position)

    u : IsPlaceWithin states 0 1 from
    u = (n.there, omega arith, n.at_an_end)

-- classes whose boundaries are needed are the coarsest
pub HasNoSpareBoundary-from : (m : List ℕ) (states : List State) (t : ℕ) (chars : ℕ → Bool) → IsEachBoundaryNeeded m states t chars
    → HasNoSpareBoundary m states t chars
HasNoSpareBoundary-from m states t chars needed q keeps b lt differ = needed-parts q states t chars b lt keeps (needed b lt differ)
