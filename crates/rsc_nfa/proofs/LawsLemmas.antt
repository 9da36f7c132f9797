-- What one step looks at and where it leads, and how runs grow.
use Rattle.std.proofs.Common.{◌≡◌, ◌↔◌, ℕ, zero, suc, ◌+◌, ◌-◌, ◌<◌, ◌≤◌, ◌⊎◌, inl, inr, ⊎_elim, Bool, true, false, true≢false, List, [], ◌∷◌, ◌++◌, length, length-append, slice_get, refl, sym, ap, ◌∙◌, subst, arith, Option, Some, MatchBool, IsTrue}
use Rattle.std.proofs.lemmas.Bool.{cases_lt, false_from_ne_true}
use Rattle.std.proofs.lemmas.List.{get_or_append_left, get_or-append_right}
use Rattle.std.proofs.lemmas.Option.{slice_get_within}
use Rattle.rsc_captures.specs.Groups.{GroupLists}
use Rattle.rsc_look.specs.declared.assertion.Look.{Look}
use Rattle.rsc_look.specs.Looks.{is_unicode}
use Rattle.rsc_look.specs.Holds.{Holds, HoldsAtSides, holds_at_bytes, byte_before, byte_after}
use Rattle.rsc_nfa.specs.declared.state.State.{State}
use Rattle.rsc_nfa.specs.declared.state.State.TheVariants.{ByteRange, Assert, Fork, Capture, Accept}
use Rattle.rsc_nfa.specs.Classes.{asks_characters, has_unicode_assertion, KeepsRuns, AreInterchangedBy}
use Rattle.rsc_nfa.specs.StateFaults.{AreFaultless, IsStateWithin}
use Rattle.rsc_nfa.specs.Steps.{is_between, StepsTo, IsStep, IsRun, IsPlaceWithin, place, recorded, RecordsAreFollowed}
use Rattle.rsc_nfa.proofs.StepsLemmas.{recorded-last}
use Rattle.rsc_nfa.proofs.ClassesLemmas.{asks-listed, step_of, AreInterchangedBy-sym}
use Rattle.rsc_nfa.proofs.StateFaultsLemmas.{faultless-names}

-- ---- a step goes by the two neighbours

under_false : (b : Bool) (A B C D : Type 0) → b ≡ false → (B → D) → MatchBool b A B → MatchBool b C D
under_false true A B C D e f x = absurd (true≢false e)
under_false false A B C D e f x = f x

Holds-local : (l : Look) (t : ℕ) (chars : ℕ → Bool) (h k : List ℕ) (i j : ℕ) → is_unicode l ≡ false → byte_before h i ≡ byte_before k j
    → byte_after h i ≡ byte_after k j → Holds l t chars h i → Holds l t chars k j
Holds-local l t chars h k i j plain before after x =
    under_false (is_unicode l) (HoldsAtSides l chars h i) (IsTrue (holds_at_bytes l t (byte_before h i) (byte_after h i)))
    (HoldsAtSides l chars k j) (IsTrue (holds_at_bytes l t (byte_before k j) (byte_after k j))) plain
    (λ (y : IsTrue (holds_at_bytes l t (byte_before h i) (byte_after h i))).
    subst (λ (p : Option ℕ). IsTrue (holds_at_bytes l t p (byte_after k j))) before
    (subst (λ (n : Option ℕ). IsTrue (holds_at_bytes l t (byte_before h i) n)) after y)) x

asks-none : (states : List State) (s : ℕ) (state : State) → slice_get states s ≡ Some state → has_unicode_assertion states ≡ false
    → asks_characters state ≡ false
asks-none states s state e none =
    false_from_ne_true (asks_characters state) (λ a. true≢false (sym (asks-listed states s state e a) ∙ none))

StepsTo-stays : (state : State) (t : ℕ) (chars : ℕ → Bool) (h k : List ℕ) (end last i j u : ℕ) → asks_characters state ≡ false
    → byte_before h i ≡ byte_before k j → byte_after h i ≡ byte_after k j
    → StepsTo state t chars h end i (u, i) → StepsTo state t chars k last j (u, j)
StepsTo-stays (ByteRange a b next) t chars h k end last i j u plain before after x = absurd (omega (arith, x.3))
StepsTo-stays (Assert l next) t chars h k end last i j u plain before after x = (Holds-local l t chars h k i j plain before after x.0, x.1, refl)
StepsTo-stays (Fork a b) t chars h k end last i j u plain before after x = (x.0, refl)
StepsTo-stays (Capture slot next) t chars h k end last i j u plain before after x = (x.0, refl)
StepsTo-stays (Accept p) t chars h k end last i j u plain before after x = x

StepsTo-advances : (state : State) (t : ℕ) (chars : ℕ → Bool) (h k : List ℕ) (end last i j u : ℕ) → byte_after h i ≡ byte_after k j
    → (i < end → j < last) → StepsTo state t chars h end i (u, i + 1) → StepsTo state t chars k last j (u, j + 1)
StepsTo-advances (ByteRange a b next) t chars h k end last i j u after room x =
    (room x.0, subst (λ (n : Option ℕ). IsTrue (is_between a b n)) after x.1, x.2, refl)
StepsTo-advances (Assert l next) t chars h k end last i j u after room x = absurd (omega (arith, x.2))
StepsTo-advances (Fork a b) t chars h k end last i j u after room x = absurd (omega (arith, x.1))
StepsTo-advances (Capture slot next) t chars h k end last i j u after room x = absurd (omega (arith, x.1))
StepsTo-advances (Accept p) t chars h k end last i j u after room x = x

-- a step that stays looks at no more than the byte before and the byte after
pub IsStep-stays : (states : List State) (t : ℕ) (chars : ℕ → Bool) (h k : List ℕ) (end last i j s u : ℕ) → has_unicode_assertion states ≡ false
    → byte_before h i ≡ byte_before k j → byte_after h i ≡ byte_after k j
    → IsStep states t chars h end (s, i) (u, i) → IsStep states t chars k last (s, j) (u, j)
IsStep-stays states t chars h k end last i j s u none before after x =
    let here = step_of states t chars h end (s, i) (u, i) x in
    rw here.1 (StepsTo-stays here.0 t chars h k end last i j u (asks-none states s here.0 here.1 none) before after here.2)

-- a step over a byte looks at that byte alone
pub IsStep-advances : (states : List State) (t : ℕ) (chars : ℕ → Bool) (h k : List ℕ) (end last i j s u : ℕ) → byte_after h i ≡ byte_after k j
    → (i < end → j < last) → IsStep states t chars h end (s, i) (u, i + 1) → IsStep states t chars k last (s, j) (u, j + 1)
IsStep-advances states t chars h k end last i j s u after room x =
    let here = step_of states t chars h end (s, i) (u, i + 1) x in rw here.1 (StepsTo-advances here.0 t chars h k end last i j u after room here.2)

-- ---- where a step leads

-- the state from which a step leads is there
pub step-from : (states : List State) (t : ℕ) (chars : ℕ → Bool) (h : List ℕ) (end : ℕ) (p q : ℕ × ℕ) → IsStep states t chars h end p q
    → p.0 < length states
step-from states t chars h end p q x = let here = step_of states t chars h end p q x in slice_get_within states p.0 here.0 here.1

leads_within : (groups : GroupLists) (n : ℕ) (state : State) (t : ℕ) (chars : ℕ → Bool) (h : List ℕ) (end i : ℕ) (q : ℕ × ℕ)
    → IsStateWithin groups n state
    → StepsTo state t chars h end i q → q.0 < n
leads_within groups n (ByteRange a b next) t chars h end i q named x = subst (λ (y : ℕ). y < n) (sym x.2) named.1
leads_within groups n (Assert l next) t chars h end i q named x = subst (λ (y : ℕ). y < n) (sym x.1) named
leads_within groups n (Fork a b) t chars h end i q named (inl x, same) = subst (λ (y : ℕ). y < n) (sym x) named.0
leads_within groups n (Fork a b) t chars h end i q named (inr x, same) = subst (λ (y : ℕ). y < n) (sym x) named.1
leads_within groups n (Capture slot next) t chars h end i q named x = subst (λ (y : ℕ). y < n) (sym x.0) named.0
leads_within groups n (Accept p) t chars h end i q named x = absurd x

-- and in a list without a fault, so is the one to which it leads
pub step-to : (groups : GroupLists) (states : List State) (t : ℕ) (chars : ℕ → Bool) (h : List ℕ) (end : ℕ) (p q : ℕ × ℕ)
    → AreFaultless groups states
    → IsStep states t chars h end p q → q.0 < length states
step-to groups states t chars h end p q faultless x =
    let here = step_of states t chars h end p q x in
    leads_within groups (length states) here.0 t chars h end p.1 q (faultless-names groups states faultless p.0 here.0 here.1) here.2

StepsTo-position : (state : State) (t : ℕ) (chars : ℕ → Bool) (h : List ℕ) (end i : ℕ) (q : ℕ × ℕ) → StepsTo state t chars h end i q
    → (q.1 ≡ i) ⊎ ((q.1 ≡ i + 1) × (i < end))
StepsTo-position (ByteRange a b next) t chars h end i q x = inr (x.3, x.0)
StepsTo-position (Assert l next) t chars h end i q x = inl x.2
StepsTo-position (Fork a b) t chars h end i q x = inl x.1
StepsTo-position (Capture slot next) t chars h end i q x = inl x.1
StepsTo-position (Accept p) t chars h end i q x = absurd x

-- a step stays, or goes one byte on
pub step-position : (states : List State) (t : ℕ) (chars : ℕ → Bool) (h : List ℕ) (end : ℕ) (p q : ℕ × ℕ) → IsStep states t chars h end p q
    → (q.1 ≡ p.1) ⊎ ((q.1 ≡ p.1 + 1) × (p.1 < end))
step-position states t chars h end p q x = let here = step_of states t chars h end p q x in StepsTo-position here.0 t chars h end p.1 q here.2

no_fall : (states : List State) (t : ℕ) (chars : ℕ → Bool) (h : List ℕ) (end : ℕ) (p q : ℕ × ℕ) → IsStep states t chars h end p q
    → p.1 ≤ q.1
no_fall states t chars h end p q x =
    ⊎_elim (λ (e : q.1 ≡ p.1). omega (arith, e)) (λ (e : (q.1 ≡ p.1 + 1) × (p.1 < end)). omega (arith, e.0)) (step-position states t chars h end p q x)

step-within : (states : List State) (t : ℕ) (chars : ℕ → Bool) (h : List ℕ) (end : ℕ) (p q : ℕ × ℕ) → p.1 ≤ end
    → IsStep states t chars h end p q → q.1 ≤ end
step-within states t chars h end p q low x =
    ⊎_elim (λ (e : q.1 ≡ p.1). omega (arith, e, low)) (λ (e : (q.1 ≡ p.1 + 1) × (p.1 < end)). omega (arith, e.0, e.1))
    (step-position states t chars h end p q x)

-- positions along a run never fall
pub positions-rise : (states : List State) (t : ℕ) (chars : ℕ → Bool) (h : List ℕ) (start end : ℕ) (run : List (ℕ × ℕ))
    → IsRun states t chars h start end run
    → (j k : ℕ) → j ≤ k → k < length run → (place run j).1 ≤ (place run k).1
positions-rise states t chars h start end run r j zero l m =
    let e : j ≡ 0 = omega (arith, l) in subst (λ (x : ℕ). (place run x).1 ≤ (place run 0).1) (sym e) (omega arith)
positions-rise states t chars h start end run r j (suc k) l m =
    ⊎_elim
    (λ (n : j < suc k).
    let before : (place run j).1 ≤ (place run k).1 = positions-rise states t chars h start end run r j k (omega (arith, n)) (omega (arith, m)) in
    let one : (place run k).1 ≤ (place run (k + 1)).1 =
    no_fall states t chars h end (place run k) (place run (k + 1)) (r.steps k (omega (arith, m))) in
    let same : k + 1 ≡ suc k = omega arith in
    let on : (place run k).1 ≤ (place run (suc k)).1 = subst (λ (x : ℕ). (place run k).1 ≤ (place run x).1) same one in
    omega (arith, before, on))
    (λ (n : suc k ≤ j). let e : j ≡ suc k = omega (arith, n, l) in subst (λ (x : ℕ). (place run x).1 ≤ (place run (suc k)).1) (sym e) (omega arith))
    (cases_lt j (suc k))

-- ---- runs grow

-- a place is a run
pub run-one : (states : List State) (t : ℕ) (chars : ℕ → Bool) (h : List ℕ) (start end : ℕ) (p : ℕ × ℕ) → IsPlaceWithin states start end p
    → IsRun states t chars h start end (p ∷ [])
run-one states t chars h start end p within = record { places = λ k l. only k (omega (arith, l)); steps = λ k l. absurd (omega (arith, l)) }
  where
    only : (k : ℕ) → k ≡ 0 → IsPlaceWithin states start end (place (p ∷ []) k)
    only k z = rw z within

place-before : (run : List (ℕ × ℕ)) (p : ℕ × ℕ) (k : ℕ) → k < length run → place (run ++ p ∷ []) k ≡ place run k
place-before run p k l = get_or_append_left run (p ∷ []) (0, 0) k l

place-after : (run : List (ℕ × ℕ)) (p : ℕ × ℕ) (k : ℕ) → k ≡ length run → place (run ++ p ∷ []) k ≡ p
place-after run p k e =
    let none : k - length run ≡ 0 = omega (arith, e) in
    get_or-append_right run (p ∷ []) (length run) k (0, 0) refl (omega (arith, e)) ∙ ap (λ (i : ℕ). place (p ∷ []) i) none

-- and a run and a step from its last place are a run
pub run-more : (states : List State) (t : ℕ) (chars : ℕ → Bool) (h : List ℕ) (start end : ℕ) (run : List (ℕ × ℕ)) (p : ℕ × ℕ)
    → IsRun states t chars h start end run → 0 < length run → p.0 < length states → IsStep states t chars h end (place run (length run - 1)) p
    → IsRun states t chars h start end (run ++ p ∷ [])
run-more states t chars h start end run p r some known leads = record {
  places = λ k l. ⊎_elim
      (λ (n : k < length run). rw (place-before run p k n) (r.places k n))
      (λ (n : length run ≤ k). rw (place-after run p k (omega (arith, length-append run (p ∷ []), l, n))) there)
      (cases_lt k (length run));
  steps = λ k l. ⊎_elim
      (λ (n : k + 1 < length run). rw (place-before run p k (omega (arith, n)), place-before run p (k + 1) n) (r.steps k n))
      (λ (n : length run ≤ k + 1).
      let at : k ≡ length run - 1 = omega (arith, length-append run (p ∷ []), l, n) in
      let last : length run ≡ k + 1 = omega (arith, length-append run (p ∷ []), l, n, some) in
      rw (place-before run p k (omega (arith, last)), place-after run p (k + 1) (sym last), at) leads)
      (cases_lt (k + 1) (length run));
}
  where
    from : IsPlaceWithin states start end (place run (length run - 1))
    from = r.places (length run - 1) (omega (arith, some))

    low : (place run (length run - 1)).1 ≤ p.1
    low = no_fall states t chars h end (place run (length run - 1)) p leads

    there : IsPlaceWithin states start end p
    there = (known, omega (arith, low, from.1), step-within states t chars h end (place run (length run - 1)) p from.2 leads)

-- ---- a step goes by the classes of the bytes

step-forth : (classes : List ℕ) (states : List State) (t : ℕ) (chars : ℕ → Bool) (h k : List ℕ) (end : ℕ) (p q : ℕ × ℕ)
    → KeepsRuns classes states t chars
    → AreInterchangedBy classes (has_unicode_assertion states) h k → end ≤ length h → p.1 ≤ end → q.0 < length states
    → IsStep states t chars h end p q → IsStep states t chars k end p q
step-forth classes states t chars h k end p q keeps same within low known x =
    let one = run-one states t chars h 0 end p (step-from states t chars h end p q x, omega arith, low) in
    ((keeps.kept h k same 0 end within (p ∷ q ∷ [])).0 (run-more states t chars h 0 end (p ∷ []) q one (omega arith) known x)).steps 0 (omega arith)

-- replacing bytes within their classes makes or unmakes no step
pub step-kept : (classes : List ℕ) (states : List State) (t : ℕ) (chars : ℕ → Bool) (h k : List ℕ) (end : ℕ) (p q : ℕ × ℕ)
    → KeepsRuns classes states t chars
    → AreInterchangedBy classes (has_unicode_assertion states) h k → end ≤ length h → p.1 ≤ end → q.0 < length states
    → IsStep states t chars h end p q ↔ IsStep states t chars k end p q
step-kept classes states t chars h k end p q keeps same within low known = (
  step-forth classes states t chars h k end p q keeps same within low known,
  step-forth classes states t chars k h end p q keeps (AreInterchangedBy-sym classes (has_unicode_assertion states) h k same)
      (omega (arith, within, same.same_length)) low known,
)

-- ---- what a run records

-- where each record in one slot is followed by one in another, the positions are in order
pub records-ordered : (states : List State) (t : ℕ) (chars : ℕ → Bool) (h : List ℕ) (start end : ℕ) (run : List (ℕ × ℕ))
    → IsRun states t chars h start end run
    → (first second i j : ℕ) → RecordsAreFollowed states run first second → recorded states run first ≡ Some i → recorded states run second ≡ Some j
    → i ≤ j
records-ordered states t chars h start end run is_run first second i j closed e f =
    let r = (recorded-last states run first i).0 e in let s = (recorded-last states run second j).0 f in
    let m = closed.follows r.at r.records in
    let in_order : r.at ≤ s.at = ⊎_elim
    (λ (later : s.at < m.0). absurd (s.last m.0 later m.2))
    (λ (l : m.0 ≤ s.at). omega (arith, l, m.1))
    (cases_lt s.at m.0) in
    let there = s.records.0 in
    let rise = positions-rise states t chars h start end run is_run r.at s.at in_order (omega (arith, there)) in
    omega (arith, rise, r.position, s.position)
