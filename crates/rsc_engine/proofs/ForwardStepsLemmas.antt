-- Runs that avoid what was seen, with a place before them, and what is left of them.
use Rattle.std.proofs.Common.{◌≡◌, ◌≢◌, ℕ, zero, suc, ◌+◌, ◌-◌, ◌<◌, ◌≤◌, ◌⊎◌, inl, inr, ⊎_elim, Bool, true, false, true≢false, List, [], ◌∷◌, length, drop, refl, sym, ap, subst, ◌∙◌, arith, length-drop, slice_get, Option, Some, None, MatchOption}
use Rattle.std.proofs.lemmas.Bool.{cases_lt, cases_eq}
use Rattle.std.proofs.lemmas.List.{get_or-drop}
use Rattle.rsc_nfa.specs.declared.state.State.{State}
use Rattle.rsc_nfa.specs.declared.state.State.TheVariants.{ByteRange, Assert, Fork, Capture, Accept}
use Rattle.rsc_nfa.specs.Steps.{place, IsRun, StepsTo}
use Rattle.rsc_engine.specs.Searches.{Search}
use Rattle.rsc_engine.specs.Runs.{Leads, IsPlace, accepts, IsMatchRun}
use Rattle.rsc_engine.specs.Preferred.{HasNoPlaceTwice, IsPreferredTo}
use Rattle.rsc_engine.specs.DecidesLayout.{last_of, Avoids, IsUnseenMatch, IsHopeless, IsBest, IsMore, unseen}

-- ---- small facts

pub not_true : (b : Bool) → (b ≡ true → ⊥) → b ≡ false
not_true true h = absurd (h refl)
not_true false h = refl

pub same_place : (p q : ℕ × ℕ) → p.0 ≡ q.0 → p.1 ≡ q.1 → p ≡ q
same_place p q a b = ap (λ (n : ℕ). (n, p.1)) a ∙ ap (λ (n : ℕ). (q.0, n)) b

pub first_of_fork : (a b c d : ℕ) → Some (Fork a b) ≡ Some (Fork c d) → a ≡ c
first_of_fork a b c d h = cc

-- ---- the positions of a run never fall

leads-rises : (e : Search) (p q : ℕ × ℕ) → Leads e p q → p.1 ≤ q.1
leads-rises e p q l = go (slice_get e.states p.0) l
  where
    go : (o : Option State) → MatchOption o ⊥ (λ (state : State). StepsTo state e.terminator e.word_chars e.haystack e.end p.1 q) → p.1 ≤ q.1
    go None x = absurd x
    go (Some (ByteRange a b next)) x = omega (arith, x.3)
    go (Some (Assert l next)) x = omega (arith, x.2)
    go (Some (Fork a b)) x = omega (arith, x.1)
    go (Some (Capture slot next)) x = omega (arith, x.1)
    go (Some (Accept pattern)) x = absurd x

pub run-rises : (e : Search) (run : List (ℕ × ℕ)) (m : ℕ) → IsRun e.states e.terminator e.word_chars e.haystack e.start e.end run → m < length run
    → (place run 0).1 ≤ (place run m).1
run-rises e run zero r l = omega arith
run-rises e run (suc m) r l =
    let same : suc m ≡ m + 1 = omega arith in
    let step = r.steps m (omega (arith, l)) in
    rw same (omega (arith, run-rises e run m r (omega (arith, l)), leads-rises e (place run m) (place run (m + 1)) step))

-- ---- a run with a place before it

run-before : (e : Search) (p : ℕ × ℕ) (run : List (ℕ × ℕ)) → IsPlace e p → (0 < length run → Leads e p (place run 0))
    → IsRun e.states e.terminator e.word_chars e.haystack e.start e.end run → IsRun e.states e.terminator e.word_chars e.haystack e.start e.end (p ∷ run)
run-before e p run there leads r = record { places = places; steps = steps }
  where
    places : (k : ℕ) → k < length (p ∷ run) → IsPlace e (place (p ∷ run) k)
    places zero l = there
    places (suc k) l = r.places k (omega (arith, l))

    steps : (k : ℕ) → k + 1 < length (p ∷ run) → Leads e (place (p ∷ run) k) (place (p ∷ run) (k + 1))
    steps zero l = leads (omega (arith, l))
    steps (suc k) l = let one : suc k + 1 ≡ suc (k + 1) = omega arith in rw one (r.steps k (omega (arith, l)))

pub last-before : (p : ℕ × ℕ) (run : List (ℕ × ℕ)) → 0 < length run → last_of (p ∷ run) ≡ last_of run
last-before p run some = let same : length (p ∷ run) - 1 ≡ suc (length run - 1) = omega (arith, some) in ap (λ (k : ℕ). place (p ∷ run) k) same

pub match-before : (e : Search) (p q : ℕ × ℕ) (run : List (ℕ × ℕ)) → IsPlace e p → Leads e p q → IsMatchRun e q run
    → IsMatchRun e p (p ∷ run)
match-before e p q run there leads m = record {
  is_run = run-before e p run there (λ _. subst (λ (r : ℕ × ℕ). Leads e p r) (sym m.begins) leads) m.is_run;
  some = omega (arith, m.some);
  begins = refl;
  ends = subst (λ (r : ℕ × ℕ). accepts e r ≡ true) (sym (last-before p run m.some)) m.ends;
}

pub once-before : (p : ℕ × ℕ) (run : List (ℕ × ℕ)) → HasNoPlaceTwice run → ((k : ℕ) → k < length run → place run k ≢ p) → HasNoPlaceTwice (p ∷ run)
once-before p run once apart zero zero l h = absurd (omega (arith, l))
once-before p run once apart zero (suc k) l h = λ same. apart k (omega (arith, h)) (sym same)
once-before p run once apart (suc j) zero l h = absurd (omega (arith, l))
once-before p run once apart (suc j) (suc k) l h = once j k (omega (arith, l)) (omega (arith, h))

-- a place that accepts is a run
pub match-one : (e : Search) (p : ℕ × ℕ) → IsPlace e p → accepts e p ≡ true → IsMatchRun e p (p ∷ [])
match-one e p there accepted = record {
  is_run = record { places = places; steps = λ k l. absurd (omega (arith, l)) };
  some = omega arith;
  begins = refl;
  ends = accepted;
}
  where
    places : (k : ℕ) → k < length (p ∷ []) → IsPlace e (place (p ∷ []) k)
    places zero l = there
    places (suc k) l = absurd (omega (arith, l))

pub avoids-one : (i : ℕ) (seen : ℕ → Bool) (p : ℕ × ℕ) → seen p.0 ≡ false → Avoids i seen (p ∷ [])
avoids-one i seen p fresh zero l h = fresh
avoids-one i seen p fresh (suc k) l h = absurd (omega (arith, l))

-- ---- what is left of a run

pub match-drop : (e : Search) (from : ℕ × ℕ) (run : List (ℕ × ℕ)) (n : ℕ) → IsMatchRun e from run → n < length run
    → IsMatchRun e (place run n) (drop n run)
match-drop e from run n m l = record {
  is_run = record {
    places = λ k h. rw (get_or-drop n run k (0, 0)) (m.is_run.places (n + k) (omega (arith, h, length-drop n run)));
    steps = λ k h.
        let same : n + (k + 1) ≡ n + k + 1 = omega arith in
        rw (get_or-drop n run k (0, 0), get_or-drop n run (k + 1) (0, 0), same) (m.is_run.steps (n + k) (omega (arith, h, length-drop n run)));
  };
  some = omega (arith, l, length-drop n run);
  begins = let same : n + 0 ≡ n = omega arith in get_or-drop n run 0 (0, 0) ∙ ap (λ (i : ℕ). place run i) same;
  ends = let same : n + (length (drop n run) - 1) ≡ length run - 1 = omega (arith, l, length-drop n run) in
      rw (get_or-drop n run (length (drop n run) - 1) (0, 0), same) m.ends;
}

pub once-drop : (run : List (ℕ × ℕ)) (n : ℕ) → HasNoPlaceTwice run → HasNoPlaceTwice (drop n run)
once-drop run n once j k l h = rw (get_or-drop n run j (0, 0), get_or-drop n run k (0, 0))
    (once (n + j) (n + k) (omega (arith, l)) (omega (arith, h, length-drop n run)))

-- what is preferred to a run from a place stays so without that place, if both go one step together
pub preferred-tail : (e : Search) (p : ℕ × ℕ) (run other : List (ℕ × ℕ)) → (b : IsPreferredTo e other (p ∷ run)) → 0 < b.at
    → IsPreferredTo e (drop 1 other) run
preferred-tail e p run other b up = record {
  at = b.at - 1;
  a = b.a;
  b = b.b;
  within = omega (arith, b.within, length-drop 1 other, up);
  other_within = omega (arith, b.other_within, up);
  together = λ k l. let one : 1 + k ≡ suc k = omega arith in
      get_or-drop 1 other k (0, 0) ∙ b.together (1 + k) (omega (arith, l, up)) ∙ ap (λ (n : ℕ). place (p ∷ run) n) one;
  fork = let same : 1 + (b.at - 1) ≡ b.at = omega (arith, up) in rw (get_or-drop 1 other (b.at - 1) (0, 0), same) b.fork;
  first = let same : 1 + (b.at - 1 + 1) ≡ b.at + 1 = omega (arith, up) in rw (get_or-drop 1 other (b.at - 1 + 1) (0, 0), same) b.first;
  apart = let same : b.at + 1 ≡ suc (b.at - 1 + 1) = omega (arith, up) in
      subst (λ (n : ℕ). (place (p ∷ run) n).0 ≢ b.a) same b.apart;
}

-- ---- runs that avoid what was seen

pub Avoids-less : (i : ℕ) (seen after : ℕ → Bool) (s : ℕ) (run : List (ℕ × ℕ)) → IsMore seen s after → Avoids i after run → Avoids i seen run
Avoids-less i seen after s run g a k l h = not_true (seen (place run k).0) (λ is. true≢false (sym (g.kept (place run k).0 is) ∙ a k l h))

pub Avoids-drop : (i : ℕ) (seen : ℕ → Bool) (run : List (ℕ × ℕ)) (n : ℕ) → Avoids i seen run → Avoids i seen (drop n run)
Avoids-drop i seen run n a k l h =
    let same : place (drop n run) k ≡ place run (n + k) = get_or-drop n run k (0, 0) in
    ap (λ (q : ℕ × ℕ). seen q.0) same ∙ a (n + k) (omega (arith, l, length-drop n run)) (sym (ap (λ (q : ℕ × ℕ). q.1) same) ∙ h)

pub unseen-drop : (e : Search) (i : ℕ) (seen : ℕ → Bool) (s t : ℕ) (run : List (ℕ × ℕ)) (n : ℕ) → IsUnseenMatch e i seen s run
    → n < length run
    → place run n ≡ (t, i) → IsUnseenMatch e i seen t (drop n run)
unseen-drop e i seen s t run n m l here = record {
  is_match = subst (λ (q : ℕ × ℕ). IsMatchRun e q (drop n run)) here (match-drop e (s, i) run n m.is_match l);
  avoids = Avoids-drop i seen run n m.avoids;
}

pub Avoids-more : (e : Search) (i : ℕ) (seen after : ℕ → Bool) (s t : ℕ) (run : List (ℕ × ℕ)) → IsMore seen s after → IsHopeless e i seen s
    → IsUnseenMatch e i seen t run → Avoids i after run
Avoids-more e i seen after s t run g none m k l h = not_true (after (place run k).0) (λ is. ⊎_elim
    (λ (same : (place run k).0 ≡ s). none (drop k run) (unseen-drop e i seen t s run k m l (same_place (place run k) (s, i) same h)))
    (λ (was : seen (place run k).0 ≡ true). true≢false (sym was ∙ m.avoids k l h))
    (g.only (place run k).0 is))

pub open-more : (e : Search) (i : ℕ) (seen after : ℕ → Bool) (s t : ℕ) (run : List (ℕ × ℕ)) → IsMore seen s after → IsHopeless e i seen s
    → IsUnseenMatch e i seen t run → IsUnseenMatch e i after t run
open-more e i seen after s t run g none m = record { is_match = m.is_match; avoids = Avoids-more e i seen after s t run g none m }

pub open-less : (e : Search) (i : ℕ) (seen after : ℕ → Bool) (s t : ℕ) (run : List (ℕ × ℕ)) → IsMore seen s after
    → IsUnseenMatch e i after t run → IsUnseenMatch e i seen t run
open-less e i seen after s t run g m = record { is_match = m.is_match; avoids = Avoids-less i seen after s run g m.avoids }

-- a state from which no match is reached may count as seen
pub best-less : (e : Search) (i : ℕ) (seen after : ℕ → Bool) (s t : ℕ) (run : List (ℕ × ℕ)) → IsMore seen s after → IsHopeless e i seen s
    → IsBest e i after t run → IsBest e i seen t run
best-less e i seen after s t run g none b = record {
  is_unseen = open-less e i seen after s t run g b.is_unseen;
  once = b.once;
  first = λ other m once. b.first other (open-more e i seen after s t other g none m) once;
}

-- ---- a step

-- the best run from where a step leads, with the place before it, is the best from there, if what a fork prefers is barred
pub best-step : (e : Search) (i : ℕ) (seen : ℕ → Bool) (s j : ℕ) (after : ℕ → Bool) (t : ℕ) (run : List (ℕ × ℕ))
    → IsUnseenMatch e i seen s ((s, i) ∷ run) → HasNoPlaceTwice ((s, i) ∷ run)
    → ((other : List (ℕ × ℕ)) → IsUnseenMatch e i seen s other → HasNoPlaceTwice other → 1 < length other → place other 1 ≡ (t, j)
    → IsUnseenMatch e j after t (drop 1 other))
    → ((other : List (ℕ × ℕ)) (a b : ℕ) → IsUnseenMatch e i seen s other → HasNoPlaceTwice other → 1 < length other
    → slice_get e.states s ≡ Some (Fork a b)
    → (place other 1).0 ≡ a → ¬ (t ≡ a) → ⊥)
    → IsBest e j after t run → IsBest e i seen s ((s, i) ∷ run)
best-step e i seen s j after t run front once tail barred best = record {
  is_unseen = front;
  once = once;
  first = first;
}
  where
    here : place run 0 ≡ (t, j)
    here = best.is_unseen.is_match.begins

    first : (other : List (ℕ × ℕ)) → IsUnseenMatch e i seen s other → HasNoPlaceTwice other → ¬ (IsPreferredTo e other ((s, i) ∷ run))
    first other m one b = ⊎_elim
        (λ (up : 0 < b.at).
        let second : place other 1 ≡ (t, j) = b.together 1 (omega (arith, up)) ∙ here in
        best.first (drop 1 other) (tail other m one (omega (arith, b.within, up)) second) (once-drop other 1 one) (preferred-tail e (s, i) run other b up))
        (λ (low : b.at ≤ 0).
        let none : b.at ≡ 0 = omega (arith, low) in
        let next : b.at + 1 ≡ 1 = omega (arith, none) in
        let begins : place other b.at ≡ (s, i) = ap (λ (n : ℕ). place other n) none ∙ m.is_match.begins in
        barred other b.a b.b m one (omega (arith, b.within, none)) (sym (ap (λ (q : ℕ × ℕ). slice_get e.states q.0) begins) ∙ b.fork)
        (ap (λ (n : ℕ). (place other n).0) (sym next) ∙ b.first)
        (λ same. b.apart (ap (λ (n : ℕ). (place ((s, i) ∷ run) n).0) next ∙ ap (λ (q : ℕ × ℕ). q.0) here ∙ same)))
        (cases_lt 0 b.at)

-- ---- a step with no byte

pub open-before : (e : Search) (i : ℕ) (seen after : ℕ → Bool) (s t : ℕ) (run : List (ℕ × ℕ)) → IsMore seen s after → seen s ≡ false
    → IsPlace e (s, i)
    → Leads e (s, i) (t, i) → IsUnseenMatch e i after t run → IsUnseenMatch e i seen s ((s, i) ∷ run)
open-before e i seen after s t run g fresh there leads m = record {
  is_match = match-before e (s, i) (t, i) run there leads m.is_match;
  avoids = avoids;
}
  where
    avoids : (k : ℕ) → k < length ((s, i) ∷ run) → (place ((s, i) ∷ run) k).1 ≡ i → seen (place ((s, i) ∷ run) k).0 ≡ false
    avoids zero l h = fresh
    avoids (suc k) l h = Avoids-less i seen after s run g m.avoids k (omega (arith, l)) h

apart-after : (e : Search) (i : ℕ) (seen after : ℕ → Bool) (s t : ℕ) (run : List (ℕ × ℕ)) → IsMore seen s after → IsUnseenMatch e i after t run
    → (k : ℕ) → k < length run → place run k ≢ (s, i)
apart-after e i seen after s t run g m k l same =
    true≢false (sym g.new ∙ sym (ap (λ (q : ℕ × ℕ). after q.0) same) ∙ m.avoids k l (ap (λ (q : ℕ × ℕ). q.1) same))

pub unseen-tail : (e : Search) (i : ℕ) (seen after : ℕ → Bool) (s t : ℕ) (other : List (ℕ × ℕ)) → IsMore seen s after
    → IsUnseenMatch e i seen s other
    → HasNoPlaceTwice other → 1 < length other → place other 1 ≡ (t, i) → IsUnseenMatch e i after t (drop 1 other)
unseen-tail e i seen after s t other g m once more second = record {
  is_match = subst (λ (q : ℕ × ℕ). IsMatchRun e q (drop 1 other)) second (match-drop e (s, i) other 1 m.is_match more);
  avoids = avoids;
}
  where
    avoids : (k : ℕ) → k < length (drop 1 other) → (place (drop 1 other) k).1 ≡ i → after (place (drop 1 other) k).0 ≡ false
    avoids k l h =
        let same : place (drop 1 other) k ≡ place other (1 + k) = get_or-drop 1 other k (0, 0) in
        let within : 1 + k < length other = omega (arith, l, length-drop 1 other) in
        let at : (place other (1 + k)).1 ≡ i = sym (ap (λ (q : ℕ × ℕ). q.1) same) ∙ h in
        ap (λ (q : ℕ × ℕ). after q.0) same ∙ not_true (after (place other (1 + k)).0) (λ is. ⊎_elim
        (λ (it : (place other (1 + k)).0 ≡ s).
        once 0 (1 + k) (omega arith) within (m.is_match.begins ∙ sym (same_place (place other (1 + k)) (s, i) it at)))
        (λ (was : seen (place other (1 + k)).0 ≡ true). true≢false (sym was ∙ m.avoids (1 + k) within at))
        (g.only (place other (1 + k)).0 is))

pub best-before : (e : Search) (i : ℕ) (seen after : ℕ → Bool) (s t : ℕ) (run : List (ℕ × ℕ)) → IsMore seen s after → seen s ≡ false
    → IsPlace e (s, i)
    → Leads e (s, i) (t, i) → ((q : ℕ × ℕ) → Leads e (s, i) q → q.1 ≡ i)
    → ((a b : ℕ) → slice_get e.states s ≡ Some (Fork a b) → ¬ (t ≡ a) → IsHopeless e i after a)
    → IsBest e i after t run → IsBest e i seen s ((s, i) ∷ run)
best-before e i seen after s t run g fresh there leads stays barred best =
    best-step e i seen s i after t run (open-before e i seen after s t run g fresh there leads best.is_unseen)
    (once-before (s, i) run best.once (apart-after e i seen after s t run g best.is_unseen))
    (λ other m once more second. unseen-tail e i seen after s t other g m once more second)
    (λ other a b m once more fork first apart.
    let step : Leads e (s, i) (place other 1) = subst (λ (q : ℕ × ℕ). Leads e q (place other 1)) m.is_match.begins (m.is_match.is_run.steps 0 more) in
    barred a b fork apart (drop 1 other)
    (unseen-tail e i seen after s a other g m once more (same_place (place other 1) (a, i) first (stays (place other 1) step))))
    best

-- whether a run avoids what was seen
avoids_or_not : (i : ℕ) (seen : ℕ → Bool) (run : List (ℕ × ℕ))
    → Avoids i seen run ⊎ ((k : ℕ) × (k < length run) × ((place run k).1 ≡ i) × (seen (place run k).0 ≡ true))
avoids_or_not i seen [] = inl (λ k l. absurd (omega (arith, l)))
avoids_or_not i seen (p ∷ run) = go (cases_eq p.1 i) (seen p.0) refl (avoids_or_not i seen run)
  where
    go : (p.1 ≡ i) ⊎ (p.1 ≡ i → ⊥) → (b : Bool) → seen p.0 ≡ b
        → Avoids i seen run ⊎ ((k : ℕ) × (k < length run) × ((place run k).1 ≡ i) × (seen (place run k).0 ≡ true))
        → Avoids i seen (p ∷ run) ⊎ ((k : ℕ) × (k < length (p ∷ run)) × ((place (p ∷ run) k).1 ≡ i) × (seen (place (p ∷ run) k).0 ≡ true))
    go (inl at) true is rest = inr (0, omega arith, at, is)
    go at b is (inr (k, l, here, was)) = inr (suc k, omega (arith, l), here, was)
    go (inl at) false is (inl rest) = inl first
      where
        first : (k : ℕ) → k < length (p ∷ run) → (place (p ∷ run) k).1 ≡ i → seen (place (p ∷ run) k).0 ≡ false
        first zero l h = is
        first (suc k) l h = rest k (omega (arith, l)) h
    go (inr apart) b is (inl rest) = inl first
      where
        first : (k : ℕ) → k < length (p ∷ run) → (place (p ∷ run) k).1 ≡ i → seen (place (p ∷ run) k).0 ≡ false
        first zero l h = absurd (apart h)
        first (suc k) l h = rest k (omega (arith, l)) h

-- a state that is no match is hopeless, if those are to which it leads, once it was seen
pub hopeless-before : (e : Search) (i : ℕ) (seen after : ℕ → Bool) (s : ℕ) → IsMore seen s after → accepts e (s, i) ≡ false
    → ((q : ℕ × ℕ) → Leads e (s, i) q → (q.1 ≡ i) × IsHopeless e i after q.0) → IsHopeless e i seen s
hopeless-before e i seen after s g rejected steps run m = go (length run) run (omega arith) m
  where
    go : (n : ℕ) (run : List (ℕ × ℕ)) → length run ≤ n → IsUnseenMatch e i seen s run → ⊥
    go zero run le m = omega (arith, le, m.is_match.some)
    go (suc n) run le m = ⊎_elim
        (λ (more : 1 < length run).
        let step : Leads e (s, i) (place run 1) = subst (λ (q : ℕ × ℕ). Leads e q (place run 1)) m.is_match.begins (m.is_match.is_run.steps 0 more) in
        let second : place run 1 ≡ ((place run 1).0, i) = same_place (place run 1) ((place run 1).0, i) refl (steps (place run 1) step).0 in
        let rest : IsUnseenMatch e i seen (place run 1).0 (drop 1 run) = unseen-drop e i seen s (place run 1).0 run 1 m more second in
        ⊎_elim
        (λ (a : Avoids i after (drop 1 run)). (steps (place run 1) step).1 (drop 1 run) (record { is_match = rest.is_match; avoids = a }))
        (λ (w : (k : ℕ) × (k < length (drop 1 run)) × ((place (drop 1 run) k).1 ≡ i) × (after (place (drop 1 run) k).0 ≡ true)).
        ⊎_elim
        (λ (it : (place (drop 1 run) w.0).0 ≡ s).
        go n (drop w.0 (drop 1 run)) (omega (arith, le, w.1, length-drop 1 run, length-drop w.0 (drop 1 run)))
        (unseen-drop e i seen (place run 1).0 s (drop 1 run) w.0 rest w.1 (same_place (place (drop 1 run) w.0) (s, i) it w.2)))
        (λ (was : seen (place (drop 1 run) w.0).0 ≡ true). true≢false (sym was ∙ rest.avoids w.0 w.1 w.2))
        (g.only (place (drop 1 run) w.0).0 w.3))
        (avoids_or_not i after (drop 1 run)))
        (λ (one : length run ≤ 1).
        let last : length run - 1 ≡ 0 = omega (arith, one) in
        true≢false (sym (rw (last, m.is_match.begins) at m.is_match.ends) ∙ rejected))
        (cases_lt 1 (length run))

-- ---- a step over a byte

pub best-over : (e : Search) (i : ℕ) (seen : ℕ → Bool) (s t : ℕ) (run : List (ℕ × ℕ)) → seen s ≡ false → IsPlace e (s, i)
    → Leads e (s, i) (t, i + 1)
    → ((a b : ℕ) → slice_get e.states s ≡ Some (Fork a b) → ⊥) → IsBest e (i + 1) unseen t run → IsBest e i seen s ((s, i) ∷ run)
best-over e i seen s t run fresh there leads no_fork best =
    best-step e i seen s (i + 1) unseen t run
    (record { is_match = match-before e (s, i) (t, i + 1) run there leads best.is_unseen.is_match; avoids = avoids })
    (once-before (s, i) run best.once (λ k l same. absurd (omega (arith, later k l, ap (λ (q : ℕ × ℕ). q.1) same))))
    (λ other m once more second. record {
      is_match = subst (λ (q : ℕ × ℕ). IsMatchRun e q (drop 1 other)) second (match-drop e (s, i) other 1 m.is_match more);
      avoids = λ k l h. refl;
    })
    (λ other a b m once more fork first apart. no_fork a b fork)
    best
  where
    later : (k : ℕ) → k < length run → i + 1 ≤ (place run k).1
    later k l = omega (
      arith,
      ap (λ (q : ℕ × ℕ). q.1) best.is_unseen.is_match.begins,
      run-rises e run k best.is_unseen.is_match.is_run l,
    )

    avoids : (k : ℕ) → k < length ((s, i) ∷ run) → (place ((s, i) ∷ run) k).1 ≡ i → seen (place ((s, i) ∷ run) k).0 ≡ false
    avoids zero l h = fresh
    avoids (suc k) l h = absurd (omega (arith, later k (omega (arith, l)), h))

pub hopeless-over : (e : Search) (i : ℕ) (seen : ℕ → Bool) (s : ℕ) → accepts e (s, i) ≡ false
    → ((q : ℕ × ℕ) → Leads e (s, i) q → (q.1 ≡ i + 1) × IsHopeless e (i + 1) unseen q.0) → IsHopeless e i seen s
hopeless-over e i seen s rejected steps run m = ⊎_elim
    (λ (more : 1 < length run).
    let step : Leads e (s, i) (place run 1) = subst (λ (q : ℕ × ℕ). Leads e q (place run 1)) m.is_match.begins (m.is_match.is_run.steps 0 more) in
    let second : place run 1 ≡ ((place run 1).0, i + 1) = same_place (place run 1) ((place run 1).0, i + 1) refl (steps (place run 1) step).0 in
    (steps (place run 1) step).1 (drop 1 run) (record {
      is_match = subst (λ (q : ℕ × ℕ). IsMatchRun e q (drop 1 run)) second (match-drop e (s, i) run 1 m.is_match more);
      avoids = λ k l h. refl;
    }))
    (λ (one : length run ≤ 1).
    let last : length run - 1 ≡ 0 = omega (arith, one) in
    true≢false (sym (rw (last, m.is_match.begins) at m.is_match.ends) ∙ rejected))
    (cases_lt 1 (length run))
