-- Where steps lead. Steps that come to no place twice; if steps come to a place twice, there are steps of any number.
use Rattle.std.proofs.Common.{◌≡◌, ℕ, zero, suc, ◌+◌, ◌-◌, ◌<◌, ◌≤◌, ◌⊎◌, inl, inr, ⊎_elim, List, [], ◌∷◌, length, slice_get, refl, sym, ap, ◌∙◌, subst, arith, Option, Some, None, MatchOption}
use Rattle.std.proofs.lemmas.Bool.{cases_eq}
use Rattle.rsc_nfa.specs.declared.state.State.{State}
use Rattle.rsc_nfa.specs.declared.state.State.TheVariants.{ByteRange, Assert, Fork, Capture, Accept}
use Rattle.rsc_nfa.specs.Steps.{StepsTo, IsStep, IsRun, place}
use Rattle.rsc_engine.specs.Searches.{Search}
use Rattle.rsc_engine.specs.Patterns.{Subject, subject_of}
use Rattle.rsc_engine.specs.StepsLayout.{AreSteps, last_place}
use Rattle.rsc_engine.proofs.PreferredLemmas.{same_place}
use Rattle.rsc_engine.proofs.RunsLemmas.{run-before, step-within}
use Rattle.rsc_engine.proofs.RunsLemmas.{leads-rises}

-- ---- where steps lead

step_end : (state : State) (x : Subject) (end i : ℕ) (q : ℕ × ℕ) → StepsTo state x.terminator x.word_chars x.haystack end i q → i ≤ end
    → q.1 ≤ end
step_end (ByteRange a b next) x end i q s l = omega (arith, s.0, s.3)
step_end (Assert look next) x end i q s l = omega (arith, l, s.2)
step_end (Fork a b) x end i q s l = omega (arith, l, s.1)
step_end (Capture slot next) x end i q s l = omega (arith, l, s.1)
step_end (Accept p) x end i q s l = absurd s

-- a step from a position up to the end leads to another
pub leads_end : (states : List State) (x : Subject) (end : ℕ) (p q : ℕ × ℕ) → IsStep states x.terminator x.word_chars x.haystack end p q
    → p.1 ≤ end
    → q.1 ≤ end
leads_end states x end p q step l = go (slice_get states p.0) step
  where
    go : (o : Option State) → MatchOption o ⊥ (λ (state : State). StepsTo state x.terminator x.word_chars x.haystack end p.1 q) → q.1 ≤ end
    go None s = absurd s
    go (Some state) s = step_end state x end p.1 q s l

-- where a step leads from a state that is known
pub step_of : (states : List State) (x : Subject) (end s : ℕ) (p q : ℕ × ℕ) (state : State) → p.0 ≡ s → slice_get states s ≡ Some state
    → IsStep states x.terminator x.word_chars x.haystack end p q → StepsTo state x.terminator x.word_chars x.haystack end p.1 q
step_of states x end s p q state same is step =
    subst (λ (o : Option State). MatchOption o ⊥ (λ (y : State). StepsTo y x.terminator x.word_chars x.haystack end p.1 q))
    (ap (λ (t : ℕ). slice_get states t) same ∙ is) step

-- ---- the steps of a run

rest_is_run : (e : Search) (p q : ℕ × ℕ) (rest : List (ℕ × ℕ))
    → IsRun e.states e.terminator e.word_chars e.haystack e.start e.end (p ∷ (q ∷ rest))
    → IsRun e.states e.terminator e.word_chars e.haystack e.start e.end (q ∷ rest)
rest_is_run e p q rest r = record {
  places = λ k l. r.places (suc k) (omega (arith, l));
  steps = λ k l.
      let one : suc k + 1 ≡ suc (k + 1) = omega arith in
      rw one at (r.steps (suc k) (omega (arith, l)));
}

pub steps_of : (e : Search) (p : ℕ × ℕ) (rest : List (ℕ × ℕ)) → IsRun e.states e.terminator e.word_chars e.haystack e.start e.end (p ∷ rest)
    → AreSteps e.states (subject_of e) e.end p rest
steps_of e p [] r = tt
steps_of e p (q ∷ rest) r = (r.steps 0 (omega arith), steps_of e q rest (rest_is_run e p q rest r))

pub last_is : (p : ℕ × ℕ) (rest : List (ℕ × ℕ)) → place (p ∷ rest) (length (p ∷ rest) - 1) ≡ last_place p rest
last_is p [] = refl
last_is p (q ∷ rest) =
    let one : length (p ∷ (q ∷ rest)) - 1 ≡ suc (length (q ∷ rest) - 1) = omega arith in
    ap (λ (n : ℕ). place (p ∷ (q ∷ rest)) n) one ∙ last_is q rest

-- ---- steps that come to no place twice

-- the place is one of these
abbrev pub IsAmong : ℕ × ℕ → List (ℕ × ℕ) → Type 0
IsAmong p [] = ⊥
IsAmong p (q ∷ rest) = (p ≡ q) ⊎ IsAmong p rest

-- none of these places is there twice
abbrev pub AreDistinct : List (ℕ × ℕ) → Type 0
AreDistinct [] = Unit {0}
AreDistinct (p ∷ rest) = (IsAmong p rest → ⊥) × AreDistinct rest

same_or_not : (p q : ℕ × ℕ) → (p ≡ q) ⊎ (p ≡ q → ⊥)
same_or_not p q = ⊎_elim
    (λ (a : p.0 ≡ q.0). ⊎_elim
    (λ (b : p.1 ≡ q.1). inl (same_place p q a b))
    (λ (no : (p.1 ≡ q.1) → ⊥). inr (λ e. no (ap (λ (z : ℕ × ℕ). z.1) e)))
    (cases_eq p.1 q.1))
    (λ (no : (p.0 ≡ q.0) → ⊥). inr (λ e. no (ap (λ (z : ℕ × ℕ). z.0) e)))
    (cases_eq p.0 q.0)

among_or_not : (p : ℕ × ℕ) (rest : List (ℕ × ℕ)) → IsAmong p rest ⊎ (IsAmong p rest → ⊥)
among_or_not p [] = inr (λ h. h)
among_or_not p (q ∷ rest) = ⊎_elim
    (λ (e : p ≡ q). inl (inl e))
    (λ (no : p ≡ q → ⊥). ⊎_elim
    (λ (h : IsAmong p rest). inl (inr h))
    (λ (none : IsAmong p rest → ⊥). inr (λ h. ⊎_elim (λ (e : p ≡ q). no e) (λ (y : IsAmong p rest). none y) h))
    (among_or_not p rest))
    (same_or_not p q)

among : (k : ℕ) (rest : List (ℕ × ℕ)) → k < length rest → IsAmong (place rest k) rest
among k [] l = absurd (omega (arith, l))
among zero (q ∷ rest) l = inl refl
among (suc k) (q ∷ rest) l = inr (among k rest (omega (arith, l)))

pub once_of : (run : List (ℕ × ℕ)) → AreDistinct run → (j k : ℕ) → j < k → k < length run → place run j ≡ place run k → ⊥
once_of [] d j k l h e = absurd (omega (arith, h))
once_of (p ∷ rest) d j zero l h e = absurd (omega (arith, l))
once_of (p ∷ rest) d zero (suc k) l h e = d.0 (subst (λ (z : ℕ × ℕ). IsAmong z rest) (sym e) (among k rest (omega (arith, h))))
once_of (p ∷ rest) d (suc j) (suc k) l h e = once_of rest d.1 j k (omega (arith, l)) (omega (arith, h)) e

-- steps from a place to another, which come to no place twice
pub record Short (states : List State) (x : Subject) (end : ℕ) (p last : ℕ × ℕ) : Type 0 where
  pub rest : List (ℕ × ℕ)
  pub steps : AreSteps states x end p rest
  pub ends : last_place p rest ≡ last
  pub once : AreDistinct (p ∷ rest)

-- of such steps those from a place on
cut : (states : List State) (x : Subject) (end : ℕ) (p q last : ℕ × ℕ) (rest : List (ℕ × ℕ)) → AreSteps states x end q rest
    → last_place q rest ≡ last
    → AreDistinct (q ∷ rest) → IsAmong p (q ∷ rest) → Short states x end p last
cut states x end p q last rest steps ends once (inl e) =
    subst (λ (z : ℕ × ℕ). Short states x end z last) (sym e) (record { rest = rest; steps = steps; ends = ends; once = once })
cut states x end p q last [] steps ends once (inr h) = absurd h
cut states x end p q last (r ∷ rest) steps ends once (inr h) = cut states x end p r last rest steps.1 ends once.1 h

pub shorten : (states : List State) (x : Subject) (end : ℕ) (p : ℕ × ℕ) (rest : List (ℕ × ℕ)) → AreSteps states x end p rest
    → Short states x end p (last_place p rest)
shorten states x end p [] steps = record { rest = []; steps = tt; ends = refl; once = (λ h. h, tt) }
shorten states x end p (q ∷ rest) steps =
    let s = shorten states x end q rest steps.1 in
    ⊎_elim
    (λ (h : IsAmong p (q ∷ s.rest)). cut states x end p q (last_place q rest) s.rest s.steps s.ends s.once h)
    (λ (no : IsAmong p (q ∷ s.rest) → ⊥).
    record { rest = q ∷ s.rest; steps = (steps.0, s.steps); ends = s.ends; once = (no, s.once) })
    (among_or_not p (q ∷ s.rest))

pub is_run_of : (e : Search) (p : ℕ × ℕ) (rest : List (ℕ × ℕ)) → (last_place p rest).0 < length e.states → e.start ≤ p.1 → p.1 ≤ e.end
    → AreSteps e.states (subject_of e) e.end p rest → IsRun e.states e.terminator e.word_chars e.haystack e.start e.end (p ∷ rest)
is_run_of e p [] there low high steps = run-before e p [] (there, low, high) (λ l. absurd (omega (arith, l)))
    (record { places = λ k l. absurd (omega (arith, l)); steps = λ k l. absurd (omega (arith, l)) })
is_run_of e p (q ∷ rest) there low high steps = run-before e p (q ∷ rest) (step-within e p q steps.0, low, high) (λ l. steps.0)
    (is_run_of e q rest there (omega (arith, low, leads-rises e p q steps.0)) (leads_end e.states (subject_of e) e.end p q steps.0 high) steps.1)
