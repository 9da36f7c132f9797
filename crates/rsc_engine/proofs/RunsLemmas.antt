-- Positions of a run; runs with a place before them, or in a part of a span; what a run records is between its first position and its last.
use Rattle.std.proofs.Common.{◌≡◌, ℕ, suc, ◌+◌, ◌-◌, ◌<◌, ◌≤◌, zero, Bool, true, false, cond, List, [], ◌∷◌, length, get_or, refl, sym, ◌∙◌, arith, slice_get, Option, Some, None, MatchOption, ⊎_elim}
use Rattle.std.proofs.lemmas.Bool.{cases_lt}
use Rattle.std.proofs.lemmas.List.{get_or_past}
use Rattle.std.proofs.lemmas.Option.{slice_get_within}
use Rattle.rsc_nfa.specs.declared.state.State.{State}
use Rattle.rsc_nfa.specs.declared.state.State.TheVariants.{ByteRange, Assert, Fork, Capture, Accept}
use Rattle.rsc_nfa.specs.Steps.{place, IsRun, IsStep, StepsTo, is_capture_of, or_earlier, recorded}
use Rattle.rsc_captures.specs.Captured.{Captured}
use Rattle.rsc_search.specs.Matches.{Matched}
use Rattle.rsc_engine.specs.Searches.{Search}
use Rattle.rsc_engine.specs.Runs.{Leads, IsPlace, IsMatchRun}
use Rattle.rsc_engine.specs.Preferred.{IsMatchWithRecords}

-- ---- the positions of a run

pub leads-rises : (e : Search) (p q : ℕ × ℕ) → Leads e p q → p.1 ≤ q.1
leads-rises e p q l = go (slice_get e.states p.0) l
  where
    go : (o : Option State) → MatchOption o ⊥ (λ (state : State). StepsTo state e.terminator e.word_chars e.haystack e.end p.1 q) → p.1 ≤ q.1
    go None x = absurd x
    go (Some (ByteRange a b next)) x = omega (arith, x.3)
    go (Some (Assert l next)) x = omega (arith, x.2)
    go (Some (Fork a b)) x = omega (arith, x.1)
    go (Some (Capture slot next)) x = omega (arith, x.1)
    go (Some (Accept pattern)) x = absurd x

-- the positions of a run never fall
run_rises : (e : Search) (run : List (ℕ × ℕ)) (j m : ℕ) → IsRun e.states e.terminator e.word_chars e.haystack e.start e.end run → j + m < length run
    → (place run j).1 ≤ (place run (j + m)).1
run_rises e run j zero r l = let same : j + zero ≡ j = omega arith in rw same (omega arith)
run_rises e run j (suc m) r l =
    let same : j + suc m ≡ j + m + 1 = omega arith in
    let step = r.steps (j + m) (omega (arith, l)) in
    rw same (omega (arith, run_rises e run j m r (omega (arith, l)), leads-rises e (place run (j + m)) (place run (j + m + 1)) step))

pub run-rises : (e : Search) (run : List (ℕ × ℕ)) (j k : ℕ) → IsRun e.states e.terminator e.word_chars e.haystack e.start e.end run → j ≤ k
    → k < length run
    → (place run j).1 ≤ (place run k).1
run-rises e run j k r le l =
    let same : j + (k - j) ≡ k = omega (arith, le) in
    rw same at (run_rises e run j (k - j) r (omega (arith, le, l)))

-- ---- what a run records

some_same : (i j : ℕ) → Some i ≡ Some j → i ≡ j
some_same i j h = cc

-- what is recorded is the position of a place of the run
recorded-place : (states : List State) (run : List (ℕ × ℕ)) (slot i : ℕ) → recorded states run slot ≡ Some i
    → (k : ℕ) × (k < length run) × ((place run k).1 ≡ i)
recorded-place states [] slot i h = absurd (cc)
recorded-place states (p ∷ []) slot i h = absurd (cc)
recorded-place states (p ∷ (q ∷ rest)) slot i h =
    go (recorded states (q ∷ rest) slot) (is_capture_of slot (slice_get states p.0)) (recorded-place states (q ∷ rest) slot i) h
  where
    go : (later : Option ℕ) (here : Bool) → (later ≡ Some i → (k : ℕ) × (k < length (q ∷ rest)) × ((place (q ∷ rest) k).1 ≡ i))
        → or_earlier later (cond here (Some p.1) None) ≡ Some i → (k : ℕ) × (k < length (p ∷ (q ∷ rest)))
        × ((place (p ∷ (q ∷ rest)) k).1 ≡ i)
    go (Some j) here found is = let f = found is in (suc f.0, omega (arith, f.1), f.2)
    go None true found is = (0, omega arith, some_same p.1 i is)
    go None false found is = absurd (cc)

-- a state from which a step leads is there
pub step-within : (e : Search) (p q : ℕ × ℕ) → Leads e p q → p.0 < length e.states
step-within e p q l = go (slice_get e.states p.0) refl l
  where
    go : (o : Option State) → slice_get e.states p.0 ≡ o
        → MatchOption o ⊥ (λ (state : State). StepsTo state e.terminator e.word_chars e.haystack e.end p.1 q)
        → p.0 < length e.states
    go None is x = absurd x
    go (Some state) is x = slice_get_within e.states p.0 state is

-- a place from which a step leads to a run, before it
pub run-before : (e : Search) (p : ℕ × ℕ) (run : List (ℕ × ℕ)) → IsPlace e p → (0 < length run → Leads e p (place run 0))
    → IsRun e.states e.terminator e.word_chars e.haystack e.start e.end run → IsRun e.states e.terminator e.word_chars e.haystack e.start e.end (p ∷ run)
run-before e p run there leads r = record { places = places; steps = steps }
  where
    places : (k : ℕ) → k < length (p ∷ run) → IsPlace e (place (p ∷ run) k)
    places zero l = there
    places (suc k) l = r.places k (omega (arith, l))

    steps : (k : ℕ) → k + 1 < length (p ∷ run) → Leads e (place (p ∷ run) k) (place (p ∷ run) (k + 1))
    steps zero l = leads (omega (arith, l))
    steps (suc k) l = let one : suc k + 1 ≡ suc (k + 1) = omega arith in rw one (r.steps k (omega (arith, l)))

-- a step up to an earlier end is one
pub step-wider : (e : Search) (n : ℕ) (p q : ℕ × ℕ) → n ≤ e.end → IsStep e.states e.terminator e.word_chars e.haystack n p q → Leads e p q
step-wider e n p q le s = go (slice_get e.states p.0) s
  where
    go : (o : Option State) → MatchOption o ⊥ (λ (state : State). StepsTo state e.terminator e.word_chars e.haystack n p.1 q)
        → MatchOption o ⊥ (λ (state : State). StepsTo state e.terminator e.word_chars e.haystack e.end p.1 q)
    go None x = x
    go (Some (ByteRange a b next)) x = (omega (arith, x.0, le), x.1, x.2, x.3)
    go (Some (Assert l next)) x = x
    go (Some (Fork a b)) x = x
    go (Some (Capture slot next)) x = x
    go (Some (Accept pattern)) x = x

-- a run in a part of a span is one in the span
pub match-wider : (e : Search) (from n : ℕ) (p : ℕ × ℕ) (run : List (ℕ × ℕ)) → e.start ≤ from → n ≤ e.end
    → IsMatchRun (record e { start = from; end = n }) p run → IsMatchRun e p run
match-wider e from n p run low high m = record {
  is_run = record {
    places = λ k l. let w = m.is_run.places k l in (w.0, omega (arith, w.1, low), omega (arith, w.2, high));
    steps = λ k l. step-wider e n (place run k) (place run (k + 1)) high (m.is_run.steps k l);
  };
  some = m.some;
  begins = m.begins;
  ends = m.ends;
}

-- each offset of a match is within its span
pub offset-within : (e : Search) (from : ℕ × ℕ) (run : List (ℕ × ℕ)) (found : Matched) (captures : Captured) (slot i : ℕ) → IsMatchRun e from run
    → IsMatchWithRecords e run found captures → get_or captures.offsets slot None ≡ Some i → (found.span.start ≤ i) × (i ≤ found.span.end)
offset-within e from run found captures slot i m o at = (
  omega (arith, o.ends.start, from_first, at_place.2),
  omega (arith, o.ends.end, to_last, at_place.2),
)
  where
    there : slot < length captures.offsets
    there = ⊎_elim
        (λ (l : slot < length captures.offsets). l)
        (λ (le : length captures.offsets ≤ slot). absurd (none_is_some (sym (get_or_past captures.offsets slot None le) ∙ at)))
        (cases_lt slot (length captures.offsets))
      where
        none_is_some : None ≡ Some i → ⊥
        none_is_some h = absurd (cc)

    at_place : (k : ℕ) × (k < length run) × ((place run k).1 ≡ i)
    at_place = recorded-place e.states run slot i (sym (o.records slot there) ∙ at)

    from_first : (place run 0).1 ≤ (place run at_place.0).1
    from_first = run-rises e run 0 at_place.0 m.is_run (omega arith) at_place.1

    to_last : (place run at_place.0).1 ≤ (place run (length run - 1)).1
    to_last = run-rises e run at_place.0 (length run - 1) m.is_run (omega (arith, at_place.1)) (omega (arith, at_place.1))
