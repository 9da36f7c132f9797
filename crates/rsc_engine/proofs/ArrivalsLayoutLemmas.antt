-- From where a match is reached, position by position from its end back; and the least position at which one begins.
use Rattle.std.proofs.Common.{◌≡◌, ℕ, zero, suc, ◌+◌, ◌-◌, ◌<◌, ◌≤◌, ◌⊎◌, inl, inr, ⊎_elim, true, List, [], ◌∷◌, length, drop, refl, ap, subst, ◌∙◌, arith, length-drop, slice_get, Option, Some, None, MatchOption}
use Rattle.std.proofs.lemmas.Bool.{cases_lt}
use Rattle.rsc_nfa.specs.declared.state.State.{State}
use Rattle.rsc_nfa.specs.declared.state.State.TheVariants.{ByteRange, Assert, Fork, Capture, Accept}
use Rattle.rsc_nfa.specs.Steps.{place, StepsTo}
use Rattle.rsc_engine.specs.Searches.{Search}
use Rattle.rsc_engine.specs.Runs.{Leads, IsPlace, accepts, IsMatchRun}
use Rattle.rsc_engine.specs.Preferred.{IsLeftmostFirst}
use Rattle.rsc_engine.specs.DecidesLayout.{last_of}
use Rattle.rsc_engine.specs.ArrivalsLayout.{Arrives, ArrivesOver, ArrivesAtOnce, here, over, LeadsBack, seed, back}
use Rattle.rsc_engine.proofs.ForwardStepsLemmas.{match-one, same_place, match-before, match-drop}

-- a step stays at its position or goes on by one
step_goes : (e : Search) (q r : ℕ × ℕ) → Leads e q r → (r.1 ≡ q.1) ⊎ (r.1 ≡ q.1 + 1)
step_goes e q r l = go (slice_get e.states q.0) l
  where
    go : (o : Option State) → MatchOption o ⊥ (λ (state : State). StepsTo state e.terminator e.word_chars e.haystack e.end q.1 r)
        → (r.1 ≡ q.1) ⊎ (r.1 ≡ q.1 + 1)
    go None x = absurd x
    go (Some (ByteRange a b next)) x = inr x.3
    go (Some (Assert l next)) x = inl x.2
    go (Some (Fork a b)) x = inl x.1
    go (Some (Capture slot next)) x = inl x.1
    go (Some (Accept pattern)) x = absurd x

abbrev pub arrives-before : (e : Search) (s i t k : ℕ) → IsPlace e (s, i) → Leads e (s, i) (t, k) → Arrives e t k → Arrives e s i
arrives-before e s i t k there leads a = record { run = (s, i) ∷ a.run; is_match = match-before e (s, i) (t, k) a.run there leads a.is_match }

-- what leads back to states arriving at once arrives
pub back-arrives : (e : Search) (i s : ℕ) → LeadsBack e i (ArrivesAtOnce e i) s → Arrives e s i
back-arrives e i s (seed _ (here there accepted)) = record { run = (s, i) ∷ []; is_match = match-one e (s, i) there accepted }
back-arrives e i s (seed _ (over a)) = arrives-before e s i a.to (i + 1) a.there a.leads a.arrives
back-arrives e i s (back _ t there leads b) = arrives-before e s i t i there leads (back-arrives e i t b)

-- and no other does
pub arrives-back : (e : Search) (s i : ℕ) → Arrives e s i → LeadsBack e i (ArrivesAtOnce e i) s
arrives-back e s i a = go (length a.run) s a (omega arith)
  where
    go : (n s : ℕ) (a : Arrives e s i) → length a.run ≤ n → LeadsBack e i (ArrivesAtOnce e i) s
    go zero s a le = absurd (omega (arith, le, a.is_match.some))
    go (suc n) s a le = ⊎_elim
        (λ (more : 1 < length a.run).
        let step : Leads e (s, i) (place a.run 1) = subst (λ (q : ℕ × ℕ). Leads e q (place a.run 1)) a.is_match.begins (a.is_match.is_run.steps 0 more) in
        ⊎_elim
        (λ (stays : (place a.run 1).1 ≡ i).
        let second : place a.run 1 ≡ ((place a.run 1).0, i) = same_place (place a.run 1) ((place a.run 1).0, i) refl stays in
        back s (place a.run 1).0 there (subst (λ (q : ℕ × ℕ). Leads e (s, i) q) second step)
        (go n (place a.run 1).0 (rest a more i second) (omega (arith, le, length-drop 1 a.run))))
        (λ (on : (place a.run 1).1 ≡ i + 1).
        let second : place a.run 1 ≡ ((place a.run 1).0, i + 1) = same_place (place a.run 1) ((place a.run 1).0, i + 1) refl on in
        seed s (over (record {
          to = (place a.run 1).0;
          there = there;
          leads = subst (λ (q : ℕ × ℕ). Leads e (s, i) q) second step;
          arrives = rest a more (i + 1) second;
        })))
        (step_goes e (s, i) (place a.run 1) step))
        (λ (one : length a.run ≤ 1).
        let last : length a.run - 1 ≡ 0 = omega (arith, one) in
        let same : last_of a.run ≡ (s, i) = ap (λ (k : ℕ). place a.run k) last ∙ a.is_match.begins in
        seed s (here there (subst (λ (q : ℕ × ℕ). accepts e q ≡ true) same a.is_match.ends)))
        (cases_lt 1 (length a.run))
      where
        there : IsPlace e (s, i)
        there = subst (λ (q : ℕ × ℕ). IsPlace e q) a.is_match.begins (a.is_match.is_run.places 0 a.is_match.some)

        rest : (a : Arrives e s i) → 1 < length a.run → (k : ℕ) → place a.run 1 ≡ ((place a.run 1).0, k) → Arrives e (place a.run 1).0 k
        rest a more k second = record {
          run = drop 1 a.run;
          is_match = subst (λ (q : ℕ × ℕ). IsMatchRun e q (drop 1 a.run)) second (match-drop e (s, i) a.run 1 a.is_match more);
        }

-- what arrives is in the span
pub arrives-within : (e : Search) (s i : ℕ) → Arrives e s i → IsPlace e (s, i)
arrives-within e s i a = subst (λ (q : ℕ × ℕ). IsPlace e q) a.is_match.begins (a.is_match.is_run.places 0 a.is_match.some)

-- the leftmost-first match begins at the least position at which one does
pub first-arrives : (e : Search) (run : List (ℕ × ℕ)) → IsLeftmostFirst e run → Arrives e e.start_state (place run 0).1
first-arrives e run f = record { run = run; is_match = f.preferred.is_match }

pub none-earlier : (e : Search) (at : ℕ) (run : List (ℕ × ℕ)) → IsLeftmostFirst e run → e.start ≤ at → Arrives e e.start_state at
    → (place run 0).1 ≤ at
none-earlier e at run f low a = ⊎_elim
    (λ (l : at < (place run 0).1). absurd (f.leftmost at low l a.run a.is_match))
    (λ (le : (place run 0).1 ≤ at). le)
    (cases_lt at (place run 0).1)

-- where no state arrives over the byte, a match that begins there or before ends there or before
pub none-crosses : (e : Search) (i : ℕ) (from : ℕ × ℕ) (run : List (ℕ × ℕ)) → ((t : ℕ) → ¬ (ArrivesOver e t i)) → IsMatchRun e from run
    → from.1 ≤ i
    → (last_of run).1 ≤ i
none-crosses e i from run none m low = go (length run - 1) (omega (arith, m.some))
  where
    crossing : (k : ℕ) → k + 1 < length run → (place run k).1 ≡ i → (place run (k + 1)).1 ≡ (place run k).1 + 1 → ArrivesOver e (place run k).0 i
    crossing k more at on =
        let one : place run k ≡ ((place run k).0, i) = same_place (place run k) ((place run k).0, i) refl at in
        let two : place run (k + 1) ≡ ((place run (k + 1)).0, i + 1) =
        same_place (place run (k + 1)) ((place run (k + 1)).0, i + 1) refl (on ∙ ap (λ (n : ℕ). n + 1) at) in
        record {
          to = (place run (k + 1)).0;
          there = subst (λ (q : ℕ × ℕ). IsPlace e q) one (m.is_run.places k (omega (arith, more)));
          leads = subst (λ (q : ℕ × ℕ). Leads e q ((place run (k + 1)).0, i + 1)) one
              (subst (λ (q : ℕ × ℕ). Leads e (place run k) q) two (m.is_run.steps k more));
          arrives = record {
            run = drop (k + 1) run;
            is_match = subst (λ (q : ℕ × ℕ). IsMatchRun e q (drop (k + 1) run)) two (match-drop e from run (k + 1) m more);
          };
        }

    step : (k : ℕ) → k + 1 < length run → (place run k).1 ≤ i → (place run (k + 1)).1 ≤ i
    step k more before = ⊎_elim
        (λ (stays : (place run (k + 1)).1 ≡ (place run k).1). omega (arith, stays, before))
        (λ (on : (place run (k + 1)).1 ≡ (place run k).1 + 1). ⊎_elim
        (λ (lt : (place run k).1 < i). omega (arith, on, lt))
        (λ (ge : i ≤ (place run k).1). absurd (none (place run k).0 (crossing k more (omega (arith, ge, before)) on)))
        (cases_lt (place run k).1 i))
        (step_goes e (place run k) (place run (k + 1)) (m.is_run.steps k more))

    go : (k : ℕ) → k < length run → (place run k).1 ≤ i
    go zero l = omega (arith, low, ap (λ (q : ℕ × ℕ). q.1) m.begins)
    go (suc k) l = let same : suc k ≡ k + 1 = omega arith in rw same (step k (omega (arith, l)) (go k (omega (arith, l))))
