-- A scan of a list beside a small haystack is one at each position for which the small haystack stands.
use Rattle.std.proofs.Common.{◌≡◌, ℕ, ◌+◌, ◌<◌, ◌≤◌, ◌⊎◌, inl, inr, ⊎_elim, Bool, List, ◌∷◌, refl, ap, subst, arith, slice_get, Option, Some, None, MatchOption}
use Rattle.rsc_nfa.specs.declared.state.State.{State}
use Rattle.rsc_nfa.specs.declared.state.State.TheVariants.{ByteRange, Assert, Fork, Capture, Accept}
use Rattle.rsc_nfa.specs.Steps.{StepsTo}
use Rattle.rsc_engine.specs.Searches.{Search}
use Rattle.rsc_engine.specs.Runs.{Leads}
use Rattle.rsc_engine.specs.RowsLayout.{machine_of, IsNear}
use Rattle.rsc_engine.specs.ForwardLayout.{beside}
use Rattle.rsc_engine.specs.PassesLayout.{Scans, done, again, fork, single, stuck, over, matched, placed}
use Rattle.rsc_engine.proofs.ForwardStepsLemmas.{same_place}

step_goes : (e : Search) (q r : ℕ × ℕ) → Leads e q r → (r.1 ≡ q.1) ⊎ ((r.1 ≡ q.1 + 1) × (q.1 < e.end))
step_goes e q r l = go (slice_get e.states q.0) l
  where
    go : (o : Option State) → MatchOption o ⊥ (λ (state : State). StepsTo state e.terminator e.word_chars e.haystack e.end q.1 r)
        → (r.1 ≡ q.1) ⊎ ((r.1 ≡ q.1 + 1) × (q.1 < e.end))
    go None x = absurd x
    go (Some (ByteRange a b next)) x = inr (x.3, x.0)
    go (Some (Assert l next)) x = inl x.2
    go (Some (Fork a b)) x = inl x.1
    go (Some (Capture slot next)) x = inl x.1
    go (Some (Accept pattern)) x = absurd x

module _ (e : Search) (i : ℕ) (near : List ℕ) (at : ℕ) (n : IsNear e i near at) (low : e.start ≤ i) where
  abbrev pub small : Search
  small = beside (machine_of e) e.mode near

  module _ (within : i < e.end) where
    -- where steps lead, beside the small haystack
    led : (s : ℕ) (q : ℕ × ℕ) → Leads e (s, i) q
        → ((q.1 ≡ i) × Leads small (s, at) (q.0, at)) ⊎ ((q.1 ≡ i + 1) × Leads small (s, at) (q.0, at + 1))
    led s q l = ⊎_elim
        (λ (h : q.1 ≡ i). inl (h, (n.follows s q.0).0 (subst (λ (r : ℕ × ℕ). Leads e (s, i) r) (same_place q (q.0, i) refl h) l)))
        (λ (h : (q.1 ≡ i + 1) × (i < e.end)).
        inr (h.0, (n.moves s q.0 within).0 (subst (λ (r : ℕ × ℕ). Leads e (s, i) r) (same_place q (q.0, i + 1) refl h.0) l)))
        (step_goes e (s, i) q l)

    pub scans-near : (seen : ℕ → Bool) (list next out : List ℕ) (found : Option (ℕ × ℕ)) → Scans small at seen list next out found
        → Scans e i seen list next out (placed i found)
    scans-near seen list next out found (done _ _) = done seen next
    scans-near seen list next out found (again _ s more _ _ _ is l) =
        again seen s more next out (placed i found) is (scans-near seen more next out found l)
    scans-near seen list next out found (fork _ after s a b more _ _ _ g fresh there is l) =
        fork seen after s a b more next out (placed i found) g fresh (there.0, low, omega (arith, within)) is
        (scans-near after (a ∷ b ∷ more) next out found l)
    scans-near seen list next out found (single _ after s t more _ _ _ g fresh there rejected no_fork leads only l) =
        single seen after s t more next out (placed i found) g fresh (there.0, low, omega (arith, within)) rejected no_fork ((n.follows s t).1 leads)
        (λ q step. ⊎_elim
        (λ h. same_place q (t, i) (ap (λ (r : ℕ × ℕ). r.0) (only (q.0, at) h.1)) h.0)
        (λ h. absurd (omega (arith, ap (λ (r : ℕ × ℕ). r.1) (only (q.0, at + 1) h.1))))
        (led s q step))
        (scans-near after (t ∷ more) next out found l)
    scans-near seen list next out found (stuck _ after s more _ _ _ g rejected none l) =
        stuck seen after s more next out (placed i found) g rejected
        (λ q step. ⊎_elim (λ h. none (q.0, at) h.1) (λ h. none (q.0, at + 1) h.1) (led s q step))
        (scans-near after more next out found l)
    scans-near seen list next out found (over _ after s t more _ new _ _ g fresh there rejected no_fork leads only is l) =
        over seen after s t more next new out (placed i found) g fresh (there.0, low, omega (arith, within)) rejected no_fork
        ((n.moves s t within).1 leads)
        (λ q step. ⊎_elim
        (λ h. absurd (omega (arith, ap (λ (r : ℕ × ℕ). r.1) (only (q.0, at) h.1))))
        (λ h. same_place q (t, i + 1) (ap (λ (r : ℕ × ℕ). r.0) (only (q.0, at + 1) h.1)) h.0)
        (led s q step)) is
        (scans-near after more new out found l)
    scans-near seen list next out found (matched _ s more _ fresh there accepted) =
        matched seen s more next fresh (there.0, low, omega (arith, within)) accepted

  -- at the span's end no step leads over the byte beyond it, so only what is found is the same
  module _ (at_end : i ≡ e.end) where
    led_end : (s : ℕ) (q : ℕ × ℕ) → Leads e (s, i) q → (q.1 ≡ i) × Leads small (s, at) (q.0, at)
    led_end s q l = ⊎_elim
        (λ (h : q.1 ≡ i). (h, (n.follows s q.0).0 (subst (λ (r : ℕ × ℕ). Leads e (s, i) r) (same_place q (q.0, i) refl h) l)))
        (λ (h : (q.1 ≡ i + 1) × (i < e.end)). absurd (omega (arith, h.1, at_end)))
        (step_goes e (s, i) q l)

    pub scans-end : (seen : ℕ → Bool) (list next out : List ℕ) (found : Option (ℕ × ℕ)) → Scans small at seen list next out found
        → (next2 : List ℕ) → (out2 : List ℕ) × Scans e i seen list next2 out2 (placed i found)
    scans-end seen list next out found (done _ _) next2 = (next2, done seen next2)
    scans-end seen list next out found (again _ s more _ _ _ is l) next2 =
        let rest = scans-end seen more next out found l next2 in (rest.0, again seen s more next2 rest.0 (placed i found) is rest.1)
    scans-end seen list next out found (fork _ after s a b more _ _ _ g fresh there is l) next2 =
        let rest = scans-end after (a ∷ b ∷ more) next out found l next2 in
        (rest.0, fork seen after s a b more next2 rest.0 (placed i found) g fresh (there.0, low, omega (arith, at_end)) is rest.1)
    scans-end seen list next out found (single _ after s t more _ _ _ g fresh there rejected no_fork leads only l) next2 =
        let rest = scans-end after (t ∷ more) next out found l next2 in (
          rest.0,
          single seen after s t more next2 rest.0 (placed i found) g fresh (there.0, low, omega (arith, at_end)) rejected no_fork ((n.follows s t).1 leads)
              (λ q step. same_place q (t, i) (ap (λ (r : ℕ × ℕ). r.0) (only (q.0, at) (led_end s q step).1)) (led_end s q step).0)
              rest.1,
        )
    scans-end seen list next out found (stuck _ after s more _ _ _ g rejected none l) next2 =
        let rest = scans-end after more next out found l next2 in
        (rest.0, stuck seen after s more next2 rest.0 (placed i found) g rejected (λ q step. none (q.0, at) (led_end s q step).1) rest.1)
    scans-end seen list next out found (over _ after s t more _ new _ _ g fresh there rejected no_fork leads only is l) next2 =
        let rest = scans-end after more new out found l next2 in (
          rest.0,
          stuck seen after s more next2 rest.0 (placed i found) g rejected
              (λ q step. absurd (omega (arith, ap (λ (r : ℕ × ℕ). r.1) (only (q.0, at) (led_end s q step).1)))) rest.1,
        )
    scans-end seen list next out found (matched _ s more _ fresh there accepted) next2 =
        (next2, matched seen s more next2 fresh (there.0, low, omega (arith, at_end)) accepted)
