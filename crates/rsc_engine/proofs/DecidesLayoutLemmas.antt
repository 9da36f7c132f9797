-- What a list decides as its states are looked at, one after the other.
use Rattle.std.proofs.Common.{◌≡◌, ℕ, zero, suc, ◌+◌, ◌<◌, ◌≤◌, inl, inr, ⊎_elim, Bool, true, false, true≢false, List, [], ◌∷◌, ◌++◌, length, refl, sym, ap, subst, ◌∙◌, arith, slice_get, Some}
use Rattle.std.specs.List.{Contains}
use Rattle.std.proofs.lemmas.Bool.{cases_lt}
use Rattle.rsc_nfa.specs.Steps.{place}
use Rattle.rsc_nfa.specs.declared.state.State.TheVariants.{Fork}
use Rattle.rsc_engine.specs.Searches.{Search}
use Rattle.rsc_engine.specs.Runs.{Leads, IsPlace, accepts, HasNoMatchFrom}
use Rattle.rsc_engine.specs.Preferred.{MayBegin}
use Rattle.rsc_engine.specs.DecidesLayout.{last_of, IsHopeless, IsBest, IsMore, unseen, Decides, IsLastPlace}
use Rattle.rsc_engine.proofs.ForwardStepsLemmas.{match-one, avoids-one, first_of_fork, last-before, open-more, best-less, best-before, hopeless-before, best-over, hopeless-over}

module _ (e : Search) (i : ℕ) (claim : ℕ × ℕ → Type 0) where
  -- a state from which no match is reached may count as seen
  pub decides-more : (seen after : ℕ → Bool) (s : ℕ) (rest : Type 0) (list : List ℕ) → IsMore seen s after → IsHopeless e i seen s
      → Decides e i seen claim rest list → Decides e i after claim rest list
  decides-more seen after s rest [] g none d = d
  decides-more seen after s rest (t ∷ list) g none d = (
    λ run b. d.0 run (best-less e i seen after s t run g none b),
    λ hopeless. decides-more seen after s rest list g none (d.1 (λ run m. hopeless run (open-more e i seen after s t run g none m))),
  )

  -- if nothing was seen, it's no matter how that is said
  pub decides-unseen : (seen : ℕ → Bool) (rest : Type 0) (list : List ℕ) → ((s : ℕ) → seen s ≡ false) → Decides e i unseen claim rest list
      → Decides e i seen claim rest list
  decides-unseen seen rest [] none d = d
  decides-unseen seen rest (t ∷ list) none d = (
    λ run b. d.0 run (record {
      is_unseen = record { is_match = b.is_unseen.is_match; avoids = λ k l h. refl };
      once = b.once;
      first = λ other m once. b.first other (record { is_match = m.is_match; avoids = λ k l h. none (place other k).0 }) once;
    }),
    λ hopeless. decides-unseen seen rest list none
        (d.1 (λ run m. hopeless run (record { is_match = m.is_match; avoids = λ k l h. none (place run k).0 }))),
  )

  -- a list before another one
  pub decides-append : (seen : ℕ → Bool) (rest : Type 0) (list more : List ℕ) → Decides e i seen claim (Decides e i seen claim rest more) list
      → Decides e i seen claim rest (list ++ more)
  decides-append seen rest [] more d = d
  decides-append seen rest (t ∷ list) more d = (d.0, λ hopeless. decides-append seen rest list more (d.1 hopeless))

  -- the rest counts only if no match is reached from the list
  pub AreHopeless : (ℕ → Bool) → List ℕ → Type 0
  AreHopeless seen [] = Unit {0}
  AreHopeless seen (t ∷ list) = IsHopeless e i seen t × AreHopeless seen list

  pub decides-rest : (seen : ℕ → Bool) (rest other : Type 0) (list : List ℕ) → Decides e i seen claim rest list
      → ((AreHopeless seen list) → rest → other) → Decides e i seen claim other list
  unfolding AreHopeless
  decides-rest seen rest other [] d f = f tt d
  decides-rest seen rest other (t ∷ list) d f = (d.0, λ hopeless. decides-rest seen rest other list (d.1 hopeless) (λ all. f (hopeless, all)))

  pub hopeless-of : (seen : ℕ → Bool) (list : List ℕ) (t : ℕ) → AreHopeless seen list → Contains list t → IsHopeless e i seen t
  unfolding AreHopeless
  hopeless-of seen [] t all (k, l, is) = absurd (omega (arith, l))
  hopeless-of seen (u ∷ list) t all (zero, l, is) = let same : u ≡ t = is in subst (λ (n : ℕ). IsHopeless e i seen n) same all.0
  hopeless-of seen (u ∷ list) t all (suc k, l, is) = hopeless-of seen list t all.1 (k, omega (arith, l), is)

  -- a state that was seen decides nothing
  pub decides-seen : (seen : ℕ → Bool) (s : ℕ) (rest : Type 0) (list : List ℕ) → seen s ≡ true → Decides e i seen claim rest (s ∷ list)
      → Decides e i seen claim rest list
  decides-seen seen s rest list is d = d.1 (λ run m. true≢false
      (sym is ∙ sym (ap (λ (q : ℕ × ℕ). seen q.0) m.is_match.begins)
      ∙ m.avoids 0 m.is_match.some (ap (λ (q : ℕ × ℕ). q.1) m.is_match.begins)))

  claim-after : (p : ℕ × ℕ) (run : List (ℕ × ℕ)) → 0 < length run → claim (last_of (p ∷ run)) → claim (last_of run)
  claim-after p run some c = subst claim (last-before p run some) c

  -- of a fork first the one way decides, then the other
  pub decides-fork : (seen after : ℕ → Bool) (s a b : ℕ) (rest : Type 0) (list : List ℕ) → IsMore seen s after → seen s ≡ false
      → IsPlace e (s, i)
      → slice_get e.states s ≡ Some (Fork a b) → Decides e i seen claim rest (s ∷ list) → Decides e i after claim rest (a ∷ b ∷ list)
  decides-fork seen after s a b rest list g fresh there is d = (
    λ run best. claim-after (s, i) run best.is_unseen.is_match.some (d.0 ((s, i) ∷ run)
        (best-before e i seen after s a run g fresh there (rw is (inl refl, refl)) stays
        (λ c f fork apart. absurd (apart (first_of_fork a b c f (sym is ∙ fork)))) best)),
    λ none. (
      λ run best. claim-after (s, i) run best.is_unseen.is_match.some (d.0 ((s, i) ∷ run)
          (best-before e i seen after s b run g fresh there (rw is (inr refl, refl)) stays
          (λ c f fork apart. subst (λ (n : ℕ). IsHopeless e i after n) (first_of_fork a b c f (sym is ∙ fork)) none) best)),
      λ other. decides-more seen after s rest list g (hopeless none other) (d.1 (hopeless none other)),
    ),
  )
    where
      stays : (q : ℕ × ℕ) → Leads e (s, i) q → q.1 ≡ i
      stays q l = (rw is at l).1

      hopeless : IsHopeless e i after a → IsHopeless e i after b → IsHopeless e i seen s
      hopeless none other = hopeless-before e i seen after s g (rw is refl) (λ q l. (
        stays q l,
        ⊎_elim
            (λ (h : q.0 ≡ a). subst (λ (n : ℕ). IsHopeless e i after n) (sym h) none)
            (λ (h : q.0 ≡ b). subst (λ (n : ℕ). IsHopeless e i after n) (sym h) other)
            (rw is at l).0,
      ))

  -- a state from which one step leads on with no byte passes on to where it leads
  pub decides-single : (seen after : ℕ → Bool) (s t : ℕ) (rest : Type 0) (list : List ℕ) → IsMore seen s after → seen s ≡ false
      → IsPlace e (s, i)
      → accepts e (s, i) ≡ false → ((a b : ℕ) → slice_get e.states s ≡ Some (Fork a b) → ⊥) → Leads e (s, i) (t, i)
      → ((q : ℕ × ℕ) → Leads e (s, i) q → q ≡ (t, i))
      → Decides e i seen claim rest (s ∷ list) → Decides e i after claim rest (t ∷ list)
  decides-single seen after s t rest list g fresh there rejected no_fork leads only d = (
    λ run best. claim-after (s, i) run best.is_unseen.is_match.some (d.0 ((s, i) ∷ run)
        (best-before e i seen after s t run g fresh there leads (λ q l. ap (λ (r : ℕ × ℕ). r.1) (only q l))
        (λ a b fork apart. absurd (no_fork a b fork)) best)),
    λ none. decides-more seen after s rest list g (hopeless none) (d.1 (hopeless none)),
  )
    where
      hopeless : IsHopeless e i after t → IsHopeless e i seen s
      hopeless none = hopeless-before e i seen after s g rejected (λ q l. (
        ap (λ (r : ℕ × ℕ). r.1) (only q l),
        subst (λ (n : ℕ). IsHopeless e i after n) (sym (ap (λ (r : ℕ × ℕ). r.0) (only q l))) none,
      ))

  -- one that is no match, and from which no step leads on, decides nothing
  pub decides-none : (seen after : ℕ → Bool) (s : ℕ) (rest : Type 0) (list : List ℕ) → IsMore seen s after
      → accepts e (s, i) ≡ false → ((q : ℕ × ℕ) → Leads e (s, i) q → ⊥)
      → Decides e i seen claim rest (s ∷ list) → Decides e i after claim rest list
  decides-none seen after s rest list g rejected stuck d = decides-more seen after s rest list g hopeless (d.1 hopeless)
    where
      hopeless : IsHopeless e i seen s
      hopeless = hopeless-before e i seen after s g rejected (λ q l. absurd (stuck q l))

  -- one from which a step leads over the byte passes on to where it leads, which is before what is left
  pub decides-over : (seen after : ℕ → Bool) (s t : ℕ) (rest : Type 0) (list : List ℕ) → IsMore seen s after → seen s ≡ false → IsPlace e (s, i)
      → accepts e (s, i) ≡ false → ((a b : ℕ) → slice_get e.states s ≡ Some (Fork a b) → ⊥) → Leads e (s, i) (t, i + 1)
      → ((q : ℕ × ℕ) → Leads e (s, i) q → q ≡ (t, i + 1))
      → Decides e i seen claim rest (s ∷ list) → Decides e (i + 1) unseen claim (Decides e i after claim rest list) (t ∷ [])
  decides-over seen after s t rest list g fresh there rejected no_fork leads only d = (
    λ run best. claim-after (s, i) run best.is_unseen.is_match.some (d.0 ((s, i) ∷ run)
        (best-over e i seen s t run fresh there leads no_fork best)),
    λ none. decides-more seen after s rest list g (hopeless none) (d.1 (hopeless none)),
  )
    where
      hopeless : IsHopeless e (i + 1) unseen t → IsHopeless e i seen s
      hopeless none = hopeless-over e i seen s rejected (λ q l. (
        ap (λ (r : ℕ × ℕ). r.1) (only q l),
        subst (λ (n : ℕ). IsHopeless e (i + 1) unseen n) (sym (ap (λ (r : ℕ × ℕ). r.0) (only q l))) none,
      ))

  -- a match: what comes after it in the list is cut off
  pub decides-match : (seen : ℕ → Bool) (s : ℕ) (rest : Type 0) (list : List ℕ) → seen s ≡ false → IsPlace e (s, i) → accepts e (s, i) ≡ true
      → Decides e i seen claim rest (s ∷ list) → claim (s, i)
  decides-match seen s rest list fresh there accepted d = d.0 ((s, i) ∷ []) (record {
    is_unseen = record { is_match = match-one e (s, i) there accepted; avoids = avoids-one i seen (s, i) fresh };
    once = λ j k l h. absurd (omega (arith, l, h));
    first = λ other m once b. absurd (omega (arith, b.other_within));
  })

-- ---- where matches begin

pub first-end : (e : Search) (i : ℕ) (run : List (ℕ × ℕ)) → MayBegin e i → ((at : ℕ) → e.start ≤ at → at < i → HasNoMatchFrom e at)
    → IsBest e i unseen e.start_state run → IsLastPlace e (last_of run)
first-end e i run may none best = record {
  run = run;
  is_first = record {
    begins = rw here may;
    preferred = rw here (record {
      is_match = best.is_unseen.is_match;
      once = best.once;
      first = λ other m once. best.first other (record { is_match = m; avoids = λ k l h. refl }) once;
    });
    leftmost = λ at low l. none at low (omega (arith, l, here));
  };
  ends = refl;
}
  where
    here : (place run 0).1 ≡ i
    here = ap (λ (q : ℕ × ℕ). q.1) best.is_unseen.is_match.begins

pub none-more : (e : Search) (i : ℕ) → ((at : ℕ) → e.start ≤ at → at < i → HasNoMatchFrom e at) → IsHopeless e i unseen e.start_state
    → (at : ℕ) → e.start ≤ at → at < i + 1 → HasNoMatchFrom e at
none-more e i none hopeless at low l = ⊎_elim
    (λ (lt : at < i). none at low lt)
    (λ (le : i ≤ at). let same : at ≡ i = omega (arith, le, l) in rw same (λ run m. hopeless run (record { is_match = m; avoids = λ k l h. refl })))
    (cases_lt at i)

-- the start state decides where matches begin
pub decides-start : (e : Search) (i : ℕ) → MayBegin e i → ((at : ℕ) → e.start ≤ at → at < i → HasNoMatchFrom e at)
    → Decides e i unseen (IsLastPlace e) ((at : ℕ) → e.start ≤ at → at < i + 1 → HasNoMatchFrom e at) (e.start_state ∷ [])
decides-start e i may none = (λ run best. first-end e i run may none best, λ hopeless. none-more e i none hopeless)
