-- Steps that lead to a match: their order, where they end, and what they record.
use Rattle.std.specs.Prelude.{◌≡◌, ◌≢◌, ℕ, ◌≤◌, ◌⊎◌, List, [], ◌∷◌, slice_get, Option, Some}
use Rattle.rsc_nfa.specs.declared.state.State.{State}
use Rattle.rsc_nfa.specs.declared.state.State.TheVariants.{Fork, Capture, Accept}
use Rattle.rsc_engine.specs.Patterns.{Subject}
use Rattle.rsc_engine.specs.StepsLayout.{AreSteps, last_place}

-- two lists of steps from a place go together up to a fork, at which the one goes the first way and the other doesn't
abbrev pub StepsBefore : List State → ℕ × ℕ → List (ℕ × ℕ) → List (ℕ × ℕ) → Type 0
StepsBefore states p [] other = ⊥
StepsBefore states p (q ∷ one) [] = ⊥
StepsBefore states p (q ∷ one) (r ∷ other) =
    ((a : ℕ) × (b : ℕ) × (slice_get states p.0 ≡ Some (Fork a b)) × (q.0 ≡ a) × (r.0 ≢ a)) ⊎ ((q ≡ r) × StepsBefore states q one other)

-- steps up to an end lead from a place to a state that accepts the pattern m
pub record AreStepsTo (states : List State) (x : Subject) (end m : ℕ) (p : ℕ × ℕ) (rest : List (ℕ × ℕ)) : Type 0 where
  pub within : p.1 ≤ end
  pub steps : AreSteps states x end p rest
  pub accepts : slice_get states (last_place p rest).0 ≡ Some (Accept m)

-- what a state records, after what was recorded before
abbrev pub recorded_by : Option State → ℕ → List (ℕ × ℕ) → List (ℕ × ℕ)
recorded_by (Some (Capture slot next)) i earlier = (slot, i) ∷ earlier
recorded_by _ i earlier = earlier

-- where steps end, and what they record, after what was recorded before
abbrev pub finish : List State → ℕ × ℕ → List (ℕ × ℕ) → List (ℕ × ℕ) → (ℕ × ℕ) × List (ℕ × ℕ)
finish states p [] earlier = (p, earlier)
finish states p (q ∷ rest) earlier = finish states q rest (recorded_by (slice_get states p.0) p.1 earlier)
