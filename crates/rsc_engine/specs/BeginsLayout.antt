-- At which state the matches of a pattern, or of several, begin.
use Rattle.std.specs.Prelude.{◌≡◌, ℕ, ◌+◌, ◌*◌, ◌<◌, ◌≤◌, List, slice_get, Some}
use Rattle.rsc_nfa.specs.declared.state.State.{State}
use Rattle.rsc_nfa.specs.declared.state.State.TheVariants.{Capture, Accept}
use Rattle.rsc_engine.specs.Patterns.{Pattern, Subject, Goes}
use Rattle.rsc_engine.specs.EnclosesLayout.{Encloses}
use Rattle.rsc_engine.specs.LinksLayout.{Aim, StepsLead, HasEnd}
use Rattle.rsc_engine.specs.StepsLayout.{AreSteps, last_place}
use Rattle.rsc_engine.specs.WaysLayout.{StepsBefore}

-- the states of a pattern: the accepting one, a record of where the match ends, a part, and a record of where the match begins
pub record IsPatternStates (states : List State) (number low high accept after body first : ℕ) : Type 0 where
  pub accepting : slice_get states accept ≡ Some (Accept number)
  pub ending : slice_get states after ≡ Some (Capture (2 * number + 1) accept)
  pub encloses : Encloses (2 * number + 1) low high body after states
  pub starting : slice_get states first ≡ Some (Capture (2 * number) body)

-- steps from the state `first` to a match of the lesser of two patterns are before steps to a match of the other
pub record PrefersFrom (states : List State) (first : ℕ) : Type 0 where
  pub before : (x : Subject) (end m n : ℕ) (p : ℕ × ℕ) (one other : List (ℕ × ℕ)) → p.0 ≡ first → p.1 ≤ end →
      AreSteps states x end p one → AreSteps states x end p other → slice_get states (last_place p one).0 ≡ Some (Accept m) →
      slice_get states (last_place p other).0 ≡ Some (Accept n) → m < n → StepsBefore states p one other

-- from the state `first` exactly the matches that are looked for are found, and lesser patterns are preferred
pub record Begins (states : List State) (first : ℕ) (IsSought : Aim → ℕ → Type 0) : Type 0 where
  pub sound : (a : Aim) (n i : ℕ) → StepsLead states a n first i → IsSought a i
  pub complete : (a : Aim) (i : ℕ) → IsSought a i → a.position ≤ a.end → HasEnd states a first i
  pub prefers : PrefersFrom states first

-- the match is of this pattern, with this number
abbrev pub IsOfOne : ℕ → Pattern → Aim → ℕ → Type 0
IsOfOne number p a i = (a.pattern ≡ number) × Goes a.subject p i a.position

-- the match is of one of the patterns from a number on
abbrev pub IsOfSome : ℕ → List Pattern → Aim → ℕ → Type 0
IsOfSome from patterns a i = (from ≤ a.pattern) × (p : Pattern) × (slice_get patterns a.pattern ≡ Some p) × Goes a.subject p i a.position
