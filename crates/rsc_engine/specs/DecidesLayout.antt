-- What an ordered list of states decides: the first of them from which a match is reached.
use Rattle.std.specs.Prelude.{◌≡◌, ℕ, ◌-◌, ◌<◌, ◌⊎◌, Bool, true, false, List, [], ◌∷◌, length}
use Rattle.rsc_nfa.specs.Steps.{place}
use Rattle.rsc_engine.specs.Searches.{Search}
use Rattle.rsc_engine.specs.Runs.{IsMatchRun}
use Rattle.rsc_engine.specs.Preferred.{HasNoPlaceTwice, IsPreferredTo, IsLeftmostFirst}

-- the last place of a run
abbrev pub last_of : List (ℕ × ℕ) → ℕ × ℕ
last_of run = place run (length run - 1)

-- the run comes to no state at the position that was seen
abbrev pub Avoids : ℕ → (ℕ → Bool) → List (ℕ × ℕ) → Type 0
Avoids i seen run = (k : ℕ) → k < length run → (place run k).1 ≡ i → seen (place run k).0 ≡ false

-- a run to a match from the state at the position, which avoids the states seen there
pub record IsUnseenMatch (e : Search) (i : ℕ) (seen : ℕ → Bool) (s : ℕ) (run : List (ℕ × ℕ)) : Type 0 where
  pub is_match : IsMatchRun e (s, i) run
  pub avoids : Avoids i seen run

-- there is none
abbrev pub IsHopeless : Search → ℕ → (ℕ → Bool) → ℕ → Type 0
IsHopeless e i seen s = (run : List (ℕ × ℕ)) → ¬ (IsUnseenMatch e i seen s run)

-- no other is preferred to it, among such runs which come to no place twice
pub record IsBest (e : Search) (i : ℕ) (seen : ℕ → Bool) (s : ℕ) (run : List (ℕ × ℕ)) : Type 0 where
  pub is_unseen : IsUnseenMatch e i seen s run
  pub once : HasNoPlaceTwice run
  pub first : (other : List (ℕ × ℕ)) → IsUnseenMatch e i seen s other → HasNoPlaceTwice other → ¬ (IsPreferredTo e other run)

-- nothing was seen
abbrev pub unseen : ℕ → Bool
unseen s = false

-- one state more was seen
pub record IsMore (seen : ℕ → Bool) (s : ℕ) (after : ℕ → Bool) : Type 0 where
  pub new : after s ≡ true
  pub kept : (t : ℕ) → seen t ≡ true → after t ≡ true
  pub only : (t : ℕ) → after t ≡ true → (t ≡ s) ⊎ (seen t ≡ true)

-- the first state of the list from which a match is reached decides: of the last place of its best run the claim holds. If there is none, the rest holds
abbrev pub Decides : Search → ℕ → (ℕ → Bool) → (ℕ × ℕ → Type 0) → Type 0 → List ℕ → Type 0
Decides e i seen claim rest [] = rest
Decides e i seen claim rest (s ∷ list) =
    ((run : List (ℕ × ℕ)) → IsBest e i seen s run → claim (last_of run)) × (IsHopeless e i seen s → Decides e i seen claim rest list)

-- the leftmost-first match ends at the place
pub record IsLastPlace (e : Search) (end : ℕ × ℕ) : Type 0 where
  pub run : List (ℕ × ℕ)
  pub is_first : IsLeftmostFirst e run
  pub ends : last_of run ≡ end
