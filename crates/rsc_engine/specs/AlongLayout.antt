-- The pass along the log of the backward pass. These serve the proof of `dfa`; no public contract cites them.
use Rattle.std.specs.Prelude.{◌≡◌, ℕ, ◌+◌, ◌<◌, ◌≤◌, Bool, false, List, [], ◌∷◌, ◌++◌, length, take, slice_get, slice_index_or, Option, Some, None}
use Rattle.rsc_nfa.specs.declared.state.State.{State}
use Rattle.rsc_nfa.specs.declared.state.State.TheVariants.{Accept}
use Rattle.rsc_nfa.specs.Steps.{recorded}
use Rattle.rsc_engine.specs.Searches.{Search}
use Rattle.rsc_engine.specs.Runs.{AreRecords}
use Rattle.rsc_engine.specs.Preferred.{IsPreferred}
use Rattle.rsc_engine.specs.DecidesLayout.{last_of, IsHopeless, IsBest, IsMore, unseen}
use Rattle.rsc_engine.specs.ArrivalsLayout.{Arrives, ArrivesOver}
use Rattle.rsc_engine.specs.OrderedLayout.{IsActionOf}
use Rattle.rsc_engine.specs.declared.dfa.ordered.Action.{Action}
use Rattle.rsc_engine.specs.declared.dfa.ordered.Action.TheVariants.{Stuck, One, OverByte, Two, Match}

-- ---- from position to position

-- the preferred run from where a match begins is of the pattern, and ends at j
pub record GoesTo (e : Search) (from p j : ℕ) : Type 0 where
  pub run : List (ℕ × ℕ)
  pub preferred : IsPreferred e (e.start_state, from) run
  pub pattern : slice_get e.states (last_of run).0 ≡ Some (Accept p)
  pub end : (last_of run).1 ≡ j

-- and the slots hold what it records
pub record IsRecorded (e : Search) (from p j : ℕ) (slots : List (Option ℕ)) : Type 0 where
  pub goes : GoesTo e from p j
  pub records : AreRecords e goes.run slots

-- each slot holds what steps from these places record, one after the other
abbrev pub AreRecordsTo : List State → List (ℕ × ℕ) → List (Option ℕ) → Type 0
AreRecordsTo states front slots = (q : ℕ × ℕ) (s : ℕ) → s < length slots → slice_index_or slots s None ≡ recorded states (front ++ q ∷ []) s

-- a match is reached from the state at the position. With the best run from there the preferred one goes on, and the slots hold what it records before
pub record IsLed (e : Search) (from s i : ℕ) (slots : List (Option ℕ)) : Type 0 where
  pub front : List (ℕ × ℕ)
  pub arrives : Arrives e s i
  pub best : (run : List (ℕ × ℕ)) → IsBest e i unseen s run → IsPreferred e (e.start_state, from) (front ++ run)
  pub records : AreRecordsTo e.states front slots

-- the preferred run goes on over the byte at the position, or is a match of the pattern there
abbrev pub LeadsAlong : Search → ℕ → ℕ → ℕ → Option ℕ → List (Option ℕ) → Type 0
LeadsAlong e from i t None slots = IsLed e from t (i + 1) slots
LeadsAlong e from i t (Some p) slots = IsRecorded e from p i slots

-- ---- within a position

-- each state's stamp is below this one: no state was seen with it
abbrev pub AreBelow : ℕ → List ℕ → Type 0
AreBelow n seen = (s : ℕ) → slice_index_or seen s 0 < n

-- once the one state was seen at the position, the other may be gone on from instead: what is best from there is so behind it
pub record IsInPlace (e : Search) (i s t : ℕ) : Type 0 where
  pub best : (seen after : ℕ → Bool) → IsMore seen s after → seen s ≡ false → (run : List (ℕ × ℕ)) → IsBest e i after t run
      → IsBest e i seen s ((s, i) ∷ run)
  pub none : (seen after : ℕ → Bool) → IsMore seen s after → IsHopeless e i after t → IsHopeless e i seen s

-- what the state does at the position, if steps that lead to no match are left out
abbrev pub IsActionAlong : Search → ℕ → ℕ → Action → Type 0
IsActionAlong e i s Stuck = (seen : ℕ → Bool) → IsHopeless e i seen s
IsActionAlong e i s (One t) = IsInPlace e i s t
IsActionAlong e i s (OverByte t) = IsActionOf e i s (OverByte t) × ArrivesOver e s i
IsActionAlong e i s (Two a b) = IsActionOf e i s (Two a b)
IsActionAlong e i s (Match p) = IsActionOf e i s (Match p)

-- these states at the position
abbrev pub all_at : ℕ → List ℕ → List (ℕ × ℕ)
all_at i [] = []
all_at i (s ∷ trail) = (s, i) ∷ all_at i trail

-- of the states on the stack, from its top on, the first from which a match is reached decides how the preferred run goes on behind the places before the
-- position and the trail's states up to this depth
abbrev pub DecidesAlong : Search → ℕ → ℕ → (ℕ → Bool) → List (ℕ × ℕ) → List ℕ → List (ℕ × ℕ) → Type 0
DecidesAlong e from i seen front trail [] = ⊥
DecidesAlong e from i seen front trail (x ∷ rest) =
    (x.1 ≤ length trail)
    × ((run : List (ℕ × ℕ)) → IsBest e i seen x.0 run → IsPreferred e (e.start_state, from) ((front ++ all_at i (take x.1 trail)) ++ run))
    × (IsHopeless e i seen x.0 → DecidesAlong e from i seen front (take x.1 trail) rest)
