-- What a state does at a position, and what a scan of an ordered list of states finds.
use Rattle.std.specs.Prelude.{◌≡◌, ℕ, ◌+◌, ◌<◌, Bool, true, false, List, [], slice_get, slice_index_or, Option, Some, None}
use Rattle.rsc_nfa.specs.declared.state.State.TheVariants.{Fork, Accept}
use Rattle.rsc_engine.specs.Searches.{Search}
use Rattle.rsc_engine.specs.Runs.{Leads, accepts}
use Rattle.rsc_engine.specs.declared.dfa.ordered.Action.{Action}
use Rattle.rsc_engine.specs.declared.dfa.ordered.Action.TheVariants.{Stuck, One, OverByte, Two, Match}
use Rattle.rsc_engine.specs.Preferred.{IsLeftmostFirst}
use Rattle.rsc_engine.specs.DecidesLayout.{last_of}
use Rattle.rsc_engine.specs.PassesLayout.{IsNoFork, Scans}

-- what the state does at the position
abbrev pub IsActionOf : Search → ℕ → ℕ → Action → Type 0
IsActionOf e i s Stuck = (accepts e (s, i) ≡ false) × ((q : ℕ × ℕ) → Leads e (s, i) q → ⊥)
IsActionOf e i s (One t) = (accepts e (s, i) ≡ false) × IsNoFork e s × Leads e (s, i) (t, i)
    × ((q : ℕ × ℕ) → Leads e (s, i) q → (q.0 ≡ t) × (q.1 ≡ i))
IsActionOf e i s (OverByte t) = (accepts e (s, i) ≡ false) × IsNoFork e s × Leads e (s, i) (t, i + 1)
    × ((q : ℕ × ℕ) → Leads e (s, i) q → (q.0 ≡ t) × (q.1 ≡ i + 1))
IsActionOf e i s (Two a b) = slice_get e.states s ≡ Some (Fork a b)
IsActionOf e i s (Match p) = (accepts e (s, i) ≡ true) × (slice_get e.states s ≡ Some (Accept p))

-- the states to which it leads are there
abbrev pub IsThere : ℕ → Action → Type 0
IsThere n Stuck = Unit {0}
IsThere n (One t) = t < n
IsThere n (OverByte t) = t < n
IsThere n (Two a b) = (a < n) × (b < n)
IsThere n (Match p) = Unit {0}

-- what was seen, by marks
abbrev pub seen_by : List Bool → ℕ → Bool
seen_by marks s = slice_index_or marks s false

-- the pattern of the match at a place of the position
abbrev pub IsOfPattern : Search → ℕ → Option (ℕ × ℕ) → Option ℕ → Type 0
IsOfPattern e i None None = Unit {0}
IsOfPattern e i (Some q) (Some p) = (slice_get e.states q.0 ≡ Some (Accept p)) × (q.1 ≡ i)
IsOfPattern e i None (Some p) = ⊥
IsOfPattern e i (Some q) None = ⊥

-- a scan of the list finds a match of the pattern, or none, and the next list
pub record IsScanned (e : Search) (i : ℕ) (list : List ℕ) (pattern : Option ℕ) (next : List ℕ) : Type 0 where
  pub seen : ℕ → Bool
  pub none_seen : (s : ℕ) → seen s ≡ false
  pub found : Option (ℕ × ℕ)
  pub scans : Scans e i seen list [] next found
  pub of_pattern : IsOfPattern e i found pattern

-- the leftmost-first match is of the pattern and ends at the position
pub record IsEndOf (e : Search) (p i : ℕ) : Type 0 where
  pub run : List (ℕ × ℕ)
  pub is_first : IsLeftmostFirst e run
  pub pattern : slice_get e.states (last_of run).0 ≡ Some (Accept p)
  pub end : (last_of run).1 ≡ i
