-- Runs that are matches.
use Rattle.std.specs.Prelude.{◌≡◌, ℕ, ◌-◌, ◌<◌, ◌==◌, Bool, true, false, List, length, slice_get, slice_index_or, Option, Some, None}
use Rattle.rsc_nfa.specs.declared.state.State.{State}
use Rattle.rsc_nfa.specs.declared.state.State.TheVariants.{Accept}
use Rattle.rsc_search.specs.Modes.{only_pattern}
use Rattle.rsc_search.specs.Matches.{Matched}
use Rattle.rsc_nfa.specs.Steps.{IsStep, IsRun, IsPlaceWithin, place, recorded}
use Rattle.rsc_engine.specs.Searches.{Search}

-- a step leads from the one state and position to the other
abbrev pub Leads : Search → ℕ × ℕ → ℕ × ℕ → Type 0
Leads e p q = IsStep e.states e.terminator e.word_chars e.haystack e.end p q

-- the state is there, and the position is in the span
abbrev pub IsPlace : Search → ℕ × ℕ → Type 0
IsPlace e p = IsPlaceWithin e.states e.start e.end p

-- the pattern may match
abbrev pub is_allowed : Option ℕ → ℕ → Bool
is_allowed None q = true
is_allowed (Some p) q = p == q

-- the state accepts a pattern that may match
abbrev pub is_accepting : Option ℕ → Option State → Bool
is_accepting wanted (Some (Accept q)) = is_allowed wanted q
is_accepting wanted _ = false

-- the state of the place accepts a pattern that may match
abbrev pub accepts : Search → ℕ × ℕ → Bool
accepts e p = is_accepting (only_pattern e.mode) (slice_get e.states p.0)

-- the list is a run from a place to a match
pub record IsMatchRun (e : Search) (from : ℕ × ℕ) (run : List (ℕ × ℕ)) : Type 0 where
  pub is_run : IsRun e.states e.terminator e.word_chars e.haystack e.start e.end run
  pub some : 0 < length run
  pub begins : place run 0 ≡ from
  pub ends : accepts e (place run (length run - 1)) ≡ true

-- no run leads to a match from the state at which matches begin, at the position
abbrev pub HasNoMatchFrom : Search → ℕ → Type 0
HasNoMatchFrom e at = (run : List (ℕ × ℕ)) → ¬ (IsMatchRun e (e.start_state, at) run)

-- the match has the ends of the run and the pattern of its last state
pub record IsMatchOf (e : Search) (run : List (ℕ × ℕ)) (found : Matched) : Type 0 where
  pub pattern : slice_get e.states (place run (length run - 1)).0 ≡ Some (Accept found.pattern)
  pub start : found.span.start ≡ (place run 0).1
  pub end : found.span.end ≡ (place run (length run - 1)).1

-- each slot holds what the run records in it
abbrev pub AreRecords : Search → List (ℕ × ℕ) → List (Option ℕ) → Type 0
AreRecords e run slots = (s : ℕ) → s < length slots → slice_index_or slots s None ≡ recorded e.states run s
