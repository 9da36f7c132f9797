-- Where matches end.
use Rattle.std.specs.Prelude.{◌≡◌, ℕ, ◌-◌, ◌<◌, List, length}
use Rattle.rsc_nfa.specs.Steps.{place}
use Rattle.rsc_engine.specs.Searches.{Search}
use Rattle.rsc_engine.specs.Runs.{IsMatchRun}
use Rattle.rsc_engine.specs.Preferred.{MayBegin, IsLeftmostFirst}

-- a match run that begins where a match may begin ends at the position
pub record IsMatchEnd (e : Search) (i : ℕ) : Type 0 where
  pub from : ℕ
  pub run : List (ℕ × ℕ)
  pub begins : MayBegin e from
  pub is_match : IsMatchRun e (e.start_state, from) run
  pub ends : (place run (length run - 1)).1 ≡ i

-- some match run ends at the position, and none ends earlier
pub record IsEarliestEnd (e : Search) (i : ℕ) : Type 0 where
  pub ends : IsMatchEnd e i
  pub none_before : (j : ℕ) → j < i → ¬ (IsMatchEnd e j)

-- the leftmost-first match ends at the position
pub record IsLeftmostEnd (e : Search) (i : ℕ) : Type 0 where
  pub run : List (ℕ × ℕ)
  pub is_first : IsLeftmostFirst e run
  pub ends : (place run (length run - 1)).1 ≡ i
