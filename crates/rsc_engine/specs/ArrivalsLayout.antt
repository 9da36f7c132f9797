-- From where a match is reached. These serve the proof of `dfa`; no public contract cites them.
use Rattle.std.specs.Prelude.{◌≡◌, ℕ, ◌+◌, true, List}
use Rattle.rsc_engine.specs.Searches.{Search}
use Rattle.rsc_engine.specs.Runs.{Leads, IsPlace, accepts, IsMatchRun}

-- a run leads from the state at the position to a match
pub record Arrives (e : Search) (s i : ℕ) : Type 0 where
  pub run : List (ℕ × ℕ)
  pub is_match : IsMatchRun e (s, i) run

-- one does whose first step is over a byte
pub record ArrivesOver (e : Search) (s i : ℕ) : Type 0 where
  pub to : ℕ
  pub there : IsPlace e (s, i)
  pub leads : Leads e (s, i) (to, i + 1)
  pub arrives : Arrives e to (i + 1)

-- the same, or the place is a match
pub data ArrivesAtOnce (e : Search) (i s : ℕ) : Type 0 where
  here : IsPlace e (s, i) → accepts e (s, i) ≡ true → ArrivesAtOnce e i s
  over : ArrivesOver e s i → ArrivesAtOnce e i s

-- the states from which steps with no byte lead to those of which it is so
pub data LeadsBack (e : Search) (i : ℕ) (Seed : ℕ → Type 0) : ℕ → Type 0 where
  seed : (s : ℕ) → Seed s → LeadsBack e i Seed s
  back : (s t : ℕ) → IsPlace e (s, i) → Leads e (s, i) (t, i) → LeadsBack e i Seed t → LeadsBack e i Seed s
