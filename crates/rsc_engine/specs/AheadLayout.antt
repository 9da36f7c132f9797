-- Where matches begin ahead. These serve the proof of `dfa`; no public contract cites them.
use Rattle.std.specs.Prelude.{◌≡◌, ℕ, ◌<◌, ◌≤◌, Some}
use Rattle.rsc_search.specs.Inputs.{InputParts}
use Rattle.rsc_search.specs.Matches.{Matched}
use Rattle.rsc_captures.specs.Captured.{Captured}
use Rattle.rsc_engine.specs.Searches.{Search, Compiled}
use Rattle.rsc_engine.specs.Preferred.{MayBegin}
use Rattle.rsc_engine.specs.ArrivalsLayout.{Arrives}
use Rattle.rsc_engine.specs.AlongLayout.{IsRecorded}

-- a program, and the input whose matches are ahead
pub record AheadOf (W : Type 0) : Type 0 where
  pub program : Compiled W
  pub input : InputParts

-- the search from another start on
abbrev pub start_at : Search → ℕ → Search
start_at e i = record e { start = i }

-- from a position on, the next match begins at another: one does and may there, and none does before
pub record IsNextBegin (e : Search) (from at : ℕ) : Type 0 where
  pub may : MayBegin (start_at e from) at
  pub begins : Arrives e e.start_state at
  pub none : (m : ℕ) → from ≤ m → m < at → ¬ (Arrives e e.start_state m)

-- the match is the one that begins at the position, and the captures hold what its run records
pub record IsMatchAt (e : Search) (at : ℕ) (captures : Captured) (found : Matched) : Type 0 where
  pub start : found.span.start ≡ at
  pub pattern : captures.pattern ≡ Some found.pattern
  pub recorded : IsRecorded e at found.pattern found.span.end captures.offsets

-- none begins where one may
abbrev pub HasNoBegin : Search → ℕ → Type 0
HasNoBegin e from = (at : ℕ) → MayBegin (start_at e from) at → ¬ (Arrives e e.start_state at)

-- a search is the rest of another: it's the same, but for a later start
abbrev pub IsRestOf : Search → Search → Type 0
IsRestOf whole rest = (whole.start ≤ rest.start) × (start_at whole rest.start ≡ rest)
