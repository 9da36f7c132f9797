-- The log of the backward pass. These serve the proof of `dfa`; no public contract cites them.
use Rattle.std.specs.Prelude.{◌≡◌, ℕ, ◌+◌, ◌-◌, ◌<◌, ◌≤◌, List, length, slice_get, slice_index_or, Some}
use Rattle.rsc_engine.specs.declared.dfa.pass_table.PassRow.{PassRow}
use Rattle.rsc_nfa.specs.Steps.{place}
use Rattle.rsc_engine.specs.Searches.{Search}
use Rattle.rsc_engine.specs.Preferred.{IsLeftmostFirst}
use Rattle.rsc_engine.specs.DecidesLayout.{last_of}
use Rattle.rsc_engine.specs.BackwardLayout.{AreBefore, IsBegun, StandsBackward}

-- the log names the row of the position before b: it has the states that arrive over the byte there, and knows whether a match begins at b. Its first entry
-- is for the span's end
pub record IsLoggedAt (e : Search) (rows : List PassRow) (log : List ℕ) (b : ℕ) : Type 0 where
  pub within : e.end + 1 - b < length log
  pub row : PassRow
  pub there : slice_get rows (slice_index_or log (e.end + 1 - b) 0) ≡ Some row
  pub before : AreBefore e b row.list.items
  pub begun : IsBegun e b row.begins

-- it does so for each b from `from` on
abbrev pub IsLogged : Search → ℕ → List PassRow → List ℕ → Type 0
IsLogged e from rows log = (b : ℕ) → from ≤ b → b ≤ e.end + 1 → IsLoggedAt e rows log b

-- if the leftmost-first match ends where the span does, it begins at the position, and the log names the rows from there on
abbrev pub IsLoggedFirst : Search → ℕ → List PassRow → List ℕ → Type 0
IsLoggedFirst e at rows log =
    (run : List (ℕ × ℕ)) → IsLeftmostFirst e run → (last_of run).1 ≡ e.end → ((place run 0).1 ≡ at) × IsLogged e at rows log

-- the log of a pass that has come to b
pub record IsLogOf (e : Search) (b : ℕ) (rows : List PassRow) (log : List ℕ) : Type 0 where
  pub count : b + length log ≡ e.end + 2
  pub each : IsLogged e b rows log

-- the backward pass has come to the row of position i, and so has the log
pub record IsBackAt (e : Search) (classes : List ℕ) (rows : List PassRow) (k i least : ℕ) (log : List ℕ) : Type 0 where
  pub stands : StandsBackward e classes rows k (i + 1) least
  pub logged : IsLogOf e (i + 1) rows log
