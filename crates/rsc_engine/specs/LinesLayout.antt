-- Where the next line with a match may be.
use Rattle.std.specs.Prelude.{ℕ, ◌<◌, ◌≤◌, Bool, false, List, length}
use Rattle.rsc_search.specs.declared.anchored.Anchored.TheVariants.{No}
use Rattle.rsc_search.specs.declared.span.Span.{Span}
use Rattle.rsc_engine.specs.Searches.{Search, Compiled, search_in}
use Rattle.rsc_engine.specs.Ends.{IsMatchEnd}
use Rattle.rsc_engine.specs.Lines.{IsLine, NoSuchLine}

-- the search of a haystack from a position on
abbrev pub search_from : {W : Type 0} → (W → ℕ → Bool) → Compiled W → List ℕ → ℕ → Search
search_from chars program haystack from =
    search_in chars program (record { haystack = haystack; span = record { start = from; end = length haystack }; anchored = No; earliest = false })

-- no match ends before the position, which is in the span
pub record EndsFrom (e : Search) (at : ℕ) : Type 0 where
  pub from : e.start ≤ at
  pub within : at ≤ e.end
  pub none_before : (j : ℕ) → j < at → ¬ (IsMatchEnd e j)

-- a line from the position on before which no line from there on is such a one
pub record IsCandidate (haystack : List ℕ) (IsSuch : Span → Type 0) (at : ℕ) (line : Span) : Type 0 where
  pub is_line : IsLine haystack line
  pub from : at ≤ line.start
  pub none_before : NoSuchLine haystack IsSuch at line.start
