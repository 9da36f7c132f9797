-- What any search finds, one match after the other.
use Rattle.std.specs.Prelude.{ℕ, ◌+◌, ◌<◌, ◌≤◌, ◌⊎◌, nat_le, List, [], ◌∷◌, Option, Some, None, if◌then◌else◌}
use Rattle.rsc_search.specs.Inputs.{InputParts}
use Rattle.rsc_search.specs.declared.span.Span.{Span}
use Rattle.rsc_engine.specs.NextMatches.{with_start}

-- where a search goes on after a match: at its end, and one byte later if it's empty
abbrev pub goes_on : Span → ℕ
goes_on s = if nat_le s.end s.start then s.end + 1 else s.end

-- these are what the search finds in the input: each from where it goes on after the one before, and after the last it finds none
abbrev pub AreFound : (InputParts → Option Span → Type 0) → InputParts → List Span → Type 0
AreFound Finds input [] = (input.span.end < input.span.start) ⊎ Finds input None
AreFound Finds input (s ∷ rest) =
    (input.span.start ≤ input.span.end) × Finds input (Some s) × AreFound Finds (with_start input (goes_on s)) rest
