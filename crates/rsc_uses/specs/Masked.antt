-- Texts with matches masked.
use Rattle.std.specs.Prelude.{◌≡◌, ◌⊎◌, ℕ, List, [], ◌∷◌, ◌++◌, drop, slice_range, None}
use Rattle.rsc_search.specs.Matches.{Matched}
use Rattle.rsc_captures.specs.Captured.{Captured}
use Rattle.rsc_engine.specs.Searches.{Search}
use Rattle.rsc_engine.specs.NextMatches.{IsNextMatch, IsOver}

-- the text from a position on, with the same bytes where each of the matches is
abbrev pub masked : List ℕ → List ℕ → ℕ → List Matched → List ℕ
masked text mask from [] = drop from text
masked text mask from (found ∷ rest) = slice_range text from found.span.start ++ (mask ++ masked text mask found.span.end rest)

-- the text with a mask where the search's first match is, or as it is if there is none
abbrev pub IsFirstMasked : Search → List ℕ → List ℕ → List ℕ → Type 0
IsFirstMasked e text mask out =
    ((out ≡ text) × IsOver e None)
    ⊎ ((found : Matched) × (captures : Captured) × IsNextMatch e None captures found
    × (out ≡ slice_range text 0 found.span.start ++ (mask ++ drop found.span.end text)))
