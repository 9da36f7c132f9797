-- A text with all matches of a program replaced.
use Rattle.std.specs.Prelude.{◌≡◌, ℕ, zero, suc, Bool, List, [], ◌∷◌, ◌++◌, drop, slice_range}
use Rattle.rsc_search.specs.Matches.{Matched}
use Rattle.rsc_captures.specs.Captured.{Captured}
use Rattle.rsc_engine.specs.Searches.{search_in}
use Rattle.rsc_engine.specs.PatternMatches.{HasSlotsOf}
use Rattle.rsc_engine.specs.NextMatches.{MatchesLeft, IsNextMatch, IsOver, after}
use Rattle.rsc_replace.specs.Templates.{filled}

-- a match with its captures
pub record MatchWithCaptures : Type 0 where
  pub found : Matched
  pub captures : Captured

-- these are all matches of what is left, in order, each with its captures, which have a slot for each group
abbrev pub AreAllWithCaptures : {W : Type 0} → (W → ℕ → Bool) → MatchesLeft W → List MatchWithCaptures → Type 0
AreAllWithCaptures chars left [] = IsOver (search_in chars left.program left.input) left.last
AreAllWithCaptures chars left (m ∷ rest) =
    IsNextMatch (search_in chars left.program left.input) left.last m.captures m.found
    × HasSlotsOf left.program m.captures
    × AreAllWithCaptures chars (after left m.found) rest

-- the text from a position on, with each match replaced by what the template stands for; between matches are the text's own bytes
abbrev pub with_matches_filled : List ℕ → List ℕ → ℕ → List MatchWithCaptures → List ℕ
with_matches_filled text template from [] = drop from text
with_matches_filled text template from (m ∷ rest) =
    slice_range text from m.found.span.start ++ (filled text m.captures template ++ with_matches_filled text template m.found.span.end rest)

-- these bytes are the rest of the haystack, with all matches that are left replaced
abbrev pub IsReplaced : {W : Type 0} → (W → ℕ → Bool) → List ℕ → MatchesLeft W → List ℕ → Type 0
IsReplaced chars template left out =
    (all : List MatchWithCaptures) × AreAllWithCaptures chars left all × (out ≡ with_matches_filled left.input.haystack template left.input.span.start all)

-- these are the first matches of what is left, in order: `most` of them, or all, if there are fewer
abbrev pub AreFirstWithCaptures : {W : Type 0} → (W → ℕ → Bool) → ℕ → MatchesLeft W → List MatchWithCaptures → Type 0
AreFirstWithCaptures chars zero left first = first ≡ []
AreFirstWithCaptures chars (suc most) left [] = IsOver (search_in chars left.program left.input) left.last
AreFirstWithCaptures chars (suc most) left (m ∷ rest) =
    IsNextMatch (search_in chars left.program left.input) left.last m.captures m.found
    × HasSlotsOf left.program m.captures
    × AreFirstWithCaptures chars most (after left m.found) rest

-- these bytes are the rest of the haystack, with the first `most` matches that are left replaced, or all, if there are fewer
abbrev pub IsReplacedUpTo : {W : Type 0} → (W → ℕ → Bool) → List ℕ → ℕ → MatchesLeft W → List ℕ → Type 0
IsReplacedUpTo chars template most left out =
    (first : List MatchWithCaptures) × AreFirstWithCaptures chars most left first
    × (out ≡ with_matches_filled left.input.haystack template left.input.span.start first)
