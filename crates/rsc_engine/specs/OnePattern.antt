-- What a program of one pattern answers, by the pattern alone: where it goes first, where next, and that it goes nowhere. `last` is where the last match ended,
-- if there was one.
use Rattle.std.specs.Prelude.{◌≡◌, ℕ, ◌<◌, ◌≤◌, ◌⊎◌, Bool, true, List, [], ◌∷◌, Option, Some}
use Rattle.rsc_primitives.specs.Decoding.{IsCharBoundary}
use Rattle.rsc_search.specs.declared.anchored.Anchored.TheVariants.{No}
use Rattle.rsc_search.specs.declared.span.Span.{Span}
use Rattle.rsc_search.specs.Inputs.{InputParts}
use Rattle.rsc_search.specs.Matches.{Matched}
use Rattle.rsc_search.specs.Modes.{only_pattern}
use Rattle.rsc_captures.specs.Captured.{Captured}
use Rattle.rsc_captures.specs.Groups.{Groups}
use Rattle.rsc_engine.specs.Runs.{is_allowed}
use Rattle.rsc_engine.specs.Patterns.{Pattern, Subject, Goes}
use Rattle.rsc_engine.specs.GroupNumbers.{as_whole}
use Rattle.rsc_engine.specs.PreferredWays.{IsPreferredWay}
use Rattle.rsc_engine.specs.PatternMatches.{HoldRecords}

-- a haystack as a subject, by a line terminator and word characters
abbrev pub subject_in : {W : Type 0} → (W → ℕ → Bool) → List ℕ → ℕ × W → Subject
subject_in chars haystack matcher = record { haystack = haystack; terminator = matcher.0; word_chars = chars matcher.1 }

-- the match is of the only pattern, which goes from its start to its end, in the input's span and in its preferred way; the slots hold what that way records
pub record IsMatchOfOne (x : Subject) (p : Pattern) (groups : Groups) (input : InputParts) (captures : Captured) (found : Matched) : Type 0 where
  pub number : found.pattern ≡ 0
  pub start : input.span.start ≤ found.span.start
  pub end : found.span.end ≤ input.span.end
  pub goes : Goes x p found.span.start found.span.end
  pub records : List (ℕ × ℕ)
  pub way : IsPreferredWay x (as_whole (groups ∷ []) 0 p) (λ j. j ≤ input.span.end) found.span.start found.span.end records
  pub hold : HoldRecords captures found records

-- the pattern goes nowhere in the input's span from a position before this one
abbrev pub GoesNowhereBefore : Subject → Pattern → InputParts → ℕ → Type 0
GoesNowhereBefore x p input at = (i j : ℕ) → input.span.start ≤ i → i < at → j ≤ input.span.end → ¬ (Goes x p i j)

-- the pattern, if it may match, goes nowhere in the input's span from a position at which a match may begin
abbrev pub GoesNowhereIn : Subject → Pattern → InputParts → Type 0
GoesNowhereIn x p input = is_allowed (only_pattern input.anchored) 0 ≡ true → (i j : ℕ) → input.span.start ≤ i → i ≤ input.span.end
    → (¬ (input.anchored ≡ No) → i ≡ input.span.start) → j ≤ input.span.end → ¬ (Goes x p i j)

-- the only pattern's preferred way from i to positions up to the end leads to j, and makes these records
pub record IsWayOfOne (x : Subject) (p : Pattern) (groups : Groups) (end i j : ℕ) (records : List (ℕ × ℕ)) : Type 0 where
  pub within : j ≤ end
  pub goes : Goes x p i j
  pub way : IsPreferredWay x (as_whole (groups ∷ []) 0 p) (λ k. k ≤ end) i j records

-- the only pattern's preferred way from the position is empty
abbrev pub StaysAt : Subject → Pattern → Groups → ℕ → ℕ → Type 0
StaysAt x p groups end at = (records : List (ℕ × ℕ)) × IsWayOfOne x p groups end at at records

-- an empty match at the position is left out: the last match ended there, or haystacks are text and the position is within a character
abbrev pub IsEmptyMatchLeftOut : Bool → List ℕ → Option ℕ → ℕ → Type 0
IsEmptyMatchLeftOut utf8 haystack last at = (last ≡ Some at) ⊎ ((utf8 ≡ true) × (¬ (IsCharBoundary haystack at)))

-- no match is taken at the position: the pattern goes nowhere from there up to the end, or its preferred way is empty and left out
abbrev pub IsLeftOutOfOne : Subject → Pattern → Groups → Bool → ℕ → Option ℕ → ℕ → Type 0
IsLeftOutOfOne x p groups utf8 end last at =
    ((j : ℕ) → j ≤ end → ¬ (Goes x p at j)) ⊎ (StaysAt x p groups end at × IsEmptyMatchLeftOut utf8 x.haystack last at)

-- the next match may begin at the position: it's in the span, and if the search is anchored, at each earlier one the match would repeat the last one
pub record MayBeNextOfOne (x : Subject) (p : Pattern) (groups : Groups) (input : InputParts) (last : Option ℕ) (at : ℕ) : Type 0 where
  pub start : input.span.start ≤ at
  pub end : at ≤ input.span.end
  pub anchored : ¬ (input.anchored ≡ No) → (earlier : ℕ) → input.span.start ≤ earlier → earlier < at
      → StaysAt x p groups input.span.end earlier × (last ≡ Some earlier)

-- a match at the span is the next one: it may begin there, it's no empty match that is left out, and each earlier position of the input's span is left out
pub record IsNextOfOne (x : Subject) (p : Pattern) (groups : Groups) (utf8 : Bool) (input : InputParts) (last : Option ℕ) (span : Span) : Type 0 where
  pub begins : MayBeNextOfOne x p groups input last span.start
  pub taken : span.start ≡ span.end → ¬ (IsEmptyMatchLeftOut utf8 x.haystack last span.start)
  pub left_out : (at : ℕ) → input.span.start ≤ at → at < span.start → IsLeftOutOfOne x p groups utf8 input.span.end last at

-- each position at which the next match may begin is left out, if the pattern may match
abbrev pub IsOverOfOne : Subject → Pattern → Groups → Bool → InputParts → Option ℕ → Type 0
IsOverOfOne x p groups utf8 input last = is_allowed (only_pattern input.anchored) 0 ≡ true → (at : ℕ)
    → MayBeNextOfOne x p groups input last at → IsLeftOutOfOne x p groups utf8 input.span.end last at
