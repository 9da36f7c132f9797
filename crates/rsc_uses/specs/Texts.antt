-- Where a pattern goes in a text.
use Rattle.std.specs.Prelude.{◌≡◌, ℕ, ◌<◌, ◌≤◌, Bool, true, List, [], length, slice_index_or, Option, None}
use Rattle.rsc_search.specs.declared.anchored.Anchored.TheVariants.{No}
use Rattle.rsc_search.specs.declared.span.Span.{Span}
use Rattle.rsc_search.specs.Inputs.{InputParts}
use Rattle.rsc_search.specs.Modes.{only_pattern}
use Rattle.rsc_engine.specs.Patterns.{Pattern, Subject, Goes}
use Rattle.rsc_engine.specs.Runs.{is_allowed}
use Rattle.rsc_engine.specs.Ways.{last_in}
use Rattle.rsc_engine.specs.FirstWays.{IsFirstWay}
use Rattle.rsc_engine.specs.PreferredWays.{IsPreferredWay}

-- a text whose lines end by \n
abbrev pub text_of : List ℕ → (ℕ → Bool) → Subject
text_of haystack chars = record { haystack = haystack; terminator = 10; word_chars = chars }

-- the pattern goes nowhere in the text from a position before this one
abbrev pub GoesNowhereBefore : Subject → Pattern → ℕ → Type 0
GoesNowhereBefore x p at = (i j : ℕ) → i < at → j ≤ length x.haystack → ¬ (Goes x p i j)

-- the pattern goes nowhere in the text
abbrev pub GoesNowhere : Subject → Pattern → Type 0
GoesNowhere x p = (i j : ℕ) → i ≤ length x.haystack → j ≤ length x.haystack → ¬ (Goes x p i j)

-- the only pattern of a program goes nowhere in the input's span from a position at which a match may begin
abbrev pub GoesNowhereIn : InputParts → (ℕ → Bool) → Pattern → Type 0
GoesNowhereIn input chars p =
    (i j : ℕ) → input.span.start ≤ i → i ≤ input.span.end → (¬ (input.anchored ≡ No) → i ≡ input.span.start)
    → is_allowed (only_pattern input.anchored) 0 ≡ true → j ≤ input.span.end → ¬ (Goes (text_of input.haystack chars) p i j)

-- of the pattern's ways from the span's start to positions up to a last one, the first leads to the span's end, and the slots hold what it records in them last
abbrev pub HoldsFirstWay : Subject → Pattern → ℕ → Span → List (Option ℕ) → Type 0
HoldsFirstWay x p most span offsets =
    (records : List (ℕ × ℕ)) × IsFirstWay x p (λ j. j ≤ most) (span.start, []) (span.end, records)
    × ((slot : ℕ) → slot < length offsets → slice_index_or offsets slot None ≡ last_in records slot)

-- the pattern's preferred way to positions up to a last one leads from i to j
abbrev pub EndsPreferredWay : Subject → Pattern → ℕ → ℕ → ℕ → Type 0
EndsPreferredWay x p most i j = (records : List (ℕ × ℕ)) × IsPreferredWay x p (λ k. k ≤ most) i j records

-- the pattern's preferred way from the span's start to positions up to a last one leads to the span's end, and the slots hold what it records in them last
abbrev pub HoldsPreferredWay : Subject → Pattern → ℕ → Span → List (Option ℕ) → Type 0
HoldsPreferredWay x p most span offsets =
    (records : List (ℕ × ℕ)) × IsPreferredWay x p (λ j. j ≤ most) span.start span.end records
    × ((slot : ℕ) → slot < length offsets → slice_index_or offsets slot None ≡ last_in records slot)
