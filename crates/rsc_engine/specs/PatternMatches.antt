-- Which match of patterns is first, and which is next, by the patterns alone; `last` is where the last one ended, if there was one.
use Rattle.std.specs.Prelude.{◌≡◌, ℕ, ◌+◌, ◌*◌, ◌<◌, ◌≤◌, ◌⊎◌, Bool, true, List, length, slice_index_or, Option, Some, None, option_and_then}
use Rattle.std.specs.Option.{option_map}
use Rattle.rsc_primitives.specs.Decoding.{IsCharBoundary}
use Rattle.rsc_captures.specs.Captured.{Captured}
use Rattle.rsc_captures.specs.Groups.{GroupLists, all_group_count}
use Rattle.rsc_search.specs.declared.anchored.Anchored.TheVariants.{No}
use Rattle.rsc_search.specs.Inputs.{InputParts}
use Rattle.rsc_search.specs.declared.span.Span.{Span}
use Rattle.rsc_search.specs.Matches.{Matched}
use Rattle.rsc_engine.specs.Searches.{Search, Compiled, search_in}
use Rattle.rsc_engine.specs.Preferred.{MayBegin, HasNoFirstMatch, IsFirstMatch}
use Rattle.rsc_engine.specs.NextMatches.{IsNextMatch, IsOver}
use Rattle.rsc_engine.specs.Patterns.{Pattern, IsMatchIn, subject_of}
use Rattle.rsc_engine.specs.Ways.{last_in}
use Rattle.rsc_engine.specs.GroupNumbers.{as_whole}
use Rattle.rsc_engine.specs.PreferredWays.{IsPreferredWay}

-- no pattern goes from the position, within the span
abbrev pub NoneGoesFrom : List Pattern → Search → ℕ → Type 0
NoneGoesFrom patterns e at = (other : Matched) → other.span.start ≡ at → ¬ (IsMatchIn patterns e other)

-- of the patterns that go from the match's start it is of the least one, goes that pattern's preferred way, and makes these records
pub record IsPreferredOfPatterns (patterns : List Pattern) (lists : GroupLists) (e : Search) (found : Matched) (records : List (ℕ × ℕ)) : Type 0 where
  pub is_in : IsMatchIn patterns e found
  pub least : (other : Matched) → IsMatchIn patterns e other → other.span.start ≡ found.span.start → found.pattern ≤ other.pattern
  pub way : IsPreferredWay (subject_of e) (as_whole lists found.pattern is_in.pattern) (λ j. j ≤ e.end) found.span.start found.span.end records

-- the captures are of the match's pattern, and each slot holds what was recorded in it last
pub record HoldRecords (captures : Captured) (found : Matched) (records : List (ℕ × ℕ)) : Type 0 where
  pub pattern : captures.pattern ≡ Some found.pattern
  pub slots : (slot : ℕ) → slot < length captures.offsets → slice_index_or captures.offsets slot None ≡ last_in records slot

-- the span that records give a group by its first slot: from what was recorded last in that slot to what was in the next, if both were
abbrev pub recorded_span : List (ℕ × ℕ) → ℕ → Option Span
recorded_span records slot =
    option_and_then (λ from. option_map (λ to. record { start = from; end = to }) (last_in records (slot + 1))) (last_in records slot)

-- the match begins where one may, it's the preferred one from there, and no pattern goes from an earlier position of the span
pub record IsFirstOfPatterns (patterns : List Pattern) (lists : GroupLists) (e : Search) (captures : Captured) (found : Matched) : Type 0 where
  pub records : List (ℕ × ℕ)
  pub begins : MayBegin e found.span.start
  pub earlier : (at : ℕ) → e.start ≤ at → at < found.span.start → NoneGoesFrom patterns e at
  pub preferred : IsPreferredOfPatterns patterns lists e found records
  pub hold : HoldRecords captures found records

-- no pattern goes from where a match may begin
abbrev pub HasNoneOfPatterns : List Pattern → Search → Type 0
HasNoneOfPatterns patterns e = (at : ℕ) → MayBegin e at → NoneGoesFrom patterns e at

-- the match is empty, and where the last one ended
pub record Repeats (last : Option ℕ) (found : Matched) : Type 0 where
  pub empty : found.span.start ≡ found.span.end
  pub there : last ≡ Some found.span.start

-- haystacks are text, and the match is empty and not at a character boundary
pub record Splits (e : Search) (found : Matched) : Type 0 where
  pub utf8 : e.utf8 ≡ true
  pub empty : found.span.start ≡ found.span.end
  pub within : ¬ (IsCharBoundary e.haystack found.span.start)

-- the preferred match from the position is such a one
pub record PrefersThere (patterns : List Pattern) (lists : GroupLists) (e : Search) (at : ℕ) (IsSuch : Matched → Type 0) : Type 0 where
  pub found : Matched
  pub records : List (ℕ × ℕ)
  pub start : found.span.start ≡ at
  pub preferred : IsPreferredOfPatterns patterns lists e found records
  pub is_such : IsSuch found

-- a position is left out exactly if no pattern goes from it, or the preferred match there is empty, and where the last one ended or within a character
abbrev pub IsLeftOutOfPatterns : List Pattern → GroupLists → Search → Option ℕ → ℕ → Type 0
IsLeftOutOfPatterns patterns lists e last at =
    NoneGoesFrom patterns e at ⊎ (PrefersThere patterns lists e at (Repeats last) ⊎ PrefersThere patterns lists e at (Splits e))

-- the next match may begin at the position: it's in the span, and if the search is anchored, at each earlier one the match would repeat the last one
pub record MayBeNextOfPatterns (patterns : List Pattern) (lists : GroupLists) (e : Search) (last : Option ℕ) (at : ℕ) : Type 0 where
  pub start : e.start ≤ at
  pub end : at ≤ e.end
  pub anchored : ¬ (e.mode ≡ No) → (earlier : ℕ) → e.start ≤ earlier → earlier < at → PrefersThere patterns lists e earlier (Repeats last)

-- the match begins where the next one may, it's the preferred one from there, repeats and splits nothing, and each earlier position at which it may is left out
pub record IsNextOfPatterns (patterns : List Pattern) (lists : GroupLists) (e : Search) (last : Option ℕ) (captures : Captured) (found : Matched) : Type 0 where
  pub records : List (ℕ × ℕ)
  pub begins : MayBeNextOfPatterns patterns lists e last found.span.start
  pub preferred : IsPreferredOfPatterns patterns lists e found records
  pub no_repeat : ¬ (Repeats last found)
  pub splits_none : ¬ (Splits e found)
  pub left_out : (at : ℕ) → at < found.span.start → MayBeNextOfPatterns patterns lists e last at → IsLeftOutOfPatterns patterns lists e last at
  pub hold : HoldRecords captures found records

-- each position at which the next match may begin is left out
abbrev pub IsOverOfPatterns : List Pattern → GroupLists → Search → Option ℕ → Type 0
IsOverOfPatterns patterns lists e last = (at : ℕ) → MayBeNextOfPatterns patterns lists e last at → IsLeftOutOfPatterns patterns lists e last at

-- in every input, the first match and the next one of the program are those of the patterns
pub record AnswersAs {W : Type 0} (chars : W → ℕ → Bool) (program : Compiled W) (patterns : List Pattern) : Type 0 where
  pub first : (input : InputParts) (captures : Captured) (found : Matched) → IsFirstMatch (search_in chars program input) captures found →
      IsFirstOfPatterns patterns program.automaton.groups (search_in chars program input) captures found
  pub none : (input : InputParts) → HasNoFirstMatch (search_in chars program input) → HasNoneOfPatterns patterns (search_in chars program input)
  pub next : (input : InputParts) (last : Option ℕ) (captures : Captured) (found : Matched) →
      IsNextMatch (search_in chars program input) last captures found →
      IsNextOfPatterns patterns program.automaton.groups (search_in chars program input) last captures found
  pub over : (input : InputParts) (last : Option ℕ) → IsOver (search_in chars program input) last →
      IsOverOfPatterns patterns program.automaton.groups (search_in chars program input) last

-- the captures are of the program's groups, and have a slot for each
abbrev pub HasSlotsOf : {W : Type 0} → Compiled W → Captured → Type 0
HasSlotsOf program captures = (captures.groups ≡ program.automaton.groups) × (length captures.offsets ≡ 2 * all_group_count program.automaton.groups)
