-- Which match is next; `last` is where the last one ended, if there was one.
use Rattle.std.specs.Prelude.{◌≡◌, ℕ, ◌+◌, ◌-◌, ◌<◌, ◌≤◌, ◌⊎◌, Bool, true, List, [], ◌∷◌, length, Option, Some, None}
use Rattle.rsc_nfa.specs.Steps.{place}
use Rattle.rsc_primitives.specs.Decoding.{IsCharBoundary}
use Rattle.rsc_search.specs.declared.anchored.Anchored.TheVariants.{No}
use Rattle.rsc_search.specs.Inputs.{InputParts}
use Rattle.rsc_search.specs.Matches.{Matched}
use Rattle.rsc_captures.specs.Captured.{Captured}
use Rattle.rsc_engine.specs.Searches.{Search, Compiled, search_in}
use Rattle.rsc_engine.specs.Runs.{HasNoMatchFrom}
use Rattle.rsc_engine.specs.Preferred.{IsPreferred, IsMatchWithRecords}

-- the match is empty
abbrev pub IsEmpty : List (ℕ × ℕ) → Type 0
IsEmpty run = (place run 0).1 ≡ (place run (length run - 1)).1

-- the match is empty, and where the last one ended
pub record IsRepeat (last : Option ℕ) (run : List (ℕ × ℕ)) : Type 0 where
  pub empty : IsEmpty run
  pub there : last ≡ Some (place run 0).1

-- the program takes haystacks for text, and the match is empty and not at a character boundary
pub record SplitsCharacter (e : Search) (run : List (ℕ × ℕ)) : Type 0 where
  pub utf8 : e.utf8 ≡ true
  pub empty : IsEmpty run
  pub within : ¬ (IsCharBoundary e.haystack (place run 0).1)

-- the preferred match from the position is a repeat
pub record IsRepeatAt (e : Search) (last : Option ℕ) (at : ℕ) : Type 0 where
  pub run : List (ℕ × ℕ)
  pub preferred : IsPreferred e (e.start_state, at) run
  pub repeats : IsRepeat last run

-- the preferred match from the position splits a character
pub record SplitsAt (e : Search) (at : ℕ) : Type 0 where
  pub run : List (ℕ × ℕ)
  pub preferred : IsPreferred e (e.start_state, at) run
  pub splits : SplitsCharacter e run

-- no match begins at the position, or the preferred one is a repeat or splits a character
abbrev pub IsLeftOutAt : Search → Option ℕ → ℕ → Type 0
IsLeftOutAt e last at = HasNoMatchFrom e at ⊎ (IsRepeatAt e last at ⊎ SplitsAt e at)

-- the next match may begin at the position: it's in the span, and if the search is anchored, at each earlier one there is a repeat
pub record MayBeNext (e : Search) (last : Option ℕ) (at : ℕ) : Type 0 where
  pub start : e.start ≤ at
  pub end : at ≤ e.end
  pub anchored : ¬ (e.mode ≡ No) → (earlier : ℕ) → e.start ≤ earlier → earlier < at → IsRepeatAt e last earlier

-- the run begins where the next match may, it's the preferred one from there, repeats and splits nothing, and each earlier position at which it may is left out
pub record IsNextRun (e : Search) (last : Option ℕ) (run : List (ℕ × ℕ)) : Type 0 where
  pub begins : MayBeNext e last (place run 0).1
  pub preferred : IsPreferred e (e.start_state, (place run 0).1) run
  pub no_repeat : ¬ (IsRepeat last run)
  pub splits_none : ¬ (SplitsCharacter e run)
  pub left_out : (at : ℕ) → at < (place run 0).1 → MayBeNext e last at → IsLeftOutAt e last at

-- each position at which the next match may begin is left out
abbrev pub IsOver : Search → Option ℕ → Type 0
IsOver e last = (at : ℕ) → MayBeNext e last at → IsLeftOutAt e last at

-- the match and the captures are those of the next run
pub record IsNextMatch (e : Search) (last : Option ℕ) (captures : Captured) (found : Matched) : Type 0 where
  pub run : List (ℕ × ℕ)
  pub is_next : IsNextRun e last run
  pub is_of : IsMatchWithRecords e run found captures

-- what is left of an iteration: the program, the input from where the next match may begin, and where the last one ended
pub record MatchesLeft (W : Type 0) : Type 0 where
  pub program : Compiled W
  pub input : InputParts
  pub last : Option ℕ

-- the input from another start on
abbrev pub with_start : InputParts → ℕ → InputParts
with_start input at = record input { span = record { start = at; end = input.span.end } }

-- what is left after a match
abbrev pub after : {W : Type 0} → MatchesLeft W → Matched → MatchesLeft W
after left found = record { program = left.program; input = with_start left.input found.span.end; last = Some found.span.end }

-- how many calls of `next` may find a match yet, at most, by the span's end and where the last match ended: each match ends later than the one before it
abbrev pub calls_left : ℕ → Option ℕ → ℕ
calls_left end None = end + 2
calls_left end (Some last) = end + 1 - last

-- the match is the next one of what is left, in some captures
abbrev pub IsNextOfLeft : {W : Type 0} → (W → ℕ → Bool) → MatchesLeft W → Matched → Type 0
IsNextOfLeft chars left found = (captures : Captured) × IsNextMatch (search_in chars left.program left.input) left.last captures found

-- these are all matches of what is left, in order: each is the next one after those before it, and after the last there is none
abbrev pub AreAllMatches : {W : Type 0} → (W → ℕ → Bool) → MatchesLeft W → List Matched → Type 0
AreAllMatches chars left [] = IsOver (search_in chars left.program left.input) left.last
AreAllMatches chars left (found ∷ rest) = IsNextOfLeft chars left found × AreAllMatches chars (after left found) rest
