-- What a lexer finds.
use Rattle.std.specs.Prelude.{◌≡◌, ℕ, ◌<◌, ◌≤◌, true, List, [], ◌∷◌, length, slice_get, Option, Some}
use Rattle.rsc_captures.specs.Groups.{GroupLists, group_count, slot_number}
use Rattle.rsc_search.specs.declared.span.Span.{Span}
use Rattle.rsc_search.specs.Matches.{Matched}
use Rattle.rsc_engine.specs.Patterns.{Pattern, Subject, Goes}
use Rattle.rsc_engine.specs.FirstEnds.{loops_take_bytes, IsFirstEnd}
use Rattle.rsc_engine.specs.GroupNumbers.{as_whole}
use Rattle.rsc_engine.specs.PreferredWays.{IsPreferredWay}
use Rattle.rsc_engine.specs.PatternMatches.{recorded_span}
use Rattle.rsc_uses.specs.Texts.{EndsPreferredWay}

-- no pattern with a number below the given one goes on from the position
abbrev pub NoneGoes : Subject → List Pattern → ℕ → ℕ → Type 0
NoneGoes x patterns most at =
    (number : ℕ) (pattern : Pattern) (to : ℕ) → number < most → slice_get patterns number ≡ Some pattern → to ≤ length x.haystack
    → ¬ (Goes x pattern at to)

-- the token at a position: its pattern goes its preferred way from there to its end, which is the first one if its loops take bytes, and no earlier pattern
-- goes on
pub record IsLexed (x : Subject) (patterns : List Pattern) (lists : GroupLists) (at : ℕ) (token : Matched) : Type 0 where
  pub pattern : Pattern
  pub its : slice_get patterns token.pattern ≡ Some pattern
  pub start : token.span.start ≡ at
  pub end : token.span.end ≤ length x.haystack
  pub goes : Goes x pattern at token.span.end
  pub way : EndsPreferredWay x (as_whole lists token.pattern pattern) (length x.haystack) at token.span.end
  pub first_end : loops_take_bytes pattern ≡ true → IsFirstEnd x pattern (λ j. j ≤ length x.haystack) at token.span.end
  pub first : NoneGoes x patterns token.pattern at

-- the tokens from a position on: each begins where the one before it ended, and from the end of the last no pattern goes on
abbrev pub AreLexed : Subject → List Pattern → GroupLists → ℕ → List Matched → Type 0
AreLexed x patterns lists at [] = NoneGoes x patterns (length patterns) at
AreLexed x patterns lists at (token ∷ rest) = IsLexed x patterns lists at token × AreLexed x patterns lists token.span.end rest

-- a token with the span of a group: what its pattern's preferred way records last in the group's slots, if the pattern has such a group
pub record IsLexedWith (x : Subject) (patterns : List Pattern) (lists : GroupLists) (group at : ℕ) (both : Matched × Option Span) : Type 0 where
  pub token : IsLexed x patterns lists at both.0
  pub span : group < group_count lists both.0.pattern →
      (records : List (ℕ × ℕ)) × IsPreferredWay x (as_whole lists both.0.pattern token.pattern) (λ j. j ≤ length x.haystack) at both.0.span.end records
      × (both.1 ≡ recorded_span records (slot_number lists both.0.pattern group))

-- such tokens from a position on
abbrev pub AreLexedWith : Subject → List Pattern → GroupLists → ℕ → ℕ → List (Matched × Option Span) → Type 0
AreLexedWith x patterns lists group at [] = NoneGoes x patterns (length patterns) at
AreLexedWith x patterns lists group at (both ∷ rest) =
    IsLexedWith x patterns lists group at both × AreLexedWith x patterns lists group both.0.span.end rest
