-- A text with all matches of one pattern replaced, said of the pattern alone.
use Rattle.std.specs.Prelude.{◌≡◌, ℕ, ◌*◌, Bool, true, List, [], ◌∷◌, length, map, Option, Some, None}
use Rattle.std.specs.List.{range_with_len}
use Rattle.rsc_search.specs.Inputs.{whole}
use Rattle.rsc_captures.specs.Captured.{Captured, group_span}
use Rattle.rsc_captures.specs.Groups.{Groups, all_group_count}
use Rattle.rsc_engine.specs.NextMatches.{with_start}
use Rattle.rsc_engine.specs.Patterns.{Pattern, Subject}
use Rattle.rsc_engine.specs.Ways.{last_in}
use Rattle.rsc_engine.specs.OnePattern.{IsWayOfOne, IsNextOfOne, IsOverOfOne}
use Rattle.rsc_replace.specs.Replacements.{MatchWithCaptures, with_matches_filled}

-- a text as a subject, whose lines end by \n
abbrev pub subject_of_text : (ℕ → Bool) → List ℕ → Subject
subject_of_text chars haystack = record { haystack = haystack; terminator = 10; word_chars = chars }

-- where a match begins and ends, and what it records in slots, the last record first
pub record Way : Type 0 where
  pub start : ℕ
  pub end : ℕ
  pub records : List (ℕ × ℕ)

-- the captures that a way leaves: in each slot of the groups what it recorded there last
abbrev pub captures_of : Groups → Way → Captured
captures_of groups w =
    record { groups = groups ∷ []; pattern = Some 0; offsets = map (last_in w.records) (range_with_len 0 (2 * all_group_count (groups ∷ []))) }

-- the match of a way
abbrev pub match_of_way : Groups → Way → MatchWithCaptures
match_of_way groups w = record { found = record { pattern = 0; span = record { start = w.start; end = w.end } }; captures = captures_of groups w }

-- the first match from a position on, by a way of the pattern; its first group is the whole match; `last` is where the one before it ended, if there was one
pub record IsNextWay (x : Subject) (groups : Groups) (p : Pattern) (last : Option ℕ) (from : ℕ) (w : Way) : Type 0 where
  pub way : IsWayOfOne x p groups (length x.haystack) w.start w.end w.records
  pub next : IsNextOfOne x p groups true (with_start (whole x.haystack) from) last (record { start = w.start; end = w.end })
  pub group : group_span (captures_of groups w) 0 ≡ Some (record { start = w.start; end = w.end })

-- these are all matches from a position on, in order
abbrev pub AreAllWays : Subject → Groups → Pattern → Option ℕ → ℕ → List Way → Type 0
AreAllWays x groups p last from [] = IsOverOfOne x p groups true (with_start (whole x.haystack) from) last
AreAllWays x groups p last from (w ∷ rest) = IsNextWay x groups p last from w × AreAllWays x groups p (Some w.end) w.end rest

-- these bytes are the text with all matches of the pattern replaced by what the template stands for
abbrev pub IsPartReplaced : Subject → Groups → Pattern → List ℕ → List ℕ → Type 0
IsPartReplaced x groups p template out =
    (all : List Way) × AreAllWays x groups p None 0 all × (out ≡ with_matches_filled x.haystack template 0 (map (match_of_way groups) all))
