-- The matches of a program of one pattern are ways of the pattern, and there is one list of them.
use Rattle.std.proofs.Common.{◌≡◌, ℕ, ◌+◌, ◌*◌, ◌<◌, ◌≤◌, ◌∙◌, inl, inr, Bool, true, List, [], ◌∷◌, length, map, refl, sym, ap, subst, arith, Option, Some, None}
use Rattle.std.specs.List.{range_with_len}
use Rattle.std.proofs.lemmas.List.FromFn.{length-map-range_with_len, get_or-map-range_with_len}
use Rattle.rsc_search.specs.Inputs.{InputParts, whole}
use Rattle.rsc_search.specs.Matches.{Matched}
use Rattle.rsc_captures.specs.Captured.{Captured, group_span}
use Rattle.rsc_captures.specs.Groups.{Groups, GroupLists, all_group_count, group_count}
use Rattle.rsc_engine.specs.Searches.{Compiled, search_in}
use Rattle.rsc_engine.specs.NextMatches.{IsNextMatch, IsOver, with_start}
use Rattle.rsc_engine.specs.Patterns.{Pattern, Subject}
use Rattle.rsc_engine.specs.PreferredWays.{IsPreferredWay}
use Rattle.rsc_engine.specs.GroupNumbers.{as_whole}
use Rattle.rsc_engine.specs.Ways.{last_in}
use Rattle.rsc_engine.specs.PatternMatches.{HasSlotsOf}
use Rattle.rsc_engine.specs.OnePattern.{IsMatchOfOne, IsWayOfOne, IsLeftOutOfOne, IsNextOfOne, IsOverOfOne}
use Rattle.rsc_replace.specs.Replacements.{MatchWithCaptures, AreAllWithCaptures, with_matches_filled}
use Rattle.rsc_replace.specs.PartReplacements.{Way, captures_of, match_of_way, IsNextWay, AreAllWays, IsPartReplaced}
use Rattle.rsc_replace.proofs.ReplacementsLemmas.{same_list, same_captures}

-- a text from a position on
abbrev rest_of : List ℕ → ℕ → InputParts
rest_of text from = with_start (whole text) from

-- the matches of a program of one pattern in a text are ways of the pattern, as laws say
pub record AreWays {W : Type 0} (chars : W → ℕ → Bool) (program : Compiled W) (groups : Groups) (p : Pattern) (x : Subject) : Type 0 where
  pub lists : program.automaton.groups ≡ groups ∷ []
  pub some : 0 < length groups
  pub ways : (from : ℕ) (last : Option ℕ) (captures : Captured) (found : Matched)
      → IsNextMatch (search_in chars program (rest_of x.haystack from)) last captures found
      → IsMatchOfOne x p groups (rest_of x.haystack from) captures found
  pub next : (from : ℕ) (last : Option ℕ) (captures : Captured) (found : Matched)
      → IsNextMatch (search_in chars program (rest_of x.haystack from)) last captures found
      → IsNextOfOne x p groups true (rest_of x.haystack from) last found.span
  pub over : (from : ℕ) (last : Option ℕ) → IsOver (search_in chars program (rest_of x.haystack from)) last
      → IsOverOfOne x p groups true (rest_of x.haystack from) last
  pub group : (from : ℕ) (last : Option ℕ) (captures : Captured) (found : Matched)
      → IsNextMatch (search_in chars program (rest_of x.haystack from)) last captures found → 2 * found.pattern + 1 < length captures.offsets
      → 0 < group_count captures.groups found.pattern → group_span captures 0 ≡ Some found.span

module _ {W : Type 0} (chars : W → ℕ → Bool) (program : Compiled W) (groups : Groups) (p : Pattern) (x : Subject) (its : AreWays chars program groups p x) where
  next_way : (from : ℕ) (last : Option ℕ) (captures : Captured) (found : Matched)
      → IsNextMatch (search_in chars program (rest_of x.haystack from)) last captures found → HasSlotsOf program captures
      → (w : Way) × (w.end ≡ found.span.end) × IsNextWay x groups p last from w
      × (record { found = found; captures = captures } ≡ match_of_way groups w)
  next_way from last captures found next room =
      let one = its.ways from last captures found next in
      let w : Way = record { start = found.span.start; end = found.span.end; records = one.records } in
      let count = 2 * all_group_count (groups ∷ []) in
      let slots : length captures.offsets ≡ count = room.1 ∙ ap (λ (lists : GroupLists). 2 * all_group_count lists) its.lists in
      let lists : captures.groups ≡ groups ∷ [] = room.0 ∙ its.lists in
      let offsets : captures.offsets ≡ map (last_in one.records) (range_with_len 0 count) =
      same_list None captures.offsets (map (last_in one.records) (range_with_len 0 count))
      (slots ∙ sym (length-map-range_with_len (last_in one.records) 0 count))
      (λ k h. one.hold.slots k h ∙ sym (get_or-map-range_with_len (last_in one.records) 0 count k k None (omega (arith, h, slots)) (omega arith))) in
      let same : captures ≡ captures_of groups w =
      same_captures captures (captures_of groups w) lists (one.hold.pattern ∙ ap (λ (n : ℕ). Some n) one.number) offsets in
      let there : 0 < group_count captures.groups found.pattern = rw (lists, one.number) its.some in
      let group = its.group from last captures found next (omega (arith, slots, one.number, its.some)) there in (
        w,
        refl,
        record {
          way = record { within = one.end; goes = one.goes; way = one.way };
          next = its.next from last captures found next;
          group = subst (λ (c : Captured). group_span c 0 ≡ Some found.span) same group;
        },
        ap (λ (n : ℕ). record { found = record { pattern = n; span = found.span }; captures = captures }) one.number
            ∙ ap (λ (c : Captured). record { found = record { pattern = 0; span = found.span }; captures = c }) same,
      )

  all_ways : (from : ℕ) (last : Option ℕ) (all : List MatchWithCaptures)
      → AreAllWithCaptures chars (record { program = program; input = rest_of x.haystack from; last = last }) all
      → (ways : List Way) × AreAllWays x groups p last from ways × (all ≡ map (match_of_way groups) ways)
  all_ways from last [] over = ([], its.over from last over, refl)
  all_ways from last (m ∷ rest) all =
      let first = next_way from last m.captures m.found all.0 all.1 in
      let more = all_ways m.found.span.end (Some m.found.span.end) rest all.2 in
      let w = first.0 in
      let later : AreAllWays x groups p (Some w.end) w.end more.0 =
      subst (λ (i : ℕ). AreAllWays x groups p (Some i) i more.0) (sym first.1) more.1 in
      let head : m ≡ match_of_way groups w = first.3 in
      let tail : rest ≡ map (match_of_way groups) more.0 = more.2 in
      let same : m ∷ rest ≡ match_of_way groups w ∷ map (match_of_way groups) more.0 = cc in
      (w ∷ more.0, (first.2, later), same)

  pub part_replaced : (template out : List ℕ) (all : List MatchWithCaptures)
      → AreAllWithCaptures chars (record { program = program; input = whole x.haystack; last = None }) all
      → out ≡ with_matches_filled x.haystack template 0 all → IsPartReplaced x groups p template out
  part_replaced template out all are is =
      let ways = all_ways 0 None all are in
      (ways.0, ways.1, is ∙ ap (λ (list : List MatchWithCaptures). with_matches_filled x.haystack template 0 list) ways.2)

-- there is one preferred way of a pattern from a position
pub record OneWay : Type 0 where
  pub end : (x : Subject) (p : Pattern) (most i j k : ℕ) (one other : List (ℕ × ℕ)) → IsPreferredWay x p (λ m. m ≤ most) i j one
      → IsPreferredWay x p (λ m. m ≤ most) i k other → j ≡ k
  pub records : (x : Subject) (p : Pattern) (most i j k : ℕ) (one other : List (ℕ × ℕ)) → IsPreferredWay x p (λ m. m ≤ most) i j one
      → IsPreferredWay x p (λ m. m ≤ most) i k other → one ≡ other

module _ (laws : OneWay) (x : Subject) (groups : Groups) (p : Pattern) where
  abbrev Goes : Way → Type 0
  Goes w = IsWayOfOne x p groups (length x.haystack) w.start w.end w.records

  same_way : (v w : Way) → v.start ≡ w.start → Goes v → Goes w → v ≡ w
  same_way v w starts one other =
      let pattern = as_whole (groups ∷ []) 0 p in
      let most = length x.haystack in
      let moved : IsPreferredWay x pattern (λ m. m ≤ most) w.start v.end v.records =
      subst (λ (i : ℕ). IsPreferredWay x pattern (λ m. m ≤ most) i v.end v.records) starts one.way in
      let ends : v.end ≡ w.end = laws.end x pattern most w.start v.end w.end v.records w.records moved other.way in
      let records : v.records ≡ w.records = laws.records x pattern most w.start v.end w.end v.records w.records moved other.way in
      let f : ℕ → Way = λ i. record { start = i; end = v.end; records = v.records } in
      let g : ℕ → Way = λ j. record { start = w.start; end = j; records = v.records } in
      let h : List (ℕ × ℕ) → Way = λ r. record { start = w.start; end = w.end; records = r } in
      ap f starts ∙ (ap g ends ∙ ap h records)

  -- where a match is, none is passed
  not_passed : (last : Option ℕ) (from : ℕ) (w : Way) → IsNextWay x groups p last from w
      → IsLeftOutOfOne x p groups true (length x.haystack) last w.start → ⊥
  not_passed last from w it (inl none) = none w.end it.way.within it.way.goes
  not_passed last from w it (inr passed) =
      let v : Way = record { start = w.start; end = w.start; records = passed.0.0 } in
      it.next.taken (ap (λ (u : Way). u.end) (same_way v w refl passed.0.1 it.way)) passed.1

  same_next_way : (last : Option ℕ) (from : ℕ) (v w : Way) → IsNextWay x groups p last from v → IsNextWay x groups p last from w → v ≡ w
  same_next_way last from v w one other =
      let low : v.start < w.start → ⊥ = λ before. not_passed last from v one (other.next.left_out v.start one.next.begins.start before) in
      let high : w.start < v.start → ⊥ = λ before. not_passed last from w other (one.next.left_out w.start other.next.begins.start before) in
      same_way v w (omega (arith, low, high)) one.way other.way

  pub same_ways : (last : Option ℕ) (from : ℕ) (one other : List Way) → AreAllWays x groups p last from one → AreAllWays x groups p last from other
      → one ≡ other
  same_ways last from [] [] a b = refl
  same_ways last from [] (w ∷ others) over b = absurd (not_passed last from w b.0 (over refl w.start b.0.next.begins))
  same_ways last from (v ∷ rest) [] a over = absurd (not_passed last from v a.0 (over refl v.start a.0.next.begins))
  same_ways last from (v ∷ rest) (w ∷ others) a b =
      let head : v ≡ w = same_next_way last from v w a.0 b.0 in
      let tail : rest ≡ others = same_ways (Some v.end) v.end rest others a.1
      (subst (λ (u : Way). AreAllWays x groups p (Some u.end) u.end others) (sym head) b.1) in
      cc

  pub same_part : (template one other : List ℕ) → IsPartReplaced x groups p template one → IsPartReplaced x groups p template other → one ≡ other
  same_part template one other a b =
      let ways = same_ways None 0 a.0 b.0 a.1 b.1 in
      a.2 ∙ (ap (λ (all : List Way). with_matches_filled x.haystack template 0 (map (match_of_way groups) all)) ways ∙ sym b.2)
