-- Matches that stand side by side are tokens.
use Rattle.std.proofs.Common.{nat_lt, ◌≡◌, ◌∙◌, ℕ, ◌+◌, ◌*◌, ◌<◌, ◌≤◌, Bool, false, true, List, [], ◌∷◌, length, slice_get, refl, sym, subst, arith, Option, Some}
use Rattle.std.specs.Option.{IfSome}
use Rattle.std.proofs.lemmas.Bool.Decides.{nat_tests}
use Rattle.rsc_search.specs.declared.anchored.Anchored.TheVariants.{No, Yes}
use Rattle.rsc_search.specs.Inputs.{InputParts}
use Rattle.rsc_search.specs.Matches.{Matched}
use Rattle.rsc_search.specs.declared.span.Span.{Span}
use Rattle.rsc_captures.specs.Captured.{Captured, group_span}
use Rattle.rsc_captures.specs.Groups.{GroupLists, group_count, slot_number, slot_of, all_group_count}
use Rattle.rsc_engine.specs.Searches.{Compiled, search_in}
use Rattle.rsc_engine.specs.NextMatches.{MatchesLeft, IsNextMatch, IsOver, AreAllMatches, after}
use Rattle.rsc_engine.specs.Patterns.{Pattern, Subject, Goes, subject_of, IsMatchIn}
use Rattle.rsc_engine.specs.FirstEnds.{loops_take_bytes, IsFirstEnd}
use Rattle.rsc_engine.specs.GroupNumbers.{as_whole}
use Rattle.rsc_engine.specs.PreferredWays.{IsPreferredWay}
use Rattle.rsc_engine.specs.PatternMatches.{HoldRecords, recorded_span, IsNextOfPatterns, AnswersAs, HasSlotsOf}
use Rattle.rsc_uses.specs.Lexed.{NoneGoes, IsLexed, AreLexed, AreLexedWith}
use Rattle.rsc_uses.proofs.EngineLemmas.{AreFirst}

-- what laws of the engine say of the next matches of a program
pub record Laws {W : Type 0} (chars : W → ℕ → Bool) (program : Compiled W) (patterns : List Pattern) : Type 0 where
  pub built : AnswersAs chars program patterns
  pub first_end : (input : InputParts) (last : Option ℕ) (captures : Captured) (found : Matched) (p : Pattern)
      → IsNextMatch (search_in chars program input) last captures found → slice_get patterns found.pattern ≡ Some p → loops_take_bytes p ≡ true
      → IsFirstEnd (subject_of (search_in chars program input)) p (λ j. j ≤ input.span.end) found.span.start found.span.end
  pub start : (input : InputParts) (last : Option ℕ) (captures : Captured) (found : Matched) → (input.anchored ≡ No → ⊥)
      → IsNextMatch (search_in chars program input) last captures found → found.span.start ≡ input.span.start
  pub over : (input : InputParts) (last : Option ℕ) (other : Matched) → IsOver (search_in chars program input) last
      → other.span.start ≡ input.span.start → IsMatchIn patterns (search_in chars program input) other → ⊥

-- a text from a position on
abbrev pub rest_of : List ℕ → ℕ → InputParts
rest_of text at = record { haystack = text; span = record { start = at; end = length text }; anchored = Yes; earliest = false }

-- a text as a program reads it
abbrev pub read_by : {W : Type 0} → (W → ℕ → Bool) → ℕ × W → List ℕ → Subject
read_by chars matcher text = record { haystack = text; terminator = matcher.0; word_chars = chars matcher.1 }

is_anchored : Yes ≡ No → ⊥
is_anchored e = absurd (cc)

match_at : {W : Type 0} (chars : W → ℕ → Bool) (program : Compiled W) (patterns : List Pattern) (text : List ℕ) (at number to : ℕ) (pattern : Pattern)
    → slice_get patterns number ≡ Some pattern → to ≤ length text → Goes (read_by chars program.automaton.matcher text) pattern at to
    → IsMatchIn patterns (search_in chars program (rest_of text at)) (record { pattern = number; span = record { start = at; end = to } })
match_at chars program patterns text at number to pattern its within goes =
    record { pattern = pattern; is_pattern = its; allowed = refl; start = omega arith; end = within; goes = goes }

-- where the iteration is over no pattern goes on
none_left : {W : Type 0} (chars : W → ℕ → Bool) (program : Compiled W) (patterns : List Pattern) (text : List ℕ) (at : ℕ) (last : Option ℕ)
    → Laws chars program patterns → IsOver (search_in chars program (rest_of text at)) last
    → NoneGoes (read_by chars program.automaton.matcher text) patterns (length patterns) at
none_left chars program patterns text at last laws over = λ number pattern to l its within goes.
    laws.over (rest_of text at) last (record { pattern = number; span = record { start = at; end = to } }) over refl
    (match_at chars program patterns text at number to pattern its within goes)

-- the next match is a token; what its way records is in the captures
token : {W : Type 0} (chars : W → ℕ → Bool) (program : Compiled W) (patterns : List Pattern) (text : List ℕ) (at : ℕ) (last : Option ℕ)
    (captures : Captured) (found : Matched) → Laws chars program patterns → IsNextMatch (search_in chars program (rest_of text at)) last captures found
    → (its : IsLexed (read_by chars program.automaton.matcher text) patterns program.automaton.groups at found) × (records : List (ℕ × ℕ))
    × IsPreferredWay (read_by chars program.automaton.matcher text) (as_whole program.automaton.groups found.pattern its.pattern)
    (λ j. j ≤ length text) at found.span.end records × HoldRecords captures found records
token chars program patterns text at last captures found laws next = (
  record {
    pattern = m.pattern;
    its = m.is_pattern;
    start = start;
    end = m.end;
    goes = subst (λ (i : ℕ). Goes (read_by chars program.automaton.matcher text) m.pattern i found.span.end) start m.goes;
    way = (n.records, way);
    first_end = λ loops.
        subst (λ (i : ℕ). IsFirstEnd (read_by chars program.automaton.matcher text) m.pattern (λ j. j ≤ length text) i found.span.end) start
        (laws.first_end (rest_of text at) last captures found m.pattern next m.is_pattern loops);
    first = λ number pattern to l its within goes.
        let least = n.preferred.least (record { pattern = number; span = record { start = at; end = to } })
        (match_at chars program patterns text at number to pattern its within goes) (sym start) in
        absurd (omega (arith, least, l));
  },
  n.records,
  way,
  n.hold,
)
  where
    n : IsNextOfPatterns patterns program.automaton.groups (search_in chars program (rest_of text at)) last captures found
    n = laws.built.next (rest_of text at) last captures found next

    m : IsMatchIn patterns (search_in chars program (rest_of text at)) found
    m = n.preferred.is_in

    start : found.span.start ≡ at
    start = laws.start (rest_of text at) last captures found is_anchored next

    way : IsPreferredWay (read_by chars program.automaton.matcher text) (as_whole program.automaton.groups found.pattern m.pattern) (λ j. j ≤ length text)
        at found.span.end n.records
    way = subst (λ (i : ℕ). IsPreferredWay (read_by chars program.automaton.matcher text) (as_whole program.automaton.groups found.pattern m.pattern)
        (λ j. j ≤ length text) i found.span.end n.records) start n.preferred.way

pub lexed : {W : Type 0} (chars : W → ℕ → Bool) (program : Compiled W) (patterns : List Pattern) (text : List ℕ) (at : ℕ) (last : Option ℕ)
    (all : List Matched) → Laws chars program patterns → AreAllMatches chars (record { program = program; input = rest_of text at; last = last }) all
    → AreLexed (read_by chars program.automaton.matcher text) patterns program.automaton.groups at all
lexed chars program patterns text at last [] laws over = none_left chars program patterns text at last laws over
lexed chars program patterns text at last (found ∷ rest) laws all = (
  (token chars program patterns text at last all.0.0 found laws all.0.1).0,
  lexed chars program patterns text found.span.end (Some found.span.end) rest laws all.1,
)

-- ---- with the span of a group

-- the match is the next one of what is left, in captures of the program's groups; with the span of a group in them
abbrev pub IsNextWith : {W : Type 0} → (W → ℕ → Bool) → ℕ → MatchesLeft W → Matched × Option Span → Type 0
IsNextWith chars group left both =
    (captures : Captured) × IsNextMatch (search_in chars left.program left.input) left.last captures both.0
    × HasSlotsOf left.program captures × (both.1 ≡ group_span captures group)
    × (group < group_count left.program.automaton.groups both.0.pattern →
    slot_number left.program.automaton.groups both.0.pattern group + 1 < 2 * all_group_count left.program.automaton.groups)

-- a group that is there has its slots
pub slot_within : (lists others : GroupLists) (p g : ℕ) (o : Option ℕ) → lists ≡ others → o ≡ slot_of lists p g
    → IfSome o (λ slot. slot + 1 < 2 * all_group_count lists) → g < group_count others p → slot_number others p g + 1 < 2 * all_group_count others
slot_within lists others p g o same is within l =
    let e : nat_lt g (group_count lists p) ≡ true = rw same (grind (arith, nat_tests)) in
    rw (← same) (rw (is, e) at within)

-- what the law on spans says
abbrev pub Spans : Type 0
Spans = (lists : GroupLists) (captures : Captured) (m : Matched) (records : List (ℕ × ℕ)) (g : ℕ) → captures.groups ≡ lists
    → HoldRecords captures m records → g < group_count lists m.pattern → slot_number lists m.pattern g + 1 < length captures.offsets
    → group_span captures g ≡ recorded_span records (slot_number lists m.pattern g)

pub lexed_with : {W : Type 0}
    (chars : W → ℕ → Bool) (program : Compiled W) (patterns : List Pattern) (text : List ℕ) (group at : ℕ) (last : Option ℕ)
    (all : List (Matched × Option Span)) (end : MatchesLeft W) → Laws chars program patterns → Spans
    → AreFirst (IsNextWith chars group) (λ left both. after left both.0) (record { program = program; input = rest_of text at; last = last }) all end
    → IsOver (search_in chars end.program end.input) end.last
    → AreLexedWith (read_by chars program.automaton.matcher text) patterns program.automaton.groups group at all
unfolding AreFirst
lexed_with {W = W} chars program patterns text group at last [] end laws spans same over =
    none_left chars program patterns text at last laws (subst (λ (x : MatchesLeft W). IsOver (search_in chars x.program x.input) x.last) (sym same) over)
lexed_with chars program patterns text group at last (both ∷ rest) end laws spans first over =
    let t = token chars program patterns text at last first.0.0 both.0 laws first.0.1 in (
      record {
        token = t.0;
        span = λ there. (
          t.1,
          t.2,
          first.0.3 ∙ spans program.automaton.groups first.0.0 both.0 t.1 group first.0.2.0 t.3 there
              (let room = first.0.4 there in omega (arith, room, first.0.2.1)),
        );
      },
      lexed_with chars program patterns text group both.0.span.end (Some both.0.span.end) rest end laws spans first.1 over,
    )
