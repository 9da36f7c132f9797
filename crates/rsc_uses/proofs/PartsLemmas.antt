-- What matches of a program say of the pattern that it's built of.
use Rattle.std.proofs.Common.{nat_eq, cond, ◌≡◌, ℕ, zero, suc, ◌+◌, ◌*◌, ◌<◌, ◌≤◌, ◌⊎◌, inl, inr, ◌∙◌, true≢false, true, false, Option, Some, None, Bool, List, [], ◌∷◌, length, slice_get, refl, sym, ap, subst, arith}
use Rattle.std.proofs.lemmas.Bool.Decides.{nat_tests}
use Rattle.std.proofs.lemmas.List.{length-replicate}
use Rattle.rsc_nfa.specs.Steps.{place}
use Rattle.rsc_search.specs.Inputs.{InputParts, whole}
use Rattle.rsc_search.specs.Matches.{Matched}
use Rattle.rsc_search.specs.Modes.{only_pattern}
use Rattle.rsc_captures.specs.Groups.{Groups, GroupLists, group_count, slot_number, all_group_count}
use Rattle.rsc_search.specs.declared.span.Span.{Span}
use Rattle.rsc_captures.specs.Captured.{Captured, unset_captures, group_span}
use Rattle.rsc_engine.specs.Searches.{Compiled, Search, search_in}
use Rattle.rsc_engine.specs.Runs.{is_allowed}
use Rattle.rsc_engine.specs.Preferred.{MayBegin}
use Rattle.rsc_engine.specs.NextMatches.{MayBeNext, IsRepeatAt, SplitsAt}
use Rattle.rsc_engine.specs.Patterns.{Pattern, Then, Group, Subject, Goes, subject_of, IsMatchIn}
use Rattle.rsc_engine.specs.FirstEnds.{IsFirstEnd}
use Rattle.rsc_engine.specs.GroupNumbers.{as_whole}
use Rattle.rsc_engine.specs.Ways.{Point, last_in, with_record, GoesWith}
use Rattle.rsc_engine.specs.PatternMatches.{recorded_span}
use Rattle.rsc_uses.specs.Texts.{text_of, GoesNowhere, GoesNowhereIn, HoldsFirstWay, HoldsPreferredWay}

pub goes_to : (x : Subject) (p : Pattern) (i j end : ℕ) → j ≡ end → Goes x p i j → Goes x p i end
goes_to x p i j end e goes = subst (λ (k : ℕ). Goes x p i k) e goes

pub ends_to : (x : Subject) (p : Pattern) (Wanted : ℕ → Type 0) (i j end : ℕ) → j ≡ end → IsFirstEnd x p Wanted i j → IsFirstEnd x p Wanted i end
ends_to x p Wanted i j end e first = subst (λ (k : ℕ). IsFirstEnd x p Wanted i k) e first

its_only : (p q : Pattern) (n : ℕ) → slice_get (p ∷ []) n ≡ Some q → q ≡ p
its_only p q zero e = cc
its_only p q (suc n) e = absurd (cc)

-- a match of the only pattern is where it goes
pub goes_of : {W : Type 0} (chars : W → ℕ → Bool) (program : Compiled W) (word_class : W) (p : Pattern) (haystack : List ℕ) (found : Matched)
    → program.automaton.matcher ≡ (10, word_class) → IsMatchIn (p ∷ []) (search_in chars program (whole haystack)) found
    → Goes (text_of haystack (chars word_class)) p found.span.start found.span.end
goes_of {W = W} chars program word_class p haystack found matcher m =
    subst (λ (x : ℕ × W). Goes (record { haystack = haystack; terminator = x.0; word_chars = chars x.1 }) p found.span.start found.span.end) matcher
    (subst (λ (q : Pattern). Goes (record { haystack = haystack; terminator = program.automaton.matcher.0; word_chars = chars program.automaton.matcher.1 }) q
    found.span.start found.span.end) (its_only p m.pattern found.pattern m.is_pattern) m.goes)

-- and ends where the pattern's first end is
pub first_end_of : {W : Type 0} (chars : W → ℕ → Bool) (program : Compiled W) (word_class : W) (p : Pattern) (haystack : List ℕ) (found : Matched)
    → program.automaton.matcher ≡ (10, word_class) → IsMatchIn (p ∷ []) (search_in chars program (whole haystack)) found
    → (slice_get (p ∷ []) found.pattern ≡ Some p
    → IsFirstEnd (subject_of (search_in chars program (whole haystack))) p (λ j. j ≤ length haystack) found.span.start found.span.end)
    → IsFirstEnd (text_of haystack (chars word_class)) p (λ j. j ≤ length haystack) found.span.start found.span.end
first_end_of {W = W} chars program word_class p haystack found matcher m first =
    subst (λ (x : ℕ
    × W). IsFirstEnd (record { haystack = haystack; terminator = x.0; word_chars = chars x.1 }) p (λ j. j ≤ length haystack) found.span.start
    found.span.end) matcher
    (first (m.is_pattern ∙ ap (λ (q : Pattern). Some q) (its_only p m.pattern found.pattern m.is_pattern)))

-- and it's of pattern 0
pub number_of : (p : Pattern) (e : Search) (found : Matched) → IsMatchIn (p ∷ []) e found → found.pattern ≡ 0
number_of p e found m = only found.pattern m.is_pattern
  where
    only : (n : ℕ) → slice_get (p ∷ []) n ≡ Some m.pattern → n ≡ 0
    only zero h = refl
    only (suc n) h = absurd (cc)

pub its_of : (p : Pattern) (e : Search) (found : Matched) → IsMatchIn (p ∷ []) e found → slice_get (p ∷ []) found.pattern ≡ Some p
its_of p e found m = m.is_pattern ∙ ap (λ (q : Pattern). Some q) (its_only p m.pattern found.pattern m.is_pattern)

-- its pattern has a first group
has_first : (lists : GroupLists) (groups : Groups) (p : ℕ) → lists ≡ (None ∷ groups) ∷ [] → p ≡ 0 → 0 < group_count lists p
has_first lists groups p is zero_is = rw (is, zero_is) (omega arith)

-- captures that are made for a program of one pattern have room for its first group
pub has_room : {W : Type 0} (program : Compiled W) (groups : Groups) (made after : Captured) → program.automaton.groups ≡ (None ∷ groups) ∷ []
    → made ≡ unset_captures program.automaton.groups (2 * all_group_count program.automaton.groups) → length after.offsets ≡ length made.offsets
    → 1 < length after.offsets
has_room program groups made after lists is_made same = omega (
  arith,
  same,
  ap (λ (c : Captured). length c.offsets) is_made,
  length-replicate {A = Option ℕ} (2 * all_group_count program.automaton.groups) None,
  ap all_group_count lists,
)

-- so its group 0 is its match's span, where group 0 of a match is
pub first_group : {W : Type 0} (program : Compiled W) (groups : Groups) (made after : Captured) (found : Matched)
    → program.automaton.groups ≡ (None ∷ groups) ∷ []
    → made ≡ unset_captures program.automaton.groups (2 * all_group_count program.automaton.groups) → length after.offsets ≡ length made.offsets
    → after.groups ≡ made.groups → found.pattern ≡ 0
    → (2 * found.pattern + 1 < length after.offsets → 0 < group_count after.groups found.pattern → group_span after 0 ≡ Some found.span)
    → group_span after 0 ≡ Some found.span
first_group program groups made after found lists is_made same its zero_is law =
    law (omega (arith, zero_is, has_room program groups made after lists is_made same))
    (has_first after.groups groups found.pattern (its ∙ (ap (λ (c : Captured). c.groups) is_made ∙ lists)) zero_is)

-- captures that are made for the program have two slots for each of its groups
pub count_slots : (lists made_for : GroupLists) (made after : Captured) → made_for ≡ lists → made ≡ unset_captures made_for (2 * all_group_count made_for)
    → length after.offsets ≡ length made.offsets → length after.offsets ≡ 2 * all_group_count lists
count_slots lists made_for made after its is_made same =
    same ∙ (ap (λ (c : Captured). length c.offsets) is_made ∙ (length-replicate {A = Option ℕ} (2 * all_group_count made_for) None
    ∙ ap (λ (l : GroupLists). 2 * all_group_count l) its))

-- the first group of a part before another: where the part goes, if it's where its part goes
pub group_goes : {W : Type 0} (chars : W → ℕ → Bool) (program : Compiled W) (word_class : W) (p q : Pattern) (groups : Groups) (haystack : List ℕ)
    (found : Matched) (i j : ℕ) → program.automaton.matcher ≡ (10, word_class) → program.automaton.groups ≡ (None ∷ None ∷ groups) ∷ []
    → IsMatchIn (Then (Group 0 p) q ∷ []) (search_in chars program (whole haystack)) found
    → (slice_get (Then (Group 0 p) q ∷ []) found.pattern ≡ Some (Then (Group 0 p) q) → 1 < group_count program.automaton.groups found.pattern
    → Goes (subject_of (search_in chars program (whole haystack))) p i j) → Goes (text_of haystack (chars word_class)) p i j
group_goes {W = W} chars program word_class p q groups haystack found i j matcher lists m law =
    subst (λ (x : ℕ × W). Goes (record { haystack = haystack; terminator = x.0; word_chars = chars x.1 }) p i j) matcher
    (law (m.is_pattern ∙ ap (λ (r : Pattern). Some r) (its_only (Then (Group 0 p) q) m.pattern found.pattern m.is_pattern))
    (rw (lists, number_of (Then (Group 0 p) q) (search_in chars program (whole haystack)) found m) (omega arith)))

-- ---- a group that is gone through first is set

in_slot : (s i : ℕ) (r : List (ℕ × ℕ)) → last_in ((s, i) ∷ r) s ≡ Some i
in_slot s i r = let e : nat_eq s s ≡ true = grind (arith, nat_tests) in rw e refl

in_more : (s i slot j : ℕ) (r : List (ℕ × ℕ)) → last_in r slot ≡ Some j → (k : ℕ) × (last_in ((s, i) ∷ r) slot ≡ Some k)
in_more s i slot j r h = decide (nat_eq s slot)
  where
    decide : (t : Bool) → (k : ℕ) × (cond t (Some i) (last_in r slot) ≡ Some k)
    decide true = (i, refl)
    decide false = (j, h)

-- what a way finds recorded stays recorded
abbrev pub Stays : Subject → Type 0
Stays x = (r : Pattern) (slot : ℕ) (k l : Point) (i : ℕ) → GoesWith x r k l → last_in k.1 slot ≡ Some i → (j : ℕ) × (last_in l.1 slot ≡ Some j)

pub group_set : (x : Subject) (whole slot : ℕ) (p q : Pattern) (m n : Point) → Stays x → GoesWith x (Group whole (Then (Group slot p) q)) m n
    → (i j : ℕ) × (last_in n.1 slot ≡ Some i) × (last_in n.1 (slot + 1) ≡ Some j)
group_set x whole slot p q m n stays g = (
  last_one.0,
  last_two.0,
  subst (λ (k : Point). last_in k.1 slot ≡ Some last_one.0) (sym g.2) last_one.1,
  subst (λ (k : Point). last_in k.1 (slot + 1) ≡ Some last_two.0) (sym g.2) last_two.1,
)
  where
    inner : Point
    inner = g.1.1.0

    part : (i : ℕ) × (last_in g.1.1.0.1 slot ≡ Some i)
    part = stays p slot (with_record slot (with_record whole m)) g.1.1.0 m.0 g.1.1.1 (in_slot slot m.0 ((whole, m.0) ∷ m.1))

    first : (i : ℕ) × (last_in ((slot + 1, g.1.1.0.0) ∷ g.1.1.0.1) slot ≡ Some i)
    first = in_more (slot + 1) g.1.1.0.0 slot part.0 g.1.1.0.1 part.1

    one : (i : ℕ) × (last_in g.0.1 slot ≡ Some i)
    one = stays q slot g.1.0 g.0 first.0 g.1.2 (subst (λ (k : Point). last_in k.1 slot ≡ Some first.0) (sym g.1.1.2) first.1)

    two : (j : ℕ) × (last_in g.0.1 (slot + 1) ≡ Some j)
    two = stays q (slot + 1) g.1.0 g.0 g.1.1.0.0 g.1.2
        (subst (λ (k : Point). last_in k.1 (slot + 1) ≡ Some g.1.1.0.0) (sym g.1.1.2) (in_slot (slot + 1) g.1.1.0.0 g.1.1.0.1))

    last_one : (i : ℕ) × (last_in ((whole + 1, g.0.0) ∷ g.0.1) slot ≡ Some i)
    last_one = in_more (whole + 1) g.0.0 slot one.0 g.0.1 one.1

    last_two : (j : ℕ) × (last_in ((whole + 1, g.0.0) ∷ g.0.1) (slot + 1) ≡ Some j)
    last_two = in_more (whole + 1) g.0.0 (slot + 1) two.0 g.0.1 two.1

-- so it has a span
pub span_set : (x : Subject) (whole slot : ℕ) (p q : Pattern) (m n : Point) → Stays x → GoesWith x (Group whole (Then (Group slot p) q)) m n
    → recorded_span n.1 slot ≡ None → ⊥
span_set x whole slot p q m n stays g none =
    let both = group_set x whole slot p q m n stays g in
    let some : recorded_span n.1 slot ≡ Some (record { start = both.0; end = both.1 }) = rw (both.2, both.3) refl in
    absurd (cc)

-- but a group that isn't set has none
pub no_span : (c : Captured) (g slot : ℕ) (records : List (ℕ × ℕ)) (o : Option Span) → o ≡ group_span c g → o ≡ None
    → group_span c g ≡ recorded_span records slot → recorded_span records slot ≡ None
no_span c g slot records o is none same = sym same ∙ (sym is ∙ none)

-- captures that are made for a program of such a pattern have room for that group
pub group_there : (lists : GroupLists) (groups : Groups) (made after : Captured) (pattern : ℕ) → lists ≡ (None ∷ None ∷ groups) ∷ []
    → made ≡ unset_captures lists (2 * all_group_count lists) → length after.offsets ≡ length made.offsets → pattern ≡ 0
    → (1 < group_count lists pattern) × (slot_number lists pattern 1 + 1 < length after.offsets)
group_there lists groups made after pattern is is_made same zero_is =
    let slots = count_slots lists lists made after refl is_made same in
    rw (is, zero_is) (omega arith, omega (arith, slots, ap all_group_count is))

-- where one of the patterns goes is a match
pub match_in : {W : Type 0}
    (chars : W → ℕ → Bool) (program : Compiled W) (word_class : W) (patterns : List Pattern) (n : ℕ) (p : Pattern) (input : InputParts)
    (i j : ℕ) → program.automaton.matcher ≡ (10, word_class) → slice_get patterns n ≡ Some p → is_allowed (only_pattern input.anchored) n ≡ true
    → input.span.start ≤ i → j ≤ input.span.end → Goes (text_of input.haystack (chars word_class)) p i j
    → IsMatchIn patterns (search_in chars program input) (record { pattern = n; span = record { start = i; end = j } })
match_in {W = W} chars program word_class patterns n p input i j matcher its wanted from within g = record {
  pattern = p;
  is_pattern = its;
  allowed = wanted;
  start = from;
  end = within;
  goes = subst (λ (x : ℕ × W). Goes (record { haystack = input.haystack; terminator = x.0; word_chars = chars x.1 }) p i j) (sym matcher) g;
}

-- and so is where the first of them goes in a whole haystack
pub match_of : {W : Type 0}
    (chars : W → ℕ → Bool) (program : Compiled W) (word_class : W) (p : Pattern) (others : List Pattern) (haystack : List ℕ) (i j : ℕ)
    → program.automaton.matcher ≡ (10, word_class) → j ≤ length haystack → Goes (text_of haystack (chars word_class)) p i j
    → IsMatchIn (p ∷ others) (search_in chars program (whole haystack)) (record { pattern = 0; span = record { start = i; end = j } })
match_of chars program word_class p others haystack i j matcher within g =
    match_in chars program word_class (p ∷ others) 0 p (whole haystack) i j matcher refl refl (omega arith) within g

pub may_begin : {W : Type 0} (chars : W → ℕ → Bool) (program : Compiled W) (haystack : List ℕ) (i : ℕ) → i ≤ length haystack
    → MayBegin (search_in chars program (whole haystack)) i
may_begin chars program haystack i l = record { start = omega arith; end = l; anchored = λ other. absurd (other refl) }

-- the same of a first match of an iteration
pub may_be_next : {W : Type 0} (chars : W → ℕ → Bool) (program : Compiled W) (haystack : List ℕ) (i : ℕ) → i ≤ length haystack
    → MayBeNext (search_in chars program (whole haystack)) None i
may_be_next chars program haystack i l = record { start = omega arith; end = l; anchored = λ other. absurd (other refl) }

-- where no match came before, and the haystack isn't taken for text, none is left out
pub none_left_out : (e : Search) (at : ℕ) → e.utf8 ≡ false → IsRepeatAt e None at ⊎ SplitsAt e at → ⊥
none_left_out e at plain (inl r) = none_is_some (place r.run 0).1 r.repeats.there
  where
    none_is_some : (i : ℕ) → None ≡ Some i → ⊥
    none_is_some i h = absurd (cc)
none_left_out e at plain (inr s) = absurd (true≢false (sym s.splits.utf8 ∙ plain))

-- ---- no match

-- if no match of theirs may begin, none of the patterns goes anywhere
pub goes_nowhere : {W : Type 0} (chars : W → ℕ → Bool) (program : Compiled W) (word_class : W) (patterns : List Pattern) (n : ℕ) (p : Pattern)
    (haystack : List ℕ) → program.automaton.matcher ≡ (10, word_class) → slice_get patterns n ≡ Some p
    → ((other : Matched) → MayBegin (search_in chars program (whole haystack)) other.span.start
    → ¬ (IsMatchIn patterns (search_in chars program (whole haystack)) other)) → GoesNowhere (text_of haystack (chars word_class)) p
goes_nowhere chars program word_class patterns n p haystack matcher its none = λ i j before within goes.
    none (record { pattern = n; span = record { start = i; end = j } }) (may_begin chars program haystack i before)
    (match_in chars program word_class patterns n p (whole haystack) i j matcher its refl (omega arith) within goes)
