-- The runs of a program that was built: from the state at which a pattern begins its matches are found, and no others.
use Rattle.std.proofs.Common.{drop, ◌||◌, map, get_or, option_map, ◌≡◌, ℕ, zero, suc, ◌+◌, ◌-◌, ◌*◌, ◌<◌, ◌≤◌, ◌⊎◌, inl, inr, ⊎_elim, true≢false, List, [], ◌∷◌, length, slice_get, refl, sym, ap, ◌∙◌, subst, arith, Option, Some, MatchOption, Bool}
use Rattle.std.proofs.lemmas.Bool.{cases_lt, cases_eq}
use Rattle.std.proofs.lemmas.Option.{slice_get_within, slice_get_read, slice_get-map}
use Rattle.rsc_nfa.specs.declared.state.State.{State}
use Rattle.rsc_nfa.specs.declared.state.State.TheVariants.{Fork, Capture, Accept}
use Rattle.rsc_nfa.specs.Steps.{StepsTo, place, IsRun}
use Rattle.rsc_engine.specs.Patterns.{Pattern, Group, Goes, subject_of, IsMatchIn, HasRunOf, Recognizes}
use Rattle.rsc_engine.specs.declared.builder.part.Part.{Part}
use Rattle.rsc_engine.specs.Parts.{pattern_of}
use Rattle.rsc_engine.specs.EnclosesLayout.{Encloses}
use Rattle.rsc_engine.specs.LinksLayout.{Aim, StepsLead, Realizes, Adds, Builds, IsAdded}
use Rattle.std.proofs.Math.Seq.{drop-length}
use Rattle.rsc_captures.specs.Groups.{GroupLists, all_group_count, slot_number}
use Rattle.rsc_look.specs.declared.assertion.Look.{Look}
use Rattle.rsc_engine.specs.StatesLayout.{asked_by, some_ask, FitsAndAsks, AreSoundIn}
use Rattle.rsc_engine.proofs.StatesLayoutLemmas.{FitsAndAsks-alike, AreSound-pattern, AreSound-alike, AreSound-more, or_none}
use Rattle.rsc_engine.specs.BeginsLayout.{Begins, IsOfOne, IsOfSome}
use Rattle.rsc_engine.specs.FirstsLayout.{OrdersOne, OrdersSome}
use Rattle.rsc_engine.proofs.FirstsLayoutLemmas.{OrdersOne-is, OrdersSome-last, OrdersSome-more}
use Rattle.rsc_engine.specs.ByWaysLayout.{ByWays}
use Rattle.rsc_engine.specs.TakesLayout.{TakesCourse}
use Rattle.rsc_engine.specs.GroupNumbers.{numbered}
use Rattle.rsc_engine.proofs.GroupNumbersLemmas.{numbered-goes, numbered-asks}
use Rattle.rsc_engine.proofs.LinksLayoutLemmas.{Realizes-is, Realizes-between, Realizes-capture, may_accept, choice_first, choice_next}
use Rattle.rsc_engine.proofs.ByWaysLayoutLemmas.{ByWays-group}
use Rattle.rsc_engine.proofs.StepsLayoutLemmas.{step_of}
use Rattle.rsc_engine.proofs.WaysLayoutLemmas.{aim_at, way_of, steps_from, finish_last}
use Rattle.rsc_engine.proofs.WaysLemmas.{with-goes}
use Rattle.rsc_engine.specs.StepsLayout.{last_place}
use Rattle.rsc_engine.proofs.CompileLemmas.{Adds-one, Adds-both, Adds-is, grown}
use Rattle.rsc_engine.specs.BeginsLayout.{IsPatternStates}
use Rattle.rsc_search.specs.Matches.{Matched}
use Rattle.rsc_search.specs.Modes.{only_pattern}
use Rattle.rsc_engine.specs.Searches.{Search, Compiled, search_in}
use Rattle.rsc_engine.specs.Runs.{Leads, IsMatchOf, is_accepting, is_allowed}
use Rattle.rsc_engine.proofs.PatternOrderLemmas.{PrefersFrom-one, PrefersFrom-fork}
use Rattle.rsc_engine.proofs.RunsLemmas.{run-before, step-within}
use Rattle.rsc_engine.proofs.RunsLemmas.{leads-rises}

-- ---- one pattern

same_pattern : (p q : ℕ) → Some (Accept p) ≡ Some (Accept q) → p ≡ q
same_pattern p q e = cc

-- a way to a match ends where its pattern is accepted
at_accept : (states : List State) (a : Aim) (n s i q : ℕ) → slice_get states s ≡ Some (Accept q) → StepsLead states a n s i → (a.pattern ≡ q)
    × (i ≡ a.position)
at_accept states a zero s i q is e = (same_pattern a.pattern q (sym e.0 ∙ is), e.1)
at_accept states a (suc n) s i q is e =
    absurd (subst (λ (o : Option State). MatchOption o ⊥ (λ (x : State).
    StepsTo x a.subject.terminator a.subject.word_chars a.subject.haystack a.end i (e.1, e.2))) is e.3)

Begins-one : (states : List State) (slot_of : ℕ → ℕ) (number low high accept after body first : ℕ) (p : Pattern)
    → IsPatternStates states number low high accept after body first → Realizes states body after p → ByWays states body after (numbered slot_of 1 p)
    → Begins states first (IsOfOne number p)
Begins-one states slot_of number low high accept after body first p w r o = record {
  sound = sound;
  complete = λ a i s within.
      whole.complete a i a.position s.1
      (record { steps = 0; ends = (w.accepting ∙ ap (λ (q : ℕ). Some (Accept q)) (sym s.0), refl, within) });
  prefers = PrefersFrom-one states first number p sound;
}
  where
    whole : Realizes states first accept p
    whole = Realizes-between states first body after accept p (Realizes-capture states after (2 * number + 1) accept w.ending) r
        (Realizes-capture states first (2 * number) body w.starting)

    order : ByWays states first accept (Group (2 * number) (numbered slot_of 1 p))
    order = ByWays-group states first body after accept (2 * number) (numbered slot_of 1 p) w.starting w.ending o

    sound : (a : Aim) (n i : ℕ) → StepsLead states a n first i → IsOfOne number p a i
    sound a n i e =
        let way = steps_from states a n first i e in
        let g = order.through a.subject a.end a.pattern (i, []) way.rest way.way in
        let end = at_accept states (aim_at a.subject a.end a.pattern (last_place (accept, g.to.0) g.rest)) (length g.rest) accept g.to.0 number w.accepting
        (way_of states a.subject a.end a.pattern (accept, g.to.0) g.rest g.way.within g.way.steps g.way.accepts) in
        let there : g.to.0 ≡ a.position =
        end.1 ∙ (ap (λ (q : ℕ × ℕ). q.1) (sym (finish_last states (accept, g.to.0) g.rest g.to.1))
        ∙ (ap (λ (l : (ℕ × ℕ) × List (ℕ × ℕ)). l.0.1) g.ends
        ∙ (ap (λ (q : ℕ × ℕ). q.1) (finish_last states (first, i) way.rest []) ∙ way.ends))) in (
          end.0,
          subst (λ (R : ℕ → ℕ → Type 0). R i a.position) (numbered-goes a.subject slot_of 1 p)
              (subst (λ (k : ℕ). Goes a.subject (numbered slot_of 1 p) i k) there
              (with-goes a.subject (Group (2 * number) (numbered slot_of 1 p)) (i, []) g.to g.goes)),
        )

-- a pattern, with its number, begins at a state; and if its number is one of these groups' patterns, its states name what is there
abbrev OneBegins : GroupLists → List State → List State → ℕ → ℕ → Pattern → List State → Type 0
OneBegins groups old new first n p states =
    Begins states first (IsOfOne n p) × (n < length groups → AreSoundIn groups (asked_by p) old new first states)
    × OrdersOne states (slot_number groups n) (length new) first n p

pub Adds-pattern : (groups : GroupLists) (old middle later last new : List State) (accept number after start end body first index : ℕ) (p : Pattern)
    → number ≡ index → start ≡ 2 * number → end ≡ 2 * number + 1 → start < 2 * all_group_count groups → end < 2 * all_group_count groups
    → IsAdded old middle (Accept number) accept → IsAdded middle later (Capture end accept) after
    → Builds (end, 2 * all_group_count groups) later last body after (numbered (slot_number groups index) 1 p) → IsAdded last new (Capture start body) first
    → Adds old new (λ (states : List State). Begins states first (IsOfOne index p)
    × (index < length groups → AreSoundIn groups (asked_by p) old new first states)
    × OrdersOne states (slot_number groups index) (length new) first index p)
Adds-pattern groups old middle later last new accept number after start end body first index p same starts ends sw ew a b x c =
    Adds-both old last new Three (λ (states : List State). slice_get states first ≡ Some (Capture start body))
    (OneBegins groups old new first index p)
    (Adds-both old later last Two (IsPart later last body after) Three
    (Adds-both old middle later (λ (states : List State). slice_get states accept ≡ Some (Accept number))
    (λ (states : List State). slice_get states after ≡ Some (Capture end accept)) Two
    (Adds-one old middle (Accept number) accept a) (Adds-one middle later (Capture end accept) after b) (λ states y z. (y, z)))
    x (λ states y z. (y, z)))
    (Adds-one last new (Capture start body) first c)
    (λ states y z. (
      subst (λ (q : ℕ). Begins states first (IsOfOne q p)) same
          (Begins-one states (slot_number groups index) number (length later) (length last) accept after body first p (whole states y z) (plain states y)
          y.1.3),
      λ l. AreSound-pattern (2 * all_group_count groups) (length groups) (asked_by p) (length old) (length later) (length last) (length new) accept number
          after start end body first end states (omega (arith, l, same)) starts ends sw ew a.last (omega (arith, b.last, one)) (omega (arith, two, one))
          x.longer c.last (grown last new (Capture start body) first c) y.0.0 y.0.1 y.1.1
          (FitsAndAsks-alike (2 * all_group_count groups) (asked_by (numbered (slot_number groups index) 1 p)) (asked_by p) (length later) (length last) states
          (numbered-asks (slot_number groups index) 1 p) y.1.2)
          z,
      subst (λ (q : ℕ). OrdersOne states (slot_number groups index) (length new) first q p) same
          (OrdersOne-is states (slot_number groups index) number (length later) (length last) (length new) accept after body first p
          (whole states y z)
          y.1.3 y.1.4 (omega (arith, grown last new (Capture start body) first c))),
    ))
  where
    Two : List State → Type 0
    Two states = (slice_get states accept ≡ Some (Accept number)) × (slice_get states after ≡ Some (Capture end accept))

    IsPart : List State → List State → ℕ → ℕ → List State → Type 0
    IsPart from to low high states =
        Realizes states low high (numbered (slot_number groups index) 1 p) × Encloses end (length from) (length to) low high states
        × FitsAndAsks (2 * all_group_count groups) (asked_by (numbered (slot_number groups index) 1 p)) (length from) (length to) states
        × ByWays states low high (numbered (slot_number groups index) 1 p)
        × TakesCourse (length from) (length to) low high (numbered (slot_number groups index) 1 p) states

    Three : List State → Type 0
    Three states = Two states × IsPart later last body after states

    plain : (states : List State) → Three states → Realizes states body after p
    plain states y = Realizes-is states body after (numbered (slot_number groups index) 1 p) p
        (λ t i j g. subst (λ (R : ℕ → ℕ → Type 0). R i j) (sym (numbered-goes t (slot_number groups index) 1 p)) g)
        y.1.0

    whole : (states : List State) → Three states → slice_get states first ≡ Some (Capture start body)
        → IsPatternStates states number (length later) (length last) accept after body first
    whole states y z = record {
      accepting = y.0.0;
      ending = y.0.1 ∙ ap (λ (q : ℕ). Some (Capture q accept)) ends;
      encloses = subst (λ (q : ℕ). Encloses q (length later) (length last) body after states) ends y.1.1;
      starting = z ∙ ap (λ (q : ℕ). Some (Capture q body)) starts;
    }

    one : length middle ≡ length old + 1
    one = grown old middle (Accept number) accept a

    two : length later ≡ length middle + 1
    two = grown middle later (Capture end accept) after b

-- ---- several patterns

Begins-is : (states : List State) (first : ℕ) (P Q : Aim → ℕ → Type 0) → ((a : Aim) (i : ℕ) → P a i → Q a i)
    → ((a : Aim) (i : ℕ) → Q a i → P a i)
    → Begins states first P → Begins states first Q
Begins-is states first P Q to back b = record {
  sound = λ a n i e. to a i (b.sound a n i e);
  complete = λ a i q within. b.complete a i (back a i q) within;
  prefers = b.prefers;
}

-- where a fork leads
fork_to : (states : List State) (a : Aim) (n s i one other : ℕ) → slice_get states s ≡ Some (Fork one other) → StepsLead states a n s i
    → (m : ℕ) × (StepsLead states a m one i ⊎ StepsLead states a m other i)
fork_to states a zero s i one other is e = absurd (true≢false (sym (ap may_accept e.0) ∙ ap may_accept is))
fork_to states a (suc n) s i one other is e =
    let step = step_of states a.subject a.end s (s, i) (e.1, e.2) (Fork one other) refl is e.3 in
    let here = subst (λ (k : ℕ). StepsLead states a n e.1 k) step.1 e.4 in (
      n,
      ⊎_elim
          (λ (h : e.1 ≡ one). inl (subst (λ (t : ℕ). StepsLead states a n t i) h here))
          (λ (h : e.1 ≡ other). inr (subst (λ (t : ℕ). StepsLead states a n t i) h here))
          step.0,
    )

Begins-either : (states : List State) (s one other : ℕ) (P Q : Aim → ℕ → Type 0) → slice_get states s ≡ Some (Fork one other)
    → Begins states one P → Begins states other Q → ((a b : Aim) (i j : ℕ) → P a i → Q b j → a.pattern < b.pattern)
    → Begins states s (λ (a : Aim) (i : ℕ). P a i ⊎ Q a i)
Begins-either states s one other P Q is b c apart = record {
  sound = λ a n i e.
      let w = fork_to states a n s i one other is e in
      ⊎_elim (λ (x : StepsLead states a w.0 one i). inl (b.sound a w.0 i x)) (λ (x : StepsLead states a w.0 other i). inr (c.sound a w.0 i x)) w.1;
  complete = λ a i h within. ⊎_elim
      (λ (x : P a i). choice_first states a s i one other (inl is) (b.complete a i x within))
      (λ (x : Q a i). choice_next states a s i one other (inl is) (c.complete a i x within))
      h;
  prefers = PrefersFrom-fork states s one other P Q is b c apart;
}

same_some : (p q : Pattern) → Some p ≡ Some q → p ≡ q
same_some p q e = cc

-- the last of the patterns
last-is : (patterns : List Pattern) (n : ℕ) (p : Pattern) → slice_get patterns n ≡ Some p → (a : Aim) (i : ℕ) → IsOfOne n p a i
    → IsOfSome n patterns a i
last-is patterns n p at a i s = (omega (arith, s.0), p, (subst (λ (m : ℕ). slice_get patterns m ≡ Some p) (sym s.0) at), s.1)

last-back : (patterns : List Pattern) (n : ℕ) (p : Pattern) → slice_get patterns n ≡ Some p → n + 1 ≡ length patterns → (a : Aim) (i : ℕ)
    → IsOfSome n patterns a i → IsOfOne n p a i
last-back patterns n p at last a i s =
    let there = slice_get_within patterns a.pattern s.1 s.2 in
    let same : a.pattern ≡ n = omega (arith, there, last, s.0) in
    let its : s.1 ≡ p = same_some s.1 p (sym s.2 ∙ (subst (λ (m : ℕ). slice_get patterns m ≡ Some p) (sym same) at)) in
    (same, subst (λ (q : Pattern). Goes a.subject q i a.position) its s.3)

-- the patterns from the number n on begin at a state; and if all are these groups' patterns, their states name what is there
abbrev SomeBegin : GroupLists → List State → List State → ℕ → ℕ → List Pattern → List State → Type 0
SomeBegin groups old new first n patterns states =
    Begins states first (IsOfSome n patterns)
    × (length patterns ≤ length groups → AreSoundIn groups (some_ask (drop n patterns)) old new first states)
    × OrdersSome states (slot_number groups) (length new) first n patterns

-- a test of the patterns from a number on is one of the first of them, or of those after it
any_from : (patterns : List Pattern) (n : ℕ) (p : Pattern) → slice_get patterns n ≡ Some p → (f : Look)
    → some_ask (drop n patterns) f ≡ (asked_by p f || some_ask (drop (n + 1) patterns) f)
any_from [] n p e f = absurd (cc)
any_from (q ∷ rest) zero p e f = ap (λ (r : Pattern). asked_by r f || some_ask rest f) (same_some q p e)
any_from (q ∷ rest) (suc n) p e f = let one : suc n + 1 ≡ suc (n + 1) = omega arith in rw one (any_from rest n p e f)

any_last : (patterns : List Pattern) (n : ℕ) (p : Pattern) → slice_get patterns n ≡ Some p → n + 1 ≡ length patterns → (f : Look)
    → some_ask (drop n patterns) f ≡ asked_by p f
any_last patterns n p at last f =
    any_from patterns n p at f
    ∙ (ap (λ (m : ℕ). asked_by p f || some_ask (drop m patterns) f) last
    ∙ (ap (λ (rest : List Pattern). asked_by p f || some_ask rest f) (drop-length patterns) ∙ or_none (asked_by p f)))

pub Adds-last : (groups : GroupLists) (old new : List State) (first n : ℕ) (p : Pattern) (patterns : List Pattern) → slice_get patterns n ≡ Some p
    → n + 1 ≡ length patterns
    → Adds old new (λ (states : List State). Begins states first (IsOfOne n p)
    × (n < length groups → AreSoundIn groups (asked_by p) old new first states)
    × OrdersOne states (slot_number groups n) (length new) first n p)
    → Adds old new (λ (states : List State). Begins states first (IsOfSome n patterns)
    × (length patterns ≤ length groups → AreSoundIn groups (some_ask (drop n patterns)) old new first states)
    × OrdersSome states (slot_number groups) (length new) first n patterns)
Adds-last groups old new first n p patterns at last x =
    Adds-is old new (OneBegins groups old new first n p) (SomeBegin groups old new first n patterns)
    (λ states b. (
      Begins-is states first (IsOfOne n p) (IsOfSome n patterns) (last-is patterns n p at) (last-back patterns n p at last) b.0,
      λ l. AreSound-alike (2 * all_group_count groups) (length groups) (asked_by p) (some_ask (drop n patterns)) (length old) (length new) first states
          (λ f. sym (any_last patterns n p at last f)) (b.1 (omega (arith, l, last))),
      OrdersSome-last states (slot_number groups) (length new) first n p patterns at last b.2,
    )) x

-- a pattern before others
more-is : (patterns : List Pattern) (n : ℕ) (p : Pattern) → slice_get patterns n ≡ Some p → (a : Aim) (i : ℕ)
    → IsOfOne n p a i ⊎ IsOfSome (n + 1) patterns a i → IsOfSome n patterns a i
more-is patterns n p at a i (inl s) = last-is patterns n p at a i s
more-is patterns n p at a i (inr s) = (omega (arith, s.0), s.1, s.2, s.3)

more-back : (patterns : List Pattern) (n : ℕ) (p : Pattern) → slice_get patterns n ≡ Some p → (a : Aim) (i : ℕ)
    → IsOfSome n patterns a i → IsOfOne n p a i ⊎ IsOfSome (n + 1) patterns a i
more-back patterns n p at a i s = ⊎_elim
    (λ (same : a.pattern ≡ n).
    let its : s.1 ≡ p = same_some s.1 p (sym s.2 ∙ (subst (λ (m : ℕ). slice_get patterns m ≡ Some p) (sym same) at)) in
    inl (same, subst (λ (q : Pattern). Goes a.subject q i a.position) its s.3))
    (λ (apart : (a.pattern ≡ n) → ⊥). inr (above a.pattern s.0 apart, s.1, s.2, s.3))
    (cases_eq a.pattern n)
  where
    above : (m : ℕ) → n ≤ m → ((m ≡ n) → ⊥) → n + 1 ≤ m
    above m le apart = ⊎_elim (λ (l : n < m). omega (arith, l)) (λ (l : m ≤ n). absurd (apart (omega (arith, l, le)))) (cases_lt n m)

pub Adds-more : (groups : GroupLists) (old middle last new : List State) (one first id n : ℕ) (p : Pattern) (patterns : List Pattern)
    → slice_get patterns n ≡ Some p
    → Adds old middle (λ (states : List State). Begins states first (IsOfSome (n + 1) patterns)
    × (length patterns ≤ length groups → AreSoundIn groups (some_ask (drop (n + 1) patterns)) old middle first states)
    × OrdersSome states (slot_number groups) (length middle) first (n + 1) patterns)
    → Adds middle last (λ (states : List State). Begins states one (IsOfOne n p)
    × (n < length groups → AreSoundIn groups (asked_by p) middle last one states)
    × OrdersOne states (slot_number groups n) (length last) one n p)
    → IsAdded last new (Fork one first) id
    → Adds old new (λ (states : List State). Begins states id (IsOfSome n patterns)
    × (length patterns ≤ length groups → AreSoundIn groups (some_ask (drop n patterns)) old new id states)
    × OrdersSome states (slot_number groups) (length new) id n patterns)
Adds-more groups old middle last new one first id n p patterns at x y a =
    Adds-both old last new Both
    (λ (states : List State). slice_get states id ≡ Some (Fork one first)) (SomeBegin groups old new id n patterns)
    (Adds-both old middle last (SomeBegin groups old middle first (n + 1) patterns) (OneBegins groups middle last one n p) Both x y (λ states b c. (b, c)))
    (Adds-one last new (Fork one first) id a)
    (λ states b is. (
      Begins-is states id (λ (t : Aim) (i : ℕ). IsOfOne n p t i ⊎ IsOfSome (n + 1) patterns t i) (IsOfSome n patterns)
          (more-is patterns n p at) (more-back patterns n p at)
          (Begins-either states id one first (IsOfOne n p) (IsOfSome (n + 1) patterns) is b.1.0 b.0.0 (λ s t i j x y. omega (arith, x.0, y.0))),
      λ l. AreSound-alike (2 * all_group_count groups) (length groups) (λ f. asked_by p f || some_ask (drop (n + 1) patterns) f) (some_ask (drop n patterns))
          (length old) (length new) id states (λ f. sym (any_from patterns n p at f))
          (AreSound-more (2 * all_group_count groups) (length groups) (asked_by p) (some_ask (drop (n + 1) patterns)) (length old)
          (length middle) (length last) (length new) one first id states x.longer y.longer a.last (grown last new (Fork one first) id a) (b.0.1 l)
          (b.1.1 (omega (arith, l, slice_get_within patterns n p at))) is),
      OrdersSome-more states (slot_number groups) (length middle) (length last) (length new) id one first n p patterns at is y.longer (omega (arith, a.last))
          (omega (arith, grown last new (Fork one first) id a)) b.1.0 b.0.0 b.1.2 b.0.2,
    ))
  where
    Both : List State → Type 0
    Both states = SomeBegin groups old middle first (n + 1) patterns states × OneBegins groups middle last one n p states

-- what was added is so in the list itself
pub Adds-now : (old new : List State) (P : List State → Type 0) → Adds old new P → P new
Adds-now old new P x = x.holds new (λ k l m. refl)

pub its_pattern : (parts : List Part) (k : ℕ) (part : Part) → k < length parts → part ≡ get_or parts k part
    → slice_get (map pattern_of parts) k ≡ Some (pattern_of part)
its_pattern parts k part l is =
    slice_get-map pattern_of parts k ∙ ap (option_map pattern_of) (slice_get_read parts (length parts) k part refl l is)

-- the match that is looked for, in a search
abbrev aim_of : Search → Matched → Aim
aim_of e found = record { subject = subject_of e; end = e.end; pattern = found.pattern; position = found.span.end }

-- ---- from a run to a way

-- the places of a run from k on are a way to its match, if n steps are left
way_from : (e : Search) (found : Matched) (run : List (ℕ × ℕ)) → IsRun e.states e.terminator e.word_chars e.haystack e.start e.end run
    → IsMatchOf e run found → (n k : ℕ) → k + n + 1 ≡ length run → StepsLead e.states (aim_of e found) n (place run k).0 (place run k).1
way_from e found run r m zero k last =
    let same : length run - 1 ≡ k = omega (arith, last) in
    let pattern = rw same at m.pattern in
    let end = rw same at m.end in
    (pattern, sym end, (r.places k (omega (arith, last))).2)
way_from e found run r m (suc n) k last = (
  (r.places k (omega (arith, last))).2,
  (place run (k + 1)).0,
  (place run (k + 1)).1,
  r.steps k (omega (arith, last)),
  way_from e found run r m n (k + 1) (omega (arith, last)),
)

-- ---- from a way to a run

-- a run to the match from a place
record Run (e : Search) (found : Matched) (s i : ℕ) : Type 0 where
  run : List (ℕ × ℕ)
  is_run : IsRun e.states e.terminator e.word_chars e.haystack e.start e.end run
  some : 0 < length run
  begins : place run 0 ≡ (s, i)
  pattern : slice_get e.states (place run (length run - 1)).0 ≡ Some (Accept found.pattern)
  end : (place run (length run - 1)).1 ≡ found.span.end

-- a place before a run
before : (e : Search) (found : Matched) (s i t k : ℕ) → e.start ≤ i → i ≤ e.end → Leads e (s, i) (t, k) → Run e found t k → Run e found s i
before e found s i t k low high step r = record {
  run = (s, i) ∷ r.run;
  is_run = run-before e (s, i) r.run (step-within e (s, i) (t, k) step, low, high) (λ some. subst (λ (q : ℕ × ℕ). Leads e (s, i) q) (sym r.begins) step)
      r.is_run;
  some = omega arith;
  begins = refl;
  pattern = rw back r.pattern;
  end = rw back r.end;
}
  where
    back : place ((s, i) ∷ r.run) (length ((s, i) ∷ r.run) - 1) ≡ place r.run (length r.run - 1)
    back = let one : length ((s, i) ∷ r.run) - 1 ≡ suc (length r.run - 1) = omega (arith, r.some) in ap (λ (n : ℕ). place ((s, i) ∷ r.run) n) one

run_from : (e : Search) (found : Matched) (n s i : ℕ) → e.start ≤ i → StepsLead e.states (aim_of e found) n s i → Run e found s i
run_from e found zero s i low x = record {
  run = (s, i) ∷ [];
  is_run = record {
    places = λ n l.
        let none : n ≡ 0 = omega (arith, l) in
        rw none (slice_get_within e.states s (Accept found.pattern) x.0, low, omega (arith, x.1, x.2));
    steps = λ n l. absurd (omega (arith, l));
  };
  some = omega arith;
  begins = refl;
  pattern = x.0;
  end = x.1;
}
run_from e found (suc n) s i low x =
    let up = leads-rises e (s, i) (x.1, x.2) x.3 in
    before e found s i x.1 x.2 low x.0 x.3 (run_from e found n x.1 x.2 (omega (arith, low, up)) x.4)

-- ---- both

-- the state of a match accepts its pattern, if that is wanted
accepting : (wanted : Option ℕ) (o : Option State) (q : ℕ) → o ≡ Some (Accept q) → is_allowed wanted q ≡ is_accepting wanted o
accepting wanted o q e = rw e refl

has_match : (e : Search) (patterns : List Pattern) (found : Matched) → Begins e.states e.start_state (IsOfSome 0 patterns)
    → HasRunOf e found → IsMatchIn patterns e found
has_match e patterns found b h =
    let r = h.is_match in
    let way = way_from e found h.run r.is_run h.makes (length h.run - 1) 0 (omega (arith, r.some)) in
    let here : StepsLead e.states (aim_of e found) (length h.run - 1) e.start_state found.span.start =
    subst (λ (p : ℕ × ℕ). StepsLead e.states (aim_of e found) (length h.run - 1) p.0 p.1) r.begins way in
    let s = b.sound (aim_of e found) (length h.run - 1) found.span.start here in
    record {
      pattern = s.1;
      is_pattern = s.2;
      allowed = accepting (only_pattern e.mode) (slice_get e.states (place h.run (length h.run - 1)).0) found.pattern h.makes.pattern ∙ r.ends;
      start = subst (λ (p : ℕ × ℕ). e.start ≤ p.1) r.begins ((r.is_run.places 0 r.some).1);
      end = omega (arith, h.makes.end, (r.is_run.places (length h.run - 1) (omega (arith, r.some))).2);
      goes = s.3;
    }

has_run : (e : Search) (patterns : List Pattern) (found : Matched) → Begins e.states e.start_state (IsOfSome 0 patterns)
    → IsMatchIn patterns e found → HasRunOf e found
has_run e patterns found b m =
    let h = b.complete (aim_of e found) found.span.start (omega arith, m.pattern, m.is_pattern, m.goes) m.end in
    let r = run_from e found h.steps e.start_state found.span.start m.start h.ends in
    record {
      run = r.run;
      is_match = record {
        is_run = r.is_run;
        some = r.some;
        begins = r.begins;
        ends = sym (accepting (only_pattern e.mode) (slice_get e.states (place r.run (length r.run - 1)).0) found.pattern r.pattern) ∙ m.allowed;
      };
      makes = record { pattern = r.pattern; start = sym (ap (λ (p : ℕ × ℕ). p.1) r.begins); end = sym r.end };
    }

pub Recognizes-built : {W : Type 0} (chars : W → ℕ → Bool) (program : Compiled W) (patterns : List Pattern)
    → Begins program.automaton.states program.start (IsOfSome 0 patterns) → Recognizes chars program patterns
Recognizes-built chars program patterns b = record {
  exactly = λ input found. (has_match (search_in chars program input) patterns found b, has_run (search_in chars program input) patterns found b);
}
