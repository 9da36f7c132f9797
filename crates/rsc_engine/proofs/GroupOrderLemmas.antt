-- A group that begins on a way of a pattern ends there or later.
use Rattle.std.proofs.Common.{nat_eq, nat_lt, ◌≡◌, ℕ, zero, suc, ◌+◌, ◌*◌, ◌-◌, ◌<◌, ◌≤◌, ◌⊎◌, inl, inr, ⊎_elim, Bool, true, false, cond, List, [], ◌∷◌, length, slice_get, slice_index_or, refl, sym, ap, ◌∙◌, subst, arith, Option, Some, None, option_and_then}
use Rattle.std.specs.Option.{option_map}
use Rattle.std.proofs.lemmas.Bool.{cases_lt, cases_eq}
use Rattle.std.proofs.lemmas.List.{get_or_past}
use Rattle.std.proofs.lemmas.Option.{same_Some}
use Rattle.rsc_nfa.specs.Steps.{place, recorded}
use Rattle.rsc_search.specs.Inputs.{InputParts}
use Rattle.rsc_search.specs.declared.span.Span.{Span}
use Rattle.rsc_search.specs.Matches.{Matched}
use Rattle.rsc_search.specs.Modes.{only_pattern}
use Rattle.rsc_captures.specs.Groups.{GroupLists, group_count, slot_number, slot_of, explicit_before}
use Rattle.rsc_captures.specs.Captured.{Captured, span_at, first_slot, group_span}
use Rattle.rsc_engine.specs.Searches.{Search, Compiled, search_in}
use Rattle.rsc_engine.specs.Runs.{IsMatchRun, IsMatchOf}
use Rattle.rsc_engine.specs.Preferred.{IsMatchWithRecords}
use Rattle.rsc_engine.specs.Patterns.{Pattern, Empty, Never, Class, Literal, Assertion, Then, Either, Repeat, Group, Subject, subject_of, Recognizes}
use Rattle.rsc_engine.specs.Ways.{Point, last_in, with_record, TimesWith, GoesWith}
use Rattle.rsc_engine.specs.GroupNumbers.{group_count_in, numbered}
use Rattle.rsc_engine.specs.PatternOrder.{RecordsWays}
use Rattle.rsc_engine.specs.GroupOrder.{ClosesGroups}
use Rattle.rsc_engine.proofs.LawsLemmas.{accepted}
use Rattle.rsc_engine.proofs.PatternsLemmas.{goes-forward}
use Rattle.rsc_engine.proofs.WaysLemmas.{same_slot, other_slot, slot_later}

-- ---- along a way

-- nothing was recorded later than here; and in each pair of slots, but those of groups that are open, what is in the first has an end in the second
record IsClosedBut (Opens : ℕ → Type 0) (m : Point) : Type 0 where
  before : (slot i : ℕ) → last_in m.1 slot ≡ Some i → i ≤ m.0
  closed : (pair i : ℕ) → (Opens pair → ⊥) → last_in m.1 (2 * pair) ≡ Some i → (j : ℕ) × (last_in m.1 (2 * pair + 1) ≡ Some j) × (i ≤ j)

closed-later : (Opens : ℕ → Type 0) (m k : Point) → m.1 ≡ k.1 → m.0 ≤ k.0 → IsClosedBut Opens m → IsClosedBut Opens k
closed-later Opens m k same l c = record {
  before = λ slot i h. let b = c.before slot i (ap (λ (r : List (ℕ × ℕ)). last_in r slot) same ∙ h) in omega (arith, b, l);
  closed = λ pair i none h.
      let r = c.closed pair i none (ap (λ (r : List (ℕ × ℕ)). last_in r (2 * pair)) same ∙ h) in
      (r.0, ap (λ (r : List (ℕ × ℕ)). last_in r (2 * pair + 1)) (sym same) ∙ r.1, r.2);
}

-- a record at the position
recorded-before : (slot : ℕ) (m : Point) → ((other i : ℕ) → last_in m.1 other ≡ Some i → i ≤ m.0) → (other i : ℕ)
    → last_in ((slot, m.0) ∷ m.1) other ≡ Some i → i ≤ m.0
recorded-before slot m before other i h = ⊎_elim
    (λ (same : slot ≡ other).
    let at : m.0 ≡ i = same_Some m.0 i (sym (subst (λ (s : ℕ). last_in ((slot, m.0) ∷ m.1) s ≡ Some m.0) same (same_slot slot m.0 m.1)) ∙ h) in
    omega (arith, at))
    (λ (apart : (slot ≡ other) → ⊥). before other i (sym (other_slot slot other m.0 m.1 apart) ∙ h))
    (cases_eq slot other)

opened : (Opens : ℕ → Type 0) (slot pair : ℕ) (m : Point) → slot ≡ 2 * pair → IsClosedBut Opens m
    → IsClosedBut (λ q. Opens q ⊎ (q ≡ pair)) (with_record slot m)
opened Opens slot pair m is c = record {
  before = λ other i h. recorded-before slot m (λ s j at. c.before s j at) other i h;
  closed = λ other i none h.
      let r = c.closed other i (λ o. none (inl o))
      (sym (other_slot slot (2 * other) m.0 m.1 (λ e. none (inr (omega (arith, e, is))))) ∙ h) in
      (r.0, other_slot slot (2 * other + 1) m.0 m.1 (λ e. absurd (omega (arith, e, is))) ∙ r.1, r.2);
}

ended : (Opens : ℕ → Type 0) (slot pair : ℕ) (m : Point) → slot ≡ 2 * pair → IsClosedBut (λ q. Opens q ⊎ (q ≡ pair)) m
    → IsClosedBut Opens (with_record (slot + 1) m)
ended Opens slot pair m is c = record {
  before = λ other i h. recorded-before (slot + 1) m (λ s j at. c.before s j at) other i h;
  closed = λ other i none h.
      let at : last_in m.1 (2 * other) ≡ Some i = sym (other_slot (slot + 1) (2 * other) m.0 m.1 (λ e. absurd (omega (arith, e, is)))) ∙ h in ⊎_elim
      (λ (same : other ≡ pair).
      let there : slot + 1 ≡ 2 * other + 1 = omega (arith, same, is) in
      (m.0, subst (λ (s : ℕ). last_in ((slot + 1, m.0) ∷ m.1) s ≡ Some m.0) there (same_slot (slot + 1) m.0 m.1), c.before (2 * other) i at))
      (λ (apart : (other ≡ pair) → ⊥).
      let r = c.closed other i (λ o. ⊎_elim (λ (p : Opens other). none p) (λ (e : other ≡ pair). apart e) o) at in
      (r.0, other_slot (slot + 1) (2 * other + 1) m.0 m.1 (λ e. apart (omega (arith, e, is))) ∙ r.1, r.2))
      (cases_eq other pair);
}

times-closed : (Opens : ℕ → Type 0) (R : Point → Point → Type 0) → ((m k : Point) → IsClosedBut Opens m → R m k → IsClosedBut Opens k)
    → (t : ℕ) (m k : Point)
    → IsClosedBut Opens m → TimesWith R t m k → IsClosedBut Opens k
times-closed Opens R along zero m k c g = subst (IsClosedBut Opens) g c
times-closed Opens R along (suc t) m k c g = times-closed Opens R along t g.0 k (along m g.0 c g.1) g.2

closed-along : (f : ℕ → ℕ) → ((g : ℕ) → (h : ℕ) × (f g ≡ 2 * h))
    → (x : Subject) (p : Pattern) (n : ℕ) (Opens : ℕ → Type 0) (m k : Point)
    → IsClosedBut Opens m → GoesWith x (numbered f n p) m k → IsClosedBut Opens k
closed-along f even x Empty n Opens m k c g = subst (IsClosedBut Opens) g c
closed-along f even x Never n Opens m k c g = absurd g
closed-along f even x (Class ranges) n Opens m k c g = closed-later Opens m k g.1 (goes-forward x (Class ranges) m.0 k.0 g.0) c
closed-along f even x (Literal bytes) n Opens m k c g = closed-later Opens m k g.1 (goes-forward x (Literal bytes) m.0 k.0 g.0) c
closed-along f even x (Assertion look) n Opens m k c g = closed-later Opens m k g.1 (goes-forward x (Assertion look) m.0 k.0 g.0) c
closed-along f even x (Then a b) n Opens m k c g =
    closed-along f even x b (n + group_count_in a) Opens g.0 k (closed-along f even x a n Opens m g.0 c g.1) g.2
closed-along f even x (Either a b) n Opens m k c g = ⊎_elim
    (λ (w : GoesWith x (numbered f n a) m k). closed-along f even x a n Opens m k c w)
    (λ (w : GoesWith x (numbered f (n + group_count_in a) b) m k). closed-along f even x b (n + group_count_in a) Opens m k c w)
    g
closed-along f even x (Repeat min max greedy a) n Opens m k c g =
    times-closed Opens (GoesWith x (numbered f n a)) (closed-along f even x a n Opens) g.0 m k c g.3
closed-along f even x (Group slot a) n Opens m k c g =
    let e = even n in
    subst (IsClosedBut Opens) (sym g.2)
    (ended Opens (f n) e.0 g.0 e.1
    (closed-along f even x a (n + 1) (λ q. Opens q ⊎ (q ≡ e.0)) (with_record (f n) m) g.0 (opened Opens (f n) e.0 m e.1 c) g.1))

-- the first slot of each group is the first of a pair
even_slots : (lists : GroupLists) (m g : ℕ) → (h : ℕ) × (slot_number lists m g ≡ 2 * h)
even_slots lists m zero = (m, refl)
even_slots lists m (suc g) = (length lists + explicit_before lists m + g, omega (arith, slot_later lists m g))

-- ---- along a run

pub ClosesGroups-built : {W : Type 0} (chars : W → ℕ → Bool) (program : Compiled W) (patterns : List Pattern) → Recognizes chars program patterns
    → RecordsWays chars program patterns → ClosesGroups chars program
ClosesGroups-built chars program patterns r ways = record { closed = each }
  where
    none_there : (i : ℕ) → None ≡ Some i → ⊥
    none_there i h = absurd (cc)

    each : (input : InputParts) (run : List (ℕ × ℕ)) (at pair i : ℕ) → IsMatchRun (search_in chars program input) (program.start, at) run
        → recorded program.automaton.states run (2 * pair) ≡ Some i
        → (j : ℕ) × (recorded program.automaton.states run (2 * pair + 1) ≡ Some j) × (i ≤ j)
    each input run at pair i m is =
        let e = search_in chars program input in
        let q = accepted (only_pattern e.mode) (slice_get e.states (place run (length run - 1)).0) m.ends in
        let found : Matched = record { pattern = q.0; span = record { start = at; end = (place run (length run - 1)).1 } } in
        let makes : IsMatchOf e run found = record { pattern = q.1; start = sym (ap (λ (p : ℕ × ℕ). p.1) m.begins); end = refl } in
        let its = (r.exactly input found).0 (record { run = run; is_match = m; makes = makes }) in
        let w = ways.way input run found its.pattern m makes its.is_pattern in
        let all = closed-along (slot_number program.automaton.groups q.0) (even_slots program.automaton.groups q.0) (subject_of e) (Group 0 its.pattern) 0
        (λ p. ⊥) (at, []) (found.span.end, w.0)
        (record { before = λ slot j h. absurd (none_there j h); closed = λ other j none h. absurd (none_there j h) }) w.1 in
        let one = all.closed pair i (λ h. h) (sym (w.2 (2 * pair)) ∙ is) in
        (one.0, w.2 (2 * pair + 1) ∙ one.1, one.2)

-- ---- the slots of captures

pub slots_in_order : (e : Search) (run : List (ℕ × ℕ)) (captures : Captured) (found : Matched) (pair i : ℕ)
    → (recorded e.states run (2 * pair) ≡ Some i → (j : ℕ) × (recorded e.states run (2 * pair + 1) ≡ Some j) × (i ≤ j))
    → IsMatchWithRecords e run found captures → 2 * pair + 1 < length captures.offsets → slice_index_or captures.offsets (2 * pair) None ≡ Some i
    → (j : ℕ) × (slice_index_or captures.offsets (2 * pair + 1) None ≡ Some j) × (i ≤ j)
slots_in_order e run captures found pair i closed o l from =
    let r = closed (sym (o.records (2 * pair) (omega (arith, l))) ∙ from) in
    (r.0, o.records (2 * pair + 1) l ∙ r.1, r.2)

-- ---- the span of a group

-- the first slot of a group is the first of a pair
first_of_pair : (groups : GroupLists) (q g s : ℕ) → first_slot groups q g ≡ Some s → (pair : ℕ) × (s ≡ 2 * pair)
first_of_pair groups q g s e = only (nat_eq (length groups) 1) e
  where
    number : (b : Bool) → cond b (2 * q) (2 * length groups + 2 * explicit_before groups q + 2 * (g - 1)) ≡ s → (pair : ℕ) × (s ≡ 2 * pair)
    number true f = (q, sym f)
    number false f = (length groups + explicit_before groups q + (g - 1), omega (arith, f))

    there : (b : Bool) → cond b (Some (slot_number groups q g)) None ≡ Some s → (pair : ℕ) × (s ≡ 2 * pair)
    there true f = number (nat_eq g 0) (same_Some (slot_number groups q g) s f)
    there false f = absurd (cc)

    only : (b : Bool) → cond b (Some (2 * g)) (slot_of groups q g) ≡ Some s → (pair : ℕ) × (s ≡ 2 * pair)
    only true f = (g, sym (same_Some (2 * g) s f))
    only false f = there (nat_lt g (group_count groups q)) f

-- where a pair's second slot is set at or after its first, and offsets are between two positions, a group's span is in order and between them
pub span_in_order : (c : Captured) (g : ℕ) (span : Span) (low high : ℕ) → ((pair i : ℕ) → 2 * pair + 1 < length c.offsets
    → slice_index_or c.offsets (2 * pair) None ≡ Some i → (j : ℕ) × (slice_index_or c.offsets (2 * pair + 1) None ≡ Some j) × (i ≤ j))
    → ((slot i : ℕ) → slice_index_or c.offsets slot None ≡ Some i → (low ≤ i) × (i ≤ high)) → group_span c g ≡ Some span
    → (low ≤ span.start) × (span.start ≤ span.end) × (span.end ≤ high)
span_in_order c g span low high closed within e = at_pattern c.pattern e
  where
    IsInOrder : Type 0
    IsInOrder = (low ≤ span.start) × (span.start ≤ span.end) × (span.end ≤ high)

    at_end : (pair i : ℕ) → slice_index_or c.offsets (2 * pair) None ≡ Some i → (o : Option ℕ) → slice_index_or c.offsets (2 * pair + 1) None ≡ o
        → option_map (λ (to : ℕ). record { start = i; end = to }) o ≡ Some span → IsInOrder
    at_end pair i from None to f = absurd (cc)
    at_end pair i from (Some j) to f =
        let r = closed pair i room from in
        let ends : j ≡ r.0 = same_Some j r.0 (sym to ∙ r.1) in
        let same : record { start = i; end = j } ≡ span = same_Some (record { start = i; end = j }) span f in
        let start : i ≡ span.start = ap (λ (s : Span). s.start) same in
        let end : j ≡ span.end = ap (λ (s : Span). s.end) same in
        let first = within (2 * pair) i from in
        let last = within (2 * pair + 1) j to in
        (omega (arith, first.0, start), omega (arith, r.2, ends, start, end), omega (arith, last.1, end))
      where
        none_there : None ≡ Some j → ⊥
        none_there h = absurd (cc)

        room : 2 * pair + 1 < length c.offsets
        room = ⊎_elim (λ (l : 2 * pair + 1 < length c.offsets). l)
            (λ (l : length c.offsets ≤ 2 * pair + 1). absurd (none_there (sym (get_or_past c.offsets (2 * pair + 1) None l) ∙ to)))
            (cases_lt (2 * pair + 1) (length c.offsets))

    at_start : (pair : ℕ) (o : Option ℕ) → slice_index_or c.offsets (2 * pair) None ≡ o
        → option_and_then (λ (from : ℕ). option_map (λ (to : ℕ). record { start = from; end = to }) (slice_index_or c.offsets (2 * pair + 1) None)) o
        ≡ Some span → IsInOrder
    at_start pair None from f = absurd (cc)
    at_start pair (Some i) from f = at_end pair i from (slice_index_or c.offsets (2 * pair + 1) None) refl f

    at_slot : (q : ℕ) (o : Option ℕ) → first_slot c.groups q g ≡ o → option_and_then (λ (s : ℕ). span_at c.offsets s) o ≡ Some span → IsInOrder
    at_slot q None is f = absurd (cc)
    at_slot q (Some s) is f =
        let two = first_of_pair c.groups q g s is in
        at_start two.0 (slice_index_or c.offsets (2 * two.0) None) refl (subst (λ (n : ℕ). span_at c.offsets n ≡ Some span) two.1 f)

    at_pattern : (o : Option ℕ)
        → option_and_then (λ (q : ℕ). option_and_then (λ (s : ℕ). span_at c.offsets s) (first_slot c.groups q g)) o ≡ Some span
        → IsInOrder
    at_pattern None f = absurd (cc)
    at_pattern (Some q) f = at_slot q (first_slot c.groups q g) refl f
