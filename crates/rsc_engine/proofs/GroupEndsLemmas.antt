-- What a run to a match records in the slots of the whole match, and what captures hold there.
use Rattle.std.proofs.Common.{nat_eq, cond, ◌≡◌, ℕ, ◌+◌, ◌*◌, ◌<◌, ◌≤◌, ⊎_elim, Bool, true, false, List, length, slice_index_or, refl, sym, ap, ◌∙◌, subst, arith, Option, Some, None}
use Rattle.std.proofs.lemmas.Bool.{lt-ltb, eq-eqb, ne_eqb, cases_eq}
use Rattle.std.proofs.lemmas.Bool.Decides.{nat_tests}
use Rattle.std.proofs.lemmas.Option.{slice_get_within}
use Rattle.rsc_nfa.specs.Steps.{place, recorded}
use Rattle.rsc_search.specs.Inputs.{InputParts}
use Rattle.rsc_search.specs.Matches.{Matched}
use Rattle.rsc_captures.specs.Groups.{GroupLists, group_count, slot_of}
use Rattle.rsc_captures.specs.Captured.{Captured, first_slot, group_span}
use Rattle.rsc_engine.specs.Searches.{Search, Compiled, search_in}
use Rattle.rsc_engine.specs.Runs.{IsMatchRun, IsMatchOf, AreRecords}
use Rattle.rsc_engine.specs.Preferred.{IsMatchWithRecords}
use Rattle.rsc_engine.specs.Patterns.{Pattern, subject_of, Recognizes}
use Rattle.rsc_engine.specs.PatternOrder.{RecordsWays}
use Rattle.rsc_engine.specs.GroupEnds.{RecordsEnds}
use Rattle.rsc_engine.specs.GroupsLayout.{HoldEnds}
use Rattle.rsc_engine.specs.BackwardLayout.{IsStartOf}
use Rattle.rsc_engine.proofs.RefusalsLemmas.{pattern_there}
use Rattle.rsc_engine.proofs.WaysLemmas.{whole-records, whole-others}

-- a run goes on a way of its pattern, which records its ends
pub RecordsEnds-built : {W : Type 0} (chars : W → ℕ → Bool) (program : Compiled W) (patterns : List Pattern) → Recognizes chars program patterns
    → RecordsWays chars program patterns → length patterns ≡ length program.automaton.groups → RecordsEnds chars program
RecordsEnds-built chars program patterns r ways same = record {
  start = λ input run found m f. (ends input run found m f).0;
  end = λ input run found m f. (ends input run found m f).1;
  others = λ input run found slot m f l first second.
      let its = (r.exactly input found).0 (record { run = run; is_match = m; makes = f }) in
      let w = ways.way input run found its.pattern m f its.is_pattern in
      w.2 slot
      ∙ whole-others
      (subject_of (search_in chars program input)) program.automaton.groups found.pattern its.pattern found.span.start found.span.end slot w.0 l
      first second w.1;
}
  where
    ends : (input : InputParts) (run : List (ℕ × ℕ)) (found : Matched)
        → IsMatchRun (search_in chars program input) (program.start, found.span.start) run → IsMatchOf (search_in chars program input) run found
        → (recorded program.automaton.states run (2 * found.pattern) ≡ Some found.span.start)
        × (recorded program.automaton.states run (2 * found.pattern + 1) ≡ Some found.span.end)
    ends input run found m f =
        let its = (r.exactly input found).0 (record { run = run; is_match = m; makes = f }) in
        let w = ways.way input run found its.pattern m f its.is_pattern in
        let there = slice_get_within patterns found.pattern its.pattern its.is_pattern in
        let both = whole-records (subject_of (search_in chars program input)) program.automaton.groups found.pattern its.pattern found.span.start
        found.span.end w.0 (omega (arith, there, same)) w.1 in
        (w.2 (2 * found.pattern) ∙ both.0, w.2 (2 * found.pattern + 1) ∙ both.1)

-- where there are no slots but those of first groups, the ends are all that is recorded
pub ends-records : {W : Type 0} (chars : W → ℕ → Bool) (program : Compiled W) (input : InputParts) (p from j : ℕ) (slots : List (Option ℕ))
    → RecordsEnds chars program → (x : IsStartOf (search_in chars program input) p j from) → length slots ≤ 2 * length program.automaton.groups
    → HoldEnds p (record { start = from; end = j }) slots → AreRecords (search_in chars program input) x.run slots
ends-records chars program input p from j slots r x few hold s l = hold s l ∙ ⊎_elim
    (λ (second : s ≡ 2 * p + 1).
    ap (λ (b : Bool). cond b (Some j) (cond (nat_eq (2 * p) s) (Some from) None)) (eq-eqb (2 * p + 1) s (sym second))
    ∙ sym (subst (λ (k : ℕ). recorded program.automaton.states x.run k ≡ Some j) (sym second) (r.end input x.run found m f)))
    (λ (not_second : (s ≡ 2 * p + 1) → ⊥).
    ap (λ (b : Bool). cond b (Some j) (cond (nat_eq (2 * p) s) (Some from) None)) (ne_eqb (2 * p + 1) s (λ e. not_second (sym e))) ∙ ⊎_elim
    (λ (first : s ≡ 2 * p).
    ap (λ (b : Bool). cond b (Some from) None) (eq-eqb (2 * p) s (sym first))
    ∙ sym (subst (λ (k : ℕ). recorded program.automaton.states x.run k ≡ Some from) (sym first) (r.start input x.run found m f)))
    (λ (not_first : (s ≡ 2 * p) → ⊥).
    ap (λ (b : Bool). cond b (Some from) None) (ne_eqb (2 * p) s (λ e. not_first (sym e)))
    ∙ sym (r.others input x.run found s m f (omega (arith, l, few)) not_first not_second))
    (cases_eq s (2 * p)))
    (cases_eq s (2 * p + 1))
  where
    found : Matched
    found = record { pattern = p; span = record { start = from; end = j } }

    m : IsMatchRun (search_in chars program input) (program.start, from) x.run
    m = subst (λ (q : ℕ × ℕ). IsMatchRun (search_in chars program input) q x.run) (sym x.is_first.preferred.is_match.begins ∙ x.begins)
        x.is_first.preferred.is_match

    f : IsMatchOf (search_in chars program input) x.run found
    f = record { pattern = x.pattern; start = sym (ap (λ (q : ℕ × ℕ). q.1) x.begins); end = sym x.end }

-- ---- the slots of captures

pub slot_holds : (e : Search) (run : List (ℕ × ℕ)) (captures : Captured) (found : Matched) (slot i : ℕ)
    → (IsMatchRun e (e.start_state, found.span.start) run → IsMatchOf e run found → recorded e.states run slot ≡ Some i)
    → IsMatchRun e (e.start_state, (place run 0).1) run → IsMatchWithRecords e run found captures → slot < length captures.offsets
    → slice_index_or captures.offsets slot None ≡ Some i
slot_holds e run captures found slot i r m o l =
    o.records slot l ∙ r (subst (λ (at : ℕ). IsMatchRun e (e.start_state, at) run) (sym o.ends.start) m) o.ends

-- ---- the span of the first group

first_slot-whole : (groups : GroupLists) (q : ℕ) → 0 < group_count groups q → first_slot groups q 0 ≡ Some (2 * q)
first_slot-whole groups q some = go (nat_eq (length groups) 1) refl
  where
    go : (b : Bool) → nat_eq (length groups) 1 ≡ b → cond b (Some (2 * 0)) (slot_of groups q 0) ≡ Some (2 * q)
    go true e =
        let there = pattern_there groups q 0 some in
        let one : length groups ≡ 1 = grind (arith, nat_tests, e) in
        let none : q ≡ 0 = omega (arith, one, there) in
        rw none refl
    go false e = rw (lt-ltb 0 (group_count groups q) some) refl

-- where its two slots hold the match's start and end
pub whole_span : (captures : Captured) (found : Matched) → captures.pattern ≡ Some found.pattern → 0 < group_count captures.groups found.pattern
    → slice_index_or captures.offsets (2 * found.pattern) None ≡ Some found.span.start
    → slice_index_or captures.offsets (2 * found.pattern + 1) None ≡ Some found.span.end → group_span captures 0 ≡ Some found.span
whole_span captures found is some start end = rw (is, first_slot-whole captures.groups found.pattern some) (rw (start, end) refl)
