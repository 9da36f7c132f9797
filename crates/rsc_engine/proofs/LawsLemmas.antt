-- What first and next matches and ends are, of a program that recognizes patterns.
use Rattle.std.proofs.Common.{◌≡◌, ℕ, ◌-◌, ◌<◌, ◌≤◌, ◌⊎◌, ⊎_elim, false, List, length, slice_get, refl, sym, ap, subst, arith, Option, Some, None, ◌↔◌, true, true≢false}
use Rattle.std.proofs.lemmas.Bool.{cases_lt}
use Rattle.std.specs.List.{list_any}
use Rattle.rsc_nfa.specs.declared.state.State.{State}
use Rattle.rsc_nfa.specs.declared.state.State.TheVariants.{ByteRange, Assert, Fork, Capture, Accept}
use Rattle.rsc_nfa.specs.Steps.{place}
use Rattle.rsc_engine.specs.Patterns.{Pattern, subject_of, may_be_empty, IsMatchIn, HasRunOf}
use Rattle.rsc_search.specs.Matches.{Matched}
use Rattle.rsc_search.specs.Modes.{only_pattern}
use Rattle.rsc_search.specs.declared.anchored.Anchored.TheVariants.{No}
use Rattle.rsc_engine.specs.Searches.{Search}
use Rattle.rsc_engine.specs.Runs.{IsMatchRun, is_accepting}
use Rattle.rsc_captures.specs.Captured.{Captured}
use Rattle.rsc_engine.specs.Preferred.{IsFirstMatch, MayBegin, HasNoFirstMatch}
use Rattle.rsc_engine.specs.NextMatches.{MayBeNext, IsEmpty, IsRepeatAt, SplitsAt, IsLeftOutAt, IsOver, IsNextMatch}
use Rattle.rsc_engine.specs.Ends.{IsMatchEnd, IsEarliestEnd}
use Rattle.rsc_engine.proofs.PatternsLemmas.{goes-forward, goes-takes, takes-at}

-- ---- the first match

pub first_is_in : (e : Search) (patterns : List Pattern) (captures : Captured) (found : Matched)
    → ((other : Matched) → HasRunOf e other ↔ IsMatchIn patterns e other) → IsFirstMatch e captures found → IsMatchIn patterns e found
first_is_in e patterns captures found both f = (both found).0 (record {
  run = f.run;
  is_match = subst (λ (i : ℕ). IsMatchRun e (e.start_state, i) f.run) (sym f.is_of.ends.start) f.is_first.preferred.is_match;
  makes = f.is_of.ends;
})

pub none_before : (e : Search) (patterns : List Pattern) (captures : Captured) (found other : Matched)
    → ((other : Matched) → HasRunOf e other ↔ IsMatchIn patterns e other) → IsFirstMatch e captures found → other.span.start < found.span.start
    → IsMatchIn patterns e other → ⊥
none_before e patterns captures found other both f l m =
    let r = (both other).1 m in
    f.is_first.leftmost other.span.start m.start (omega (arith, l, f.is_of.ends.start)) r.run r.is_match

pub none_at_all : (e : Search) (patterns : List Pattern) (other : Matched) → ((other : Matched) → HasRunOf e other ↔ IsMatchIn patterns e other)
    → HasNoFirstMatch e → MayBegin e other.span.start → IsMatchIn patterns e other → ⊥
none_at_all e patterns other both none begins m =
    let r = (both other).1 m in
    none other.span.start begins r.run r.is_match

-- ---- the next match

pub next_is_in : (e : Search) (patterns : List Pattern) (last : Option ℕ) (captures : Captured) (found : Matched)
    → ((other : Matched) → HasRunOf e other ↔ IsMatchIn patterns e other) → IsNextMatch e last captures found → IsMatchIn patterns e found
next_is_in e patterns last captures found both f = (both found).0 (record {
  run = f.run;
  is_match = subst (λ (i : ℕ). IsMatchRun e (e.start_state, i) f.run) (sym f.is_of.ends.start) f.is_next.preferred.is_match;
  makes = f.is_of.ends;
})

pub why_passed : (e : Search) (patterns : List Pattern) (last : Option ℕ) (other : Matched)
    → ((other : Matched) → HasRunOf e other ↔ IsMatchIn patterns e other) → IsLeftOutAt e last other.span.start → IsMatchIn patterns e other
    → IsRepeatAt e last other.span.start ⊎ SplitsAt e other.span.start
why_passed e patterns last other both passed m =
    let r = (both other).1 m in
    ⊎_elim (λ none. absurd (none r.run r.is_match)) (λ why. why) passed

-- ---- the first match to end

-- a state that accepts does so for some pattern
pub accepted : (wanted : Option ℕ) (o : Option State) → is_accepting wanted o ≡ true → (q : ℕ) × (o ≡ Some (Accept q))
accepted wanted None h = absurd (true≢false (sym h))
accepted wanted (Some (ByteRange a b next)) h = absurd (true≢false (sym h))
accepted wanted (Some (Assert l next)) h = absurd (true≢false (sym h))
accepted wanted (Some (Fork a b)) h = absurd (true≢false (sym h))
accepted wanted (Some (Capture slot next)) h = absurd (true≢false (sym h))
accepted wanted (Some (Accept q)) h = (q, refl)

-- what ends at a position is a match of a pattern
pub end_is_in : (e : Search) (patterns : List Pattern) (i : ℕ) → ((other : Matched) → HasRunOf e other ↔ IsMatchIn patterns e other)
    → (x : IsMatchEnd e i)
    → (found : Matched) × IsMatchIn patterns e found × MayBegin e found.span.start × (found.span.end ≡ i) × (found.span.start ≡ x.from)
end_is_in e patterns i both x =
    let q = accepted (only_pattern e.mode) (slice_get e.states (place x.run (length x.run - 1)).0) x.is_match.ends in
    let found : Matched = record { pattern = q.0; span = record { start = x.from; end = i } } in (
      found,
      (both found).0 (record {
        run = x.run;
        is_match = x.is_match;
        makes = record { pattern = q.1; start = sym (ap (λ (p : ℕ × ℕ). p.1) x.is_match.begins); end = sym x.ends };
      }),
      x.begins,
      refl,
      refl,
    )

pub none_ends_before : (e : Search) (patterns : List Pattern) (i : ℕ) (other : Matched)
    → ((other : Matched) → HasRunOf e other ↔ IsMatchIn patterns e other)
    → IsEarliestEnd e i → MayBegin e other.span.start → other.span.end < i → IsMatchIn patterns e other → ⊥
none_ends_before e patterns i other both h begins l m =
    let r = (both other).1 m in
    h.none_before other.span.end l (record { from = other.span.start; run = r.run; begins = begins; is_match = r.is_match; ends = sym r.makes.end })

-- ---- side by side

-- where no pattern may be empty, no match run is
not_empty : (e : Search) (patterns : List Pattern) (at : ℕ) (run : List (ℕ × ℕ))
    → ((other : Matched) → HasRunOf e other ↔ IsMatchIn patterns e other)
    → list_any may_be_empty patterns ≡ false → IsMatchRun e (e.start_state, at) run → IsEmpty run → ⊥
not_empty e patterns at run both none m empty =
    let begins : (place run 0).1 ≡ at = ap (λ (p : ℕ × ℕ). p.1) m.begins in
    let q = accepted (only_pattern e.mode) (slice_get e.states (place run (length run - 1)).0) m.ends in
    let found : Matched = record { pattern = q.0; span = record { start = at; end = (place run (length run - 1)).1 } } in
    let r = (both found).0 (record { run = run; is_match = m; makes = record { pattern = q.1; start = sym begins; end = refl } }) in
    let takes = goes-takes (subject_of e) r.pattern at (place run (length run - 1)).1 (takes-at patterns q.0 r.pattern none r.is_pattern) r.goes in
    omega (arith, takes, begins, empty)

pub next_at_start : (e : Search) (patterns : List Pattern) (last : Option ℕ) (captures : Captured) (found : Matched)
    → ((other : Matched) → HasRunOf e other ↔ IsMatchIn patterns e other) → list_any may_be_empty patterns ≡ false → (e.mode ≡ No → ⊥)
    → IsNextMatch e last captures found → found.span.start ≡ e.start
next_at_start e patterns last captures found both none anchored f =
    let opens = f.is_next.begins in ⊎_elim
    (λ (later : e.start < (place f.run 0).1).
    let r = opens.anchored anchored e.start (omega arith) later in
    absurd (not_empty e patterns e.start r.run both none r.preferred.is_match r.repeats.empty))
    (λ (l : (place f.run 0).1 ≤ e.start). omega (arith, l, opens.start, f.is_of.ends.start))
    (cases_lt e.start (place f.run 0).1)

-- so a position from which one matches isn't passed
not_passed : (e : Search) (patterns : List Pattern) (last : Option ℕ) (other : Matched)
    → ((other : Matched) → HasRunOf e other ↔ IsMatchIn patterns e other)
    → list_any may_be_empty patterns ≡ false → IsLeftOutAt e last other.span.start → IsMatchIn patterns e other → ⊥
not_passed e patterns last other both none passed m = ⊎_elim
    (λ no. let r = (both other).1 m in no r.run r.is_match)
    (λ why. ⊎_elim
    (λ (x : IsRepeatAt e last other.span.start). not_empty e patterns other.span.start x.run both none x.preferred.is_match x.repeats.empty)
    (λ (x : SplitsAt e other.span.start). not_empty e patterns other.span.start x.run both none x.preferred.is_match x.splits.empty)
    why)
    passed

its_start : (e : Search) (patterns : List Pattern) (other : Matched) → IsMatchIn patterns e other → other.span.start ≤ e.end
its_start e patterns other m =
    let forward = goes-forward (subject_of e) m.pattern other.span.start other.span.end m.goes in omega (arith, forward, m.end)

pub none_at_start : (e : Search) (patterns : List Pattern) (last : Option ℕ) (other : Matched)
    → ((other : Matched) → HasRunOf e other ↔ IsMatchIn patterns e other) → list_any may_be_empty patterns ≡ false → IsOver e last
    → other.span.start ≡ e.start → IsMatchIn patterns e other → ⊥
none_at_start e patterns last other both none over same m =
    not_passed e patterns last other both none
    (over other.span.start
    (record { start = m.start; end = its_start e patterns other m; anchored = λ a earlier l h. absurd (omega (arith, l, h, same)) })) m

-- in a search that isn't anchored each position of the span is open
free : (e : Search) (patterns : List Pattern) (last : Option ℕ) (other : Matched) → e.mode ≡ No → IsMatchIn patterns e other
    → MayBeNext e last other.span.start
free e patterns last other unanchored m = record { start = m.start; end = its_start e patterns other m; anchored = λ a. absurd (a unanchored) }

pub none_between : (e : Search) (patterns : List Pattern) (last : Option ℕ) (captures : Captured) (found other : Matched)
    → ((other : Matched) → HasRunOf e other ↔ IsMatchIn patterns e other) → list_any may_be_empty patterns ≡ false → e.mode ≡ No
    → IsNextMatch e last captures found → other.span.start < found.span.start → IsMatchIn patterns e other → ⊥
none_between e patterns last captures found other both none unanchored f l m =
    not_passed e patterns last other both none
    (f.is_next.left_out other.span.start (omega (arith, l, f.is_of.ends.start)) (free e patterns last other unanchored m)) m

pub none_after_all : (e : Search) (patterns : List Pattern) (last : Option ℕ) (other : Matched)
    → ((other : Matched) → HasRunOf e other ↔ IsMatchIn patterns e other) → list_any may_be_empty patterns ≡ false → e.mode ≡ No → IsOver e last
    → IsMatchIn patterns e other → ⊥
none_after_all e patterns last other both none unanchored over m =
    not_passed e patterns last other both none (over other.span.start (free e patterns last other unanchored m)) m
