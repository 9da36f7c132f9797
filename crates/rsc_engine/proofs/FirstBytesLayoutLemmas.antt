-- Where no byte is with which matches begin, none begins; so a search may as well begin behind such positions.
use Rattle.std.proofs.Common.{◌≡◌, ℕ, zero, suc, ◌+◌, ◌-◌, ◌<◌, ◌≤◌, ⊎_elim, ◌∙◌, Bool, true, false, ◌&&◌, List, length, slice_get, slice_index, Option, Some, None, MatchOption, IfNone, IsTrue, refl, sym, ap, arith, true≢false, nat_le}
use Rattle.std.proofs.lemmas.Bool.{cases_lt, leb-true, le-leb}
use Rattle.std.proofs.lemmas.Option.{get_or_from_slice_get}
use Rattle.rsc_search.specs.Modes.{only_pattern}
use Rattle.rsc_search.specs.declared.anchored.Anchored.TheVariants.{No}
use Rattle.rsc_nfa.specs.declared.state.State.{State}
use Rattle.rsc_nfa.specs.declared.state.State.TheVariants.{ByteRange, Assert, Fork, Capture, Accept}
use Rattle.rsc_nfa.specs.Steps.{StepsTo, place, is_between}
use Rattle.rsc_engine.specs.Searches.{Search}
use Rattle.rsc_engine.specs.Runs.{Leads, is_accepting, IsMatchRun, HasNoMatchFrom}
use Rattle.rsc_engine.specs.Preferred.{MayBegin, IsLeftmostFirst, HasNoFirstMatch}
use Rattle.rsc_engine.specs.Ends.{IsMatchEnd, IsEarliestEnd}
use Rattle.rsc_engine.specs.RowsLayout.{machine_of, IsMarked}
use Rattle.rsc_engine.specs.OrderedLayout.{IsEndOf}
use Rattle.rsc_engine.specs.AheadLayout.{start_at}
use Rattle.rsc_engine.specs.NeededLayout.{is_in}
use Rattle.rsc_engine.specs.FirstBytesLayout.{HasFirst, BeginsIn}
use Rattle.rsc_engine.proofs.PatternsLemmas.{between}
use Rattle.rsc_engine.proofs.PreferredLemmas.{match_shift, preferred_shift, none_shift}

of_range : (range : ℕ × ℕ) (low high x : ℕ) → (range.0 ≤ low) × (high ≤ range.1) → low ≤ x → x ≤ high → is_in range x ≡ true
of_range range low high x bounds above below =
    let least : nat_le range.0 x ≡ true = le-leb range.0 x (omega (arith, bounds.0, above)) in
    let most : nat_le x range.1 ≡ true = le-leb x range.1 (omega (arith, bounds.1, below)) in
    rw (least, most) refl

module _ (e : Search) (range : ℕ × ℕ) (f : HasFirst (machine_of e) range) (at : ℕ)
    (none : at < e.end → ¬ (is_in range (slice_index e.haystack at) ≡ true)) where
  -- a marked state at the position
  abbrev Waits : ℕ × ℕ → Type 0
  Waits p = (p.1 ≡ at) × IsMarked f.marks p.0

  step : (p q : ℕ × ℕ) → Waits p → Leads e p q → Waits q
  step p q w l = go (slice_get e.states p.0) refl l
    where
      to_next : (next : ℕ) → q.0 ≡ next → q.1 ≡ p.1 → IsMarked f.marks next → Waits q
      to_next next state position m = (position ∙ w.0, rw state m)

      go : (o : Option State) → slice_get e.states p.0 ≡ o
          → MatchOption o ⊥ (λ (state : State). StepsTo state e.terminator e.word_chars e.haystack e.end p.1 q) → Waits q
      go None is l = absurd l
      go (Some (ByteRange low high next)) is l =
          let byte = between low high (slice_get e.haystack p.1) l.1 in
          let there : slice_index e.haystack p.1 ≡ byte.0 = get_or_from_slice_get e.haystack p.1 byte.0 0 byte.1 in
          let here : slice_index e.haystack at ≡ byte.0 = ap (λ (k : ℕ). slice_index e.haystack k) (sym w.0) ∙ there in
          let within : at < e.end = omega (arith, w.0, l.0) in
          absurd (none within (rw here (of_range range low high byte.0 (f.begins p.0 (ByteRange low high next) is w.1) byte.2 byte.3)))
      go (Some (Assert look next)) is l = to_next next l.1 l.2 (f.begins p.0 (Assert look next) is w.1)
      go (Some (Fork s t)) is l = ⊎_elim
          (λ (h : q.0 ≡ s). to_next s h l.1 (f.begins p.0 (Fork s t) is w.1).0)
          (λ (h : q.0 ≡ t). to_next t h l.1 (f.begins p.0 (Fork s t) is w.1).1) l.0
      go (Some (Capture slot next)) is l = to_next next l.0 l.1 (f.begins p.0 (Capture slot next) is w.1)
      go (Some (Accept p)) is l = absurd l

  pub none_begins : HasNoMatchFrom e at
  none_begins run m = go (slice_get e.states (place run last).0) refl m.ends
    where
      last : ℕ
      last = length run - 1

      within : last < length run
      within = omega (arith, m.some)

      stays : (k : ℕ) → k < length run → Waits (place run k)
      stays zero l = rw m.begins (refl, f.first)
      stays (suc k) l =
          let same : suc k ≡ k + 1 = omega arith in
          let h : k + 1 < length run = omega (arith, l) in
          let there : k < length run = omega (arith, h) in
          rw same (step (place run k) (place run (k + 1)) (stays k there) (m.is_run.steps k h))

      go : (o : Option State) → slice_get e.states (place run last).0 ≡ o → is_accepting (only_pattern e.mode) o ≡ true → ⊥
      go None is h = true≢false (sym h)
      go (Some (ByteRange low high next)) is h = true≢false (sym h)
      go (Some (Assert look next)) is h = true≢false (sym h)
      go (Some (Fork s t)) is h = true≢false (sym h)
      go (Some (Capture slot next)) is h = true≢false (sym h)
      go (Some (Accept p)) is h = true≢false (sym (f.begins (place run last).0 (Accept p) is (stays last within).1))

-- ---- a search from a later start

module _ (e : Search) (s : ℕ) (low : e.start ≤ s) (none : (at : ℕ) → e.start ≤ at → at < s → HasNoMatchFrom e at)
    (anchored : ¬ (e.mode ≡ No) → s ≡ e.start) where
  may-earlier : (at : ℕ) → MayBegin (start_at e s) at → MayBegin e at
  may-earlier at may = record { start = omega (arith, low, may.start); end = may.end; anchored = λ no. may.anchored no ∙ anchored no }

  may-later : (at : ℕ) → MayBegin e at → s ≤ at → MayBegin (start_at e s) at
  may-later at may above = record { start = above; end = may.end; anchored = λ no. may.anchored no ∙ sym (anchored no) }

  first-earlier : (run : List (ℕ × ℕ)) → IsLeftmostFirst (start_at e s) run → IsLeftmostFirst e run
  first-earlier run r = record {
    begins = may-earlier (place run 0).1 r.begins;
    preferred = preferred_shift e s e.start (e.start_state, (place run 0).1) run r.begins.start (omega (arith, low, r.begins.start)) r.preferred;
    leftmost = λ at above below. ⊎_elim
        (λ (l : at < s). none at above l)
        (λ (l : s ≤ at). none_shift e s e.start at l (r.leftmost at l below))
        (cases_lt at s);
  }

  pub end-earlier : (p j : ℕ) → IsEndOf (start_at e s) p j → IsEndOf e p j
  end-earlier p j x = record { run = x.run; is_first = first-earlier x.run x.is_first; pattern = x.pattern; end = x.end }

  pub earliest-earlier : (j : ℕ) → IsEarliestEnd (start_at e s) j → IsEarliestEnd e j
  earliest-earlier j x = record {
    ends = record {
      from = x.ends.from;
      run = x.ends.run;
      begins = may-earlier x.ends.from x.ends.begins;
      is_match = match_shift e s e.start (e.start_state, x.ends.from) x.ends.run (omega (arith, low, x.ends.begins.start)) x.ends.is_match;
      ends = x.ends.ends;
    };
    none_before = λ k below m. ⊎_elim
        (λ (l : m.from < s). none m.from m.begins.start l m.run m.is_match)
        (λ (l : s ≤ m.from). x.none_before k below (record {
          from = m.from;
          run = m.run;
          begins = may-later m.from m.begins l;
          is_match = match_shift e e.start s (e.start_state, m.from) m.run l m.is_match;
          ends = m.ends;
        }))
        (cases_lt m.from s);
  }

  pub none-earlier : HasNoFirstMatch (start_at e s) → HasNoFirstMatch e
  none-earlier n at may = ⊎_elim
      (λ (l : at < s). none at may.start l)
      (λ (l : s ≤ at). none_shift e s e.start at l (n at (may-later at may l)))
      (cases_lt at s)

pub map_none : {X : Type 0} → (o : Option X) (P Q : Type 0) → (P → Q) → IfNone o P → IfNone o Q
map_none None P Q f x = f x
map_none (Some y) P Q f x = x
