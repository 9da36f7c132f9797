-- No match is where no byte of the one range is directly after one of the other.
use Rattle.std.proofs.Common.{◌≡◌, ℕ, zero, suc, ◌+◌, ◌-◌, ◌<◌, ◌≤◌, ⊎_elim, Bool, true, false, ◌&&◌, length, slice_get, slice_index, Option, Some, None, MatchOption, IsTrue, refl, sym, arith, true≢false, nat_le, nat_lt}
use Rattle.std.proofs.lemmas.Bool.{lt-ltb, ltb-true, leb-true}
use Rattle.std.proofs.lemmas.Option.{get_or_from_slice_get}
use Rattle.rsc_search.specs.Modes.{only_pattern}
use Rattle.rsc_nfa.specs.declared.state.State.{State}
use Rattle.rsc_nfa.specs.declared.state.State.TheVariants.{ByteRange, Assert, Fork, Capture, Accept}
use Rattle.rsc_nfa.specs.Steps.{StepsTo, place, is_between}
use Rattle.rsc_engine.specs.Searches.{Search}
use Rattle.rsc_engine.specs.Runs.{Leads, is_accepting, HasNoMatchFrom}
use Rattle.rsc_engine.specs.Preferred.{HasNoFirstMatch}
use Rattle.rsc_engine.specs.RowsLayout.{machine_of, IsMarked}
use Rattle.rsc_engine.specs.NeededLayout.{is_in, HasNoPair, mark_of, NeedsPair}
use Rattle.rsc_engine.proofs.PatternsLemmas.{and_cases, between}

module _ (e : Search) (a b : ℕ × ℕ) (needed : NeedsPair (machine_of e) a b) (none : HasNoPair a b e.haystack e.start e.end) where
  -- whether the byte before the position is of the first range, and in the span
  abbrev after : ℕ → Bool
  after at = nat_lt e.start at && is_in a (slice_index e.haystack (at - 1))

  abbrev Marked : ℕ × ℕ → Type 0
  Marked p = IsMarked needed.marks (mark_of p.0 (after p.1))

  after_byte : (at x : ℕ) → e.start ≤ at → slice_index e.haystack at ≡ x → after (at + 1) ≡ is_in a x
  after_byte at x from is =
      let later : nat_lt e.start (at + 1) ≡ true = lt-ltb e.start (at + 1) (omega (arith, from)) in
      let same : at + 1 - 1 ≡ at = omega arith in
      rw (later, same, is) refl

  -- from a marked place a step leads to a marked one
  step : (p q : ℕ × ℕ) → e.start ≤ p.1 → Marked p → Leads e p q → Marked q
  step p q from marked l = go (slice_get e.states p.0) refl l
    where
      to_next : (next : ℕ) → q.0 ≡ next → q.1 ≡ p.1 → IsMarked needed.marks (mark_of next (after p.1)) → Marked q
      to_next next state position m = rw (state, position) m

      go : (o : Option State) → slice_get e.states p.0 ≡ o
          → MatchOption o ⊥ (λ (state : State). StepsTo state e.terminator e.word_chars e.haystack e.end p.1 q) → Marked q
      go None is l = absurd l
      go (Some (ByteRange low high next)) is l =
          let byte = between low high (slice_get e.haystack p.1) l.1 in
          let here : slice_index e.haystack p.1 ≡ byte.0 = get_or_from_slice_get e.haystack p.1 byte.0 0 byte.1 in
          let barred : after p.1 ≡ true → ¬ (is_in b byte.0 ≡ true) =
          λ f y. let parts = and_cases (nat_lt e.start p.1) (is_in a (slice_index e.haystack (p.1 - 1))) f in
          none p.1 (ltb-true e.start p.1 parts.0) l.0 (parts.1, rw here y) in
          rw (l.2, l.3, after_byte p.1 byte.0 from here) (needed.passed p.0 (after p.1) (ByteRange low high next) is marked byte.0 byte.2 byte.3 barred)
      go (Some (Assert look next)) is l = to_next next l.1 l.2 (needed.passed p.0 (after p.1) (Assert look next) is marked)
      go (Some (Fork s t)) is l = ⊎_elim
          (λ (h : q.0 ≡ s). to_next s h l.1 (needed.passed p.0 (after p.1) (Fork s t) is marked).0)
          (λ (h : q.0 ≡ t). to_next t h l.1 (needed.passed p.0 (after p.1) (Fork s t) is marked).1) l.0
      go (Some (Capture slot next)) is l = to_next next l.0 l.1 (needed.passed p.0 (after p.1) (Capture slot next) is marked)
      go (Some (Accept p)) is l = absurd l

  -- no match begins
  none_begins : (at : ℕ) → HasNoMatchFrom e at
  none_begins at run m = go (slice_get e.states (place run last).0) refl m.ends
    where
      last : ℕ
      last = length run - 1

      within : last < length run
      within = omega (arith, m.some)

      stays : (k : ℕ) → k < length run → Marked (place run k)
      stays zero l = rw m.begins (needed.first (after at))
      stays (suc k) l =
          let same : suc k ≡ k + 1 = omega arith in
          let h : k + 1 < length run = omega (arith, l) in
          let there : k < length run = omega (arith, h) in
          rw same (step (place run k) (place run (k + 1)) (m.is_run.places k there).1 (stays k there) (m.is_run.steps k h))

      go : (o : Option State) → slice_get e.states (place run last).0 ≡ o → is_accepting (only_pattern e.mode) o ≡ true → ⊥
      go None is h = true≢false (sym h)
      go (Some (ByteRange low high next)) is h = true≢false (sym h)
      go (Some (Assert look next)) is h = true≢false (sym h)
      go (Some (Fork s t)) is h = true≢false (sym h)
      go (Some (Capture slot next)) is h = true≢false (sym h)
      go (Some (Accept p)) is h = true≢false (sym (needed.passed (place run last).0 (after (place run last).1) (Accept p) is (stays last within)))

  -- no match is where one may begin
  pub none_without : HasNoFirstMatch e
  none_without at may = none_begins at
