-- The search up to another end of its span, and the first match to end.
use Rattle.std.proofs.Common.{◌≡◌, ℕ, ◌+◌, ◌-◌, ◌<◌, ◌≤◌, Bool, false, true≢false, List, [], length, refl, sym, ap, subst, ◌∙◌, arith, slice_get, Option, Some, None, MatchOption, IfSome, IfNone}
use Rattle.rsc_nfa.specs.declared.state.State.{State}
use Rattle.rsc_nfa.specs.declared.state.State.TheVariants.{ByteRange, Assert, Fork, Capture, Accept}
use Rattle.rsc_nfa.specs.Steps.{place, IsStep, StepsTo}
use Rattle.rsc_engine.specs.declared.dfa.pass_table.PassRow.{PassRow}
use Rattle.rsc_engine.specs.Searches.{Search}
use Rattle.rsc_engine.specs.Runs.{IsMatchRun}
use Rattle.rsc_engine.specs.Preferred.{HasNoFirstMatch}
use Rattle.rsc_engine.specs.Ends.{IsMatchEnd, IsEarliestEnd}
use Rattle.rsc_engine.specs.OrderedLayout.{IsEndOf}
use Rattle.rsc_engine.specs.PassesLayout.{Status, Open, Closed, answer_of, IsFound, IsDue}
use Rattle.rsc_engine.specs.ForwardLayout.{last_with, IsHeld, IsGoing, StandsForward, StandsInEach, search_up_to}
use Rattle.rsc_engine.proofs.RunsLemmas.{run-rises, match-wider}

-- a step within both ends
step-to : (states : List State) (t : ℕ) (chars : ℕ → Bool) (h : List ℕ) (end last : ℕ) (p q : ℕ × ℕ) → q.1 ≤ last
    → IsStep states t chars h end p q
    → IsStep states t chars h last p q
step-to states t chars h end last p q high step = go (slice_get states p.0) step
  where
    go : (o : Option State) → MatchOption o ⊥ (λ (state : State). StepsTo state t chars h end p.1 q)
        → MatchOption o ⊥ (λ (state : State). StepsTo state t chars h last p.1 q)
    go None x = x
    go (Some (ByteRange a b next)) x = (omega (arith, x.3, high), x.1, x.2, x.3)
    go (Some (Assert l next)) x = x
    go (Some (Fork a b)) x = x
    go (Some (Capture slot next)) x = x
    go (Some (Accept pattern)) x = x

-- a match within the part up to an end
pub match-down : (e : Search) (t : ℕ) (from : ℕ × ℕ) (run : List (ℕ × ℕ)) → (place run (length run - 1)).1 ≤ t → IsMatchRun e from run
    → IsMatchRun (search_up_to e t) from run
match-down e t from run high m = record {
  is_run = record {
    places = λ k l. let there = m.is_run.places k l in (there.0, there.1, below k l);
    steps = λ k l. step-to e.states e.terminator e.word_chars e.haystack e.end t (place run k) (place run (k + 1)) (below (k + 1) l) (m.is_run.steps k l);
  };
  some = m.some;
  begins = m.begins;
  ends = m.ends;
}
  where
    below : (k : ℕ) → k < length run → (place run k).1 ≤ t
    below k l = omega (arith, high, run-rises e run k (length run - 1) m.is_run (omega (arith, l)) (omega (arith, l)))

-- without a match up to an end none ends there or before
none-ends : (e : Search) (t j : ℕ) → j ≤ t → HasNoFirstMatch (search_up_to e t) → ¬ (IsMatchEnd e j)
none-ends e t j le none x = none x.from (record { start = x.begins.start; end = omega (arith, from, here); anchored = x.begins.anchored }) x.run down
  where
    down : IsMatchRun (search_up_to e t) (e.start_state, x.from) x.run
    down = match-down e t (e.start_state, x.from) x.run (omega (arith, x.ends, le)) x.is_match

    from : (place x.run 0).1 ≡ x.from
    from = ap (λ (q : ℕ × ℕ). q.1) x.is_match.begins

    here : (place x.run 0).1 ≤ t
    here = (down.is_run.places 0 down.some).2

none-some : {x : ℕ × ℕ} → (Some x ≡ None) → ⊥
none-some is = absurd (cc)

positions : (x y : ℕ × ℕ) → Some x ≡ Some y → x.1 ≡ y.1
positions x y is = cc

-- ---- what a pass answers

abbrev pub IsAnswered : Search → Option (ℕ × ℕ) → Type 0
IsAnswered e last = MatchOption last (HasNoFirstMatch e) (λ f. IsEndOf e f.0 f.1)

going-answer : (e : Search) (begins : Bool) (status : Status) (last : Option (ℕ × ℕ)) → IsHeld e status begins last → IsFound e (answer_of status)
    → IsAnswered e last
going-answer e begins Open last held found = rw held.1 found
going-answer e begins (Closed None) last held found = rw held.1 found
going-answer e begins (Closed (Some q)) last held found = rw held.1.1 (record {
  run = found.run;
  is_first = found.is_first;
  pattern = subst (λ (x : ℕ × ℕ). slice_get e.states x.0 ≡ Some (Accept held.1.0)) (sym found.ends) held.1.2;
  end = ap (λ (x : ℕ × ℕ). x.1) found.ends;
})

-- it has gone past the end
pub going-past-end : (e : Search) (k : ℕ) (begins : Bool) (last : Option (ℕ × ℕ)) (list : List ℕ) → e.end < k → IsGoing e k begins last list
    → IsAnswered e last
going-past-end e k begins last list past g = going-answer e begins g.status last g.held (g.over past)

-- no state is left, and no match begins later
pub going-over : (e : Search) (k : ℕ) (begins : Bool) (last : Option (ℕ × ℕ)) (list : List ℕ) → k ≤ e.end → list ≡ [] → begins ≡ false
    → IsGoing e k begins last list → IsAnswered e last
going-over e k begins last list within none shut g = going-answer e begins g.status last g.held (go g.status g.held (g.due within))
  where
    go : (status : Status) → IsHeld e status begins last → IsDue e k status list → IsFound e (answer_of status)
    go Open held due = absurd (true≢false (sym held.0 ∙ shut))
    go (Closed found) held due = subst (λ (l : List ℕ). IsDue e k (Closed found) l) none due

pub answered-some : (e : Search) (last : Option (ℕ × ℕ)) → IsAnswered e last → IfSome last (λ f. IsEndOf e f.0 f.1)
answered-some e None x = tt
answered-some e (Some f) x = x

pub answered-none : (e : Search) (last : Option (ℕ × ℕ)) → IsAnswered e last → IfNone last (HasNoFirstMatch e)
answered-none e None x = x
answered-none e (Some f) x = tt

-- a match that was found at the last position up to an end ends there
mark-ends : (e : Search) (p at : ℕ) (begins : Bool) (list : List ℕ) → at ≤ e.end
    → IsGoing (search_up_to e at) (at + 1) begins (Some (p, at)) list → IsMatchEnd e at
mark-ends e p at begins list high g = go g.status g.held (g.over (omega arith))
  where
    go : (status : Status) → IsHeld (search_up_to e at) status begins (Some (p, at)) → IsFound (search_up_to e at) (answer_of status) → IsMatchEnd e at
    go Open held found = absurd (none-some held.1)
    go (Closed None) held found = absurd (none-some held.1)
    go (Closed (Some q)) held found = record {
      from = (place found.run 0).1;
      run = found.run;
      begins = record {
        start = found.is_first.begins.start;
        end = omega (arith, found.is_first.begins.end, high);
        anchored = found.is_first.begins.anchored;
      };
      is_match = match-wider e e.start at (e.start_state, (place found.run 0).1) found.run (omega arith) high found.is_first.preferred.is_match;
      ends = ap (λ (x : ℕ × ℕ). x.1) found.ends ∙ sym same;
    }
      where
        same : at ≡ q.1
        same = positions (p, at) (held.1.0, q.1) held.1.1

-- where a pass finds its first match, the first match to end ends
first-mark : (e : Search) (classes : List ℕ) (old new : List PassRow) (k next p at : ℕ) → e.start ≤ at → at ≤ e.end
    → StandsInEach e classes old k at None → StandsInEach e classes new next (at + 1) (Some (p, at)) → IsEarliestEnd e at
first-mark e classes old new k next p at low high before after = record {
  ends = mark-ends e p at (now high).row.begins (now high).row.list.items high (now high).going;
  none_before = λ j l.
      let past : at - 1 < at = omega (arith, l) in
      let was = before (at - 1) (omega (arith, l)) (omega (arith, high)) in
      none-ends e (at - 1) j (omega (arith, l)) (going-past-end (search_up_to e (at - 1)) at was.row.begins None was.row.list.items past was.going);
}
  where
    now : at ≤ e.end → StandsForward (search_up_to e at) classes new next (at + 1) (Some (p, at))
    now l = after at (omega arith) l

pub first-marked : (e : Search) (classes : List ℕ) (old new : List PassRow) (k next at : ℕ) (found : Option ℕ) (last now : Option (ℕ × ℕ))
    → e.start ≤ at
    → at ≤ e.end → last ≡ None → now ≡ last_with found at last → StandsInEach e classes old k at last
    → StandsInEach e classes new next (at + 1) now
    → IfSome now (λ f. IsEarliestEnd e f.1)
first-marked e classes old new k next at found last now low high none is before after =
    subst (λ (l : Option (ℕ × ℕ)). IfSome l (λ f. IsEarliestEnd e f.1)) (sym same)
    (go found (subst (λ (l : Option (ℕ × ℕ)). StandsInEach e classes old k at l) none before)
    (subst (λ (l : Option (ℕ × ℕ)). StandsInEach e classes new next (at + 1) l) same after))
  where
    same : now ≡ last_with found at None
    same = is ∙ ap (λ (l : Option (ℕ × ℕ)). last_with found at l) none

    go : (o : Option ℕ) → StandsInEach e classes old k at None → StandsInEach e classes new next (at + 1) (last_with o at None)
        → IfSome (last_with o at None) (λ f. IsEarliestEnd e f.1)
    go None b a = tt
    go (Some p) b a = first-mark e classes old new k next p at low high b a

pub marked-some : (found : Option ℕ) (at : ℕ) (last : Option (ℕ × ℕ)) (X : Type 0) → ¬ (found ≡ None) → IfNone (last_with found at last) X
marked-some None at last X some = absurd (some refl)
marked-some (Some p) at last X some = tt
