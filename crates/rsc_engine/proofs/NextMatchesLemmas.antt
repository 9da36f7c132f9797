-- Which match is next, as the search's start moves on.
use Rattle.std.proofs.Common.{◌≡◌, true, ℕ, ◌+◌, ◌<◌, ◌≤◌, ◌⊎◌, inl, inr, ⊎_elim, Bool, List, refl, sym, subst, ap, ◌∙◌, arith, Option, Some, None}
use Rattle.std.specs.Option.{ForSome}
use Rattle.std.proofs.lemmas.Bool.{cases_lt, cases_eq, cases_order}
use Rattle.rsc_nfa.specs.Steps.{place}
use Rattle.rsc_captures.specs.Captured.{Captured}
use Rattle.rsc_primitives.specs.Decoding.{IsCharBoundary}
use Rattle.rsc_search.specs.Inputs.{InputParts}
use Rattle.rsc_search.specs.Matches.{Matched}
use Rattle.rsc_search.specs.declared.anchored.Anchored.TheVariants.{No}
use Rattle.rsc_engine.specs.Searches.{Search, Compiled, search_in}
use Rattle.rsc_engine.specs.Runs.{IsMatchOf}
use Rattle.rsc_engine.specs.Preferred.{IsPreferred, IsLeftmostFirst, HasNoFirstMatch, IsMatchWithRecords}
use Rattle.rsc_engine.specs.NextMatches.{IsRepeat, SplitsCharacter, IsRepeatAt, IsLeftOutAt, MayBeNext, IsNextRun, IsOver, with_start, calls_left}
use Rattle.rsc_engine.proofs.PreferredLemmas.{is_no, one_preferred, preferred_shift, none_shift}

-- ---- the positions before a search's start

-- the search's start has moved on to i: each position before it at which the next match may begin is left out, and it's open itself, if it's in the span
pub record IsMoved (e : Search) (last : Option ℕ) (i : ℕ) : Type 0 where
  pub up : e.start ≤ i
  pub left_out : (at : ℕ) → at < i → MayBeNext e last at → IsLeftOutAt e last at
  pub begins : i ≤ e.end → MayBeNext e last i

module _ (e : Search) (i start : ℕ) (last : Option ℕ) (run : List (ℕ × ℕ)) (v : IsMoved (record e { start = start }) last i)
    (f : IsLeftmostFirst (record e { start = i }) run) where
  -- up to the leftmost match from i on, each position at which the next match may begin is left out
  up_to : (at : ℕ) → at < (place run 0).1 → MayBeNext (record e { start = start }) last at → IsLeftOutAt (record e { start = start }) last at
  up_to at high o = ⊎_elim
      (λ (l : at < i). v.left_out at l o)
      (λ (le : i ≤ at). inl (none_shift e i start at le (f.leftmost at le high)))
      (cases_lt at i)

  from_there : IsPreferred (record e { start = start }) (e.start_state, (place run 0).1) run
  from_there = preferred_shift e i start (e.start_state, (place run 0).1) run f.begins.start (omega (arith, f.begins.start, v.up)) f.preferred

  begins_there : MayBeNext (record e { start = start }) last (place run 0).1
  begins_there = record {
    start = omega (arith, v.up, f.begins.start);
    end = f.begins.end;
    anchored = λ anchored earlier from before. (v.begins (omega (arith, f.begins.start, f.begins.end))).anchored anchored earlier from
        (omega (arith, before, f.begins.anchored anchored));
  }

  -- the leftmost match from i on is the next, unless it's a repeat or splits a character
  pub next_is : ¬ (IsRepeat last run) → ¬ (SplitsCharacter (record e { start = start }) run) → IsNextRun (record e { start = start }) last run
  next_is no_repeat no_split = record {
    begins = begins_there;
    preferred = from_there;
    no_repeat = no_repeat;
    splits_none = no_split;
    left_out = up_to;
  }

  -- after a repeat the start moves on by one
  pub moved_repeat : IsRepeat last run → IsMoved (record e { start = start }) last ((place run 0).1 + 1)
  moved_repeat repeats = record {
    up = omega (arith, v.up, f.begins.start);
    left_out = λ at high o. ⊎_elim
        (λ (l : at < (place run 0).1). up_to at l o)
        (λ (le : (place run 0).1 ≤ at). let same : at ≡ (place run 0).1 = omega (arith, le, high) in inr (inl (rw same repeated)))
        (cases_lt at (place run 0).1);
    begins = λ within. record {
      start = omega (arith, v.up, f.begins.start);
      end = within;
      anchored = λ anchored earlier from before. ⊎_elim
          (λ (l : earlier < (place run 0).1). begins_there.anchored anchored earlier from l)
          (λ (le : (place run 0).1 ≤ earlier). let same : earlier ≡ (place run 0).1 = omega (arith, le, before) in rw same repeated)
          (cases_lt earlier (place run 0).1);
    };
  }
    where
      repeated : IsRepeatAt (record e { start = start }) last (place run 0).1
      repeated = record { run = run; preferred = from_there; repeats = repeats }

  -- after a match that splits a character, by one too, if the search isn't anchored
  pub moved_split : SplitsCharacter (record e { start = start }) run → e.mode ≡ No → IsMoved (record e { start = start }) last ((place run 0).1 + 1)
  moved_split splits free = record {
    up = omega (arith, v.up, f.begins.start);
    left_out = λ at high o. ⊎_elim
        (λ (l : at < (place run 0).1). up_to at l o)
        (λ (le : (place run 0).1 ≤ at). let same : at ≡ (place run 0).1 = omega (arith, le, high) in
        inr (inr (rw same (record { run = run; preferred = from_there; splits = splits }))))
        (cases_lt at (place run 0).1);
    begins = λ within. record {
      start = omega (arith, v.up, f.begins.start);
      end = within;
      anchored = λ anchored. absurd (anchored free);
    };
  }

  -- and if it's anchored, no later position is open
  pub moved_over : SplitsCharacter (record e { start = start }) run → ¬ (IsRepeat last run) → ¬ (e.mode ≡ No)
      → IsMoved (record e { start = start }) last (e.end + 1)
  moved_over splits no_repeat anchored = record {
    up = omega (arith, v.up, f.begins.start, f.begins.end);
    left_out = λ at high o. ⊎_elim
        (λ (l : at < (place run 0).1). up_to at l o)
        (λ (le : (place run 0).1 ≤ at). ⊎_elim
        (λ (same : at ≡ (place run 0).1). inr (inr (rw same (record { run = run; preferred = from_there; splits = splits }))))
        (λ (apart : (at ≡ (place run 0).1) → ⊥).
        let r : IsRepeatAt (record e { start = start }) last (place run 0).1 =
        o.anchored anchored (place run 0).1 (omega (arith, v.up, f.begins.start)) (omega (arith, le, apart)) in
        absurd (no_repeat (subst (λ (x : List (ℕ × ℕ)). IsRepeat last x)
        (one_preferred (record e { start = start }) (e.start_state, (place run 0).1) r.run run r.preferred from_there) r.repeats)))
        (cases_eq at (place run 0).1))
        (cases_lt at (place run 0).1);
    begins = λ within. absurd (omega (arith, within));
  }

-- what a run records depends on the states alone
pub of_states : (e f : Search) (run : List (ℕ × ℕ)) (m : Matched) (c : Captured) → f.states ≡ e.states → IsMatchWithRecords e run m c
    → IsMatchWithRecords f run m c
of_states e f run m c same x = record {
  ends = record { pattern = rw same x.ends.pattern; start = x.ends.start; end = x.ends.end };
  pattern = x.pattern;
  records = λ s l. rw same (x.records s l);
}

-- and if there is none, the iteration is over
pub none_next : (e : Search) (i start : ℕ) (last : Option ℕ) → IsMoved (record e { start = start }) last i
    → HasNoFirstMatch (record e { start = i }) → IsOver (record e { start = start }) last
none_next e i start last v none at o = ⊎_elim
    (λ (l : at < i). v.left_out at l o)
    (λ (le : i ≤ at). inl (none_shift e i start at le (none at (record {
      start = le;
      end = o.end;
      anchored = λ anchored. ⊎_elim
          (λ (here : at ≡ i). here)
          (λ (apart : (at ≡ i) → ⊥). absurd (barred anchored (omega (arith, le, apart))))
          (cases_eq at i);
    }))))
    (cases_lt at i)
  where
    barred : ¬ (e.mode ≡ No) → i < at → ⊥
    barred anchored l =
        let r : IsRepeatAt (record e { start = start }) last i = o.anchored anchored i v.up l in
        none_shift e i start i (omega arith) (none i (record {
          start = omega arith;
          end = omega (arith, l, o.end);
          anchored = λ _. refl;
        })) r.run r.preferred.is_match

-- ---- the loop, from search to search

-- the match is empty and where the last one ended, and that of its run
repeat_run : (e : Search) (last : Option ℕ) (run : List (ℕ × ℕ)) (m : Matched) → IsMatchOf e run m
    → (m.span.start ≡ m.span.end) × (last ≡ Some m.span.end) → IsRepeat last run
repeat_run e last run m ends r =
    let here : m.span.end ≡ (place run 0).1 = sym r.0 ∙ ends.start in
    record { empty = sym here ∙ ends.end; there = r.1 ∙ ap (λ (n : ℕ). Some n) here }

no_repeat_run : (e : Search) (last : Option ℕ) (run : List (ℕ × ℕ)) (m : Matched) → IsMatchOf e run m
    → (m.span.start ≡ m.span.end → ¬ (last ≡ Some m.span.end)) → ¬ (IsRepeat last run)
no_repeat_run e last run m ends apart r =
    let empty : m.span.start ≡ m.span.end = ends.start ∙ r.empty ∙ sym ends.end in
    let here : (place run 0).1 ≡ m.span.end = sym ends.start ∙ empty in
    apart empty (r.there ∙ ap (λ (n : ℕ). Some n) here)

split_run : (e f : Search) (run : List (ℕ × ℕ)) (m : Matched) → IsMatchOf f run m
    → (e.utf8 ≡ true) × (m.span.start ≡ m.span.end) × (¬ (IsCharBoundary e.haystack m.span.end)) → SplitsCharacter e run
split_run e f run m ends s =
    let here : m.span.end ≡ (place run 0).1 = sym s.1 ∙ ends.start in
    record {
      utf8 = s.0;
      empty = sym here ∙ ends.end;
      within = subst (λ (n : ℕ). ¬ (IsCharBoundary e.haystack n)) here s.2;
    }

no_split_run : (e f : Search) (run : List (ℕ × ℕ)) (m : Matched) → IsMatchOf f run m
    → (e.utf8 ≡ true → m.span.start ≡ m.span.end → IsCharBoundary e.haystack m.span.end) → ¬ (SplitsCharacter e run)
no_split_run e f run m ends whole s =
    let empty : m.span.start ≡ m.span.end = ends.start ∙ s.empty ∙ sym ends.end in
    let here : (place run 0).1 ≡ m.span.end = sym ends.start ∙ empty in
    subst (λ (n : ℕ). ¬ (IsCharBoundary e.haystack n)) here s.within (whole s.utf8 empty)

-- a start is set again
on_more : (input now next : InputParts) (a b : ℕ) → now ≡ with_start input a → next ≡ with_start now b → next ≡ with_start input next.span.start
on_more input now next a b on at =
    let there : next ≡ with_start input b = at ∙ ap (λ (x : InputParts). with_start x b) on in
    there ∙ ap (λ (s : ℕ). with_start input s) (sym (ap (λ (x : InputParts). x.span.start) there))

-- what stands in the loop: the program as it was, the input from a later start on, and the positions before passed
pub record IsTurn {W : Type 0} (chars : W → ℕ → Bool) (p q : Compiled W) (input now : InputParts) (last before : Option ℕ) : Type 0 where
  pub program : q ≡ p
  pub input_on : now ≡ with_start input now.span.start
  pub last_end : before ≡ last
  pub moved : IsMoved (search_in chars p input) last now.span.start

module _ {W : Type 0} (chars : W → ℕ → Bool) (p q : Compiled W) (input now : InputParts) (last before : Option ℕ)
    (t : IsTurn chars p q input now last before) where
  there : search_in chars q now ≡ record (search_in chars p input) { start = now.span.start }
  there = ap (λ x. search_in chars x now) t.program ∙ ap (λ x. search_in chars p x) t.input_on

  pub turn_none : HasNoFirstMatch (search_in chars q now) → IsOver (search_in chars p input) last
  turn_none none = none_next (search_in chars p input) now.span.start input.span.start last t.moved (subst HasNoFirstMatch there none)

  module _ (run : List (ℕ × ℕ)) (m : Matched) (c : Captured) (first : IsLeftmostFirst (search_in chars q now) run)
      (is_of : IsMatchWithRecords (search_in chars q now) run m c)
      (mid : InputParts) (after : Compiled W) (ended : Option ℕ) (on : mid ≡ with_start now m.span.end) (kept : after ≡ q) (same : ended ≡ before) where
    first_there : IsLeftmostFirst (record (search_in chars p input) { start = now.span.start }) run
    first_there = subst (λ (e : Search). IsLeftmostFirst e run) there first

    same_parts : mid ≡ with_start input mid.span.start
    same_parts = on_more input now mid now.span.start m.span.end t.input_on on

    not_again : (m.span.start ≡ m.span.end → ¬ (ended ≡ Some m.span.end)) → ¬ (IsRepeat last run)
    not_again apart = no_repeat_run (search_in chars q now) last run m is_of.ends (λ empty h. apart empty (same ∙ t.last_end ∙ h))

    -- the search goes on at b
    turn_to : (next : InputParts) (b : ℕ) → next ≡ with_start mid b → IsMoved (search_in chars p input) last b
        → IsTurn chars p after input next last ended
    turn_to next b at moved = record {
      program = kept ∙ t.program;
      input_on = on_more input mid next mid.span.start b same_parts at;
      last_end = same ∙ t.last_end;
      moved = let start : next.span.start ≡ b = ap (λ (x : InputParts). x.span.start) at in rw start moved;
    }

    pub turn_next : (m.span.start ≡ m.span.end → ¬ (ended ≡ Some m.span.end))
        → (after.utf8 ≡ true → m.span.start ≡ m.span.end → IsCharBoundary mid.haystack m.span.end) → IsNextRun (search_in chars p input) last run
    turn_next apart whole =
        next_is (search_in chars p input) now.span.start input.span.start last run t.moved first_there (not_again apart)
        (no_split_run (search_in chars p input) (search_in chars q now) run m is_of.ends
        (λ text empty. subst (λ (x : List ℕ). IsCharBoundary x m.span.end) (ap (λ (x : InputParts). x.haystack) same_parts)
        (whole (ap (λ x. x.utf8) (kept ∙ t.program) ∙ text) empty)))

    pub turn_repeat : (next : InputParts) → (m.span.start ≡ m.span.end) × (ended ≡ Some m.span.end) → next ≡ with_start mid (m.span.end + 1)
        → IsTurn chars p after input next last ended
    turn_repeat next r at =
        let here : m.span.end + 1 ≡ (place run 0).1 + 1 = ap (λ (n : ℕ). n + 1) (sym r.0 ∙ is_of.ends.start) in
        turn_to next (m.span.end + 1) at
        (rw here (moved_repeat (search_in chars p input) now.span.start input.span.start last run t.moved first_there
        (repeat_run (search_in chars q now) last run m is_of.ends (r.0, sym t.last_end ∙ sym same ∙ r.1))))

    pub turn_split : (next : InputParts) (b : ℕ) → (after.utf8 ≡ true) × (m.span.start ≡ m.span.end) × (¬ (IsCharBoundary mid.haystack m.span.end))
        → (m.span.start ≡ m.span.end → ¬ (ended ≡ Some m.span.end))
        → (¬ (mid.anchored ≡ No) → b ≡ mid.span.end + 1) → (mid.anchored ≡ No → b ≡ m.span.end + 1) → next ≡ with_start mid b
        → IsTurn chars p after input next last ended
    turn_split next b s apart anchored free at = turn_to next b at (go (is_no input.anchored))
      where
        mode : mid.anchored ≡ input.anchored
        mode = ap (λ (x : InputParts). x.anchored) same_parts

        splits : SplitsCharacter (search_in chars p input) run
        splits = split_run (search_in chars p input) (search_in chars q now) run m is_of.ends (
          sym (ap (λ x. x.utf8) (kept ∙ t.program)) ∙ s.0,
          s.1,
          subst (λ (x : List ℕ). ¬ (IsCharBoundary x m.span.end)) (ap (λ (x : InputParts). x.haystack) same_parts) s.2,
        )

        go : (input.anchored ≡ No) ⊎ (¬ (input.anchored ≡ No)) → IsMoved (search_in chars p input) last b
        go (inl h) =
            let here : b ≡ (place run 0).1 + 1 = free (mode ∙ h) ∙ ap (λ (n : ℕ). n + 1) (sym s.1 ∙ is_of.ends.start) in
            rw here (moved_split (search_in chars p input) now.span.start input.span.start last run t.moved first_there splits h)
        go (inr h) =
            let here : b ≡ input.span.end + 1 = anchored (λ no_mode. h (sym mode ∙ no_mode)) ∙ ap (λ (x : InputParts). x.span.end + 1) same_parts in
            rw here (moved_over (search_in chars p input) now.span.start input.span.start last run t.moved first_there splits (not_again apart) h)

-- ---- there is one next match

-- the next match is not passed
next_not_passed : (e : Search) (last : Option ℕ) (run : List (ℕ × ℕ)) → IsNextRun e last run → IsLeftOutAt e last (place run 0).1 → ⊥
next_not_passed e last run x (inl none) = none run x.preferred.is_match
next_not_passed e last run x (inr (inl r)) =
    x.no_repeat
    (subst (λ (y : List (ℕ × ℕ)). IsRepeat last y) (one_preferred e (e.start_state, (place run 0).1) r.run run r.preferred x.preferred) r.repeats)
next_not_passed e last run x (inr (inr s)) =
    x.splits_none
    (subst (λ (y : List (ℕ × ℕ)). SplitsCharacter e y) (one_preferred e (e.start_state, (place run 0).1) s.run run s.preferred x.preferred) s.splits)

pub next_not_over : (e : Search) (last : Option ℕ) (run : List (ℕ × ℕ)) → IsOver e last → ¬ (IsNextRun e last run)
next_not_over e last run over x = next_not_passed e last run x (over (place run 0).1 x.begins)

-- two preferred runs that begin at one position are one
same_start : (e : Search) (one other : List (ℕ × ℕ)) → IsPreferred e (e.start_state, (place one 0).1) one
    → IsPreferred e (e.start_state, (place other 0).1) other
    → (place one 0).1 ≡ (place other 0).1 → one ≡ other
same_start e one other x y same =
    one_preferred e (e.start_state, (place other 0).1) one other (subst (λ (n : ℕ). IsPreferred e (e.start_state, n) one) same x) y

-- there is one next match at most
pub one_next : (e : Search) (last : Option ℕ) (one other : List (ℕ × ℕ)) → IsNextRun e last one → IsNextRun e last other → one ≡ other
one_next e last one other x y = ⊎_elim
    (λ (same : (place one 0).1 ≡ (place other 0).1). same_start e one other x.preferred y.preferred same)
    (λ (h : ((place one 0).1 < (place other 0).1) ⊎ ((place other 0).1 < (place one 0).1)). ⊎_elim
    (λ (l : (place one 0).1 < (place other 0).1). absurd (next_not_passed e last one x (y.left_out (place one 0).1 l x.begins)))
    (λ (l : (place other 0).1 < (place one 0).1). absurd (next_not_passed e last other y (x.left_out (place other 0).1 l y.begins)))
    h)
    (cases_order (place one 0).1 (place other 0).1)

-- and one leftmost-first
pub one_first : (e : Search) (one other : List (ℕ × ℕ)) → IsLeftmostFirst e one → IsLeftmostFirst e other → one ≡ other
one_first e one other x y = ⊎_elim
    (λ (same : (place one 0).1 ≡ (place other 0).1). same_start e one other x.preferred y.preferred same)
    (λ (h : ((place one 0).1 < (place other 0).1) ⊎ ((place other 0).1 < (place one 0).1)). ⊎_elim
    (λ (l : (place one 0).1 < (place other 0).1). absurd (y.leftmost (place one 0).1 x.begins.start l one x.preferred.is_match))
    (λ (l : (place other 0).1 < (place one 0).1). absurd (x.leftmost (place other 0).1 y.begins.start l other y.preferred.is_match))
    h)
    (cases_order (place one 0).1 (place other 0).1)

-- ---- how often it goes on

pub fewer-left : (end m : ℕ) (last : Option ℕ) → ForSome last (λ e. e < m) → m ≤ end → calls_left end (Some m) < calls_left end last
fewer-left end m None later within = omega (arith, within)
fewer-left end m (Some e) later within = omega (arith, within, later e refl)
