-- The matches of a program of one pattern, by the pattern alone.
use Rattle.std.proofs.Common.{◌≡◌, ℕ, zero, suc, ◌≤◌, Bool, refl, inl, inr, ⊎_elim, true, false, List, [], ◌∷◌, Option, Some, slice_get, sym, subst, ◌∙◌, ap, arith}
use Rattle.rsc_primitives.specs.Decoding.{IsCharBoundary}
use Rattle.rsc_search.specs.Inputs.{InputParts}
use Rattle.rsc_search.specs.Matches.{Matched}
use Rattle.rsc_search.specs.Modes.{only_pattern}
use Rattle.rsc_captures.specs.Captured.{Captured}
use Rattle.rsc_captures.specs.Groups.{Groups, GroupLists}
use Rattle.rsc_engine.specs.Searches.{Search, Compiled, search_in}
use Rattle.rsc_engine.specs.Runs.{is_allowed}
use Rattle.rsc_engine.specs.Patterns.{Pattern, Subject, Goes, may_be_empty, IsMatchIn}
use Rattle.rsc_engine.specs.Preferred.{IsFirstMatch, HasNoFirstMatch}
use Rattle.rsc_engine.specs.NextMatches.{IsNextMatch, IsOver}
use Rattle.rsc_engine.specs.GroupNumbers.{as_whole}
use Rattle.rsc_engine.specs.PreferredWays.{IsPreferredWay}
use Rattle.rsc_engine.specs.PatternMatches.{NoneGoesFrom, IsPreferredOfPatterns, HoldRecords, Repeats, Splits, PrefersThere, IsLeftOutOfPatterns, AnswersAs}
use Rattle.rsc_engine.specs.OnePattern.{subject_in, IsMatchOfOne, GoesNowhereBefore, GoesNowhereIn, IsWayOfOne, StaysAt, IsLeftOutOfOne, IsNextOfOne, IsOverOfOne}
use Rattle.rsc_engine.proofs.PatternsLemmas.{goes-takes}

its_only : (p q : Pattern) (n : ℕ) → slice_get (p ∷ []) n ≡ Some q → (n ≡ 0) × (q ≡ p)
its_only p q zero e = (cc, cc)
its_only p q (suc n) e = absurd (cc)

module _ {W : Type 0} (chars : W → ℕ → Bool) (program : Compiled W) (p : Pattern) (input : InputParts) where
  abbrev e : Search
  e = search_in chars program input

  abbrev x : Subject
  x = subject_in chars input.haystack program.automaton.matcher

  -- where no pattern goes on, this one goes nowhere
  none-goes : (i j : ℕ) → is_allowed (only_pattern input.anchored) 0 ≡ true → input.span.start ≤ i → j ≤ input.span.end
      → NoneGoesFrom (p ∷ []) e i
      → ¬ (Goes x p i j)
  none-goes i j wanted low high none goes = none (record { pattern = 0; span = record { start = i; end = j } }) refl
      (record { pattern = p; is_pattern = refl; allowed = wanted; start = low; end = high; goes = goes })

  wanted-of : (found : Matched) → IsMatchIn (p ∷ []) e found → is_allowed (only_pattern input.anchored) 0 ≡ true
  wanted-of found m = subst (λ (n : ℕ). is_allowed (only_pattern input.anchored) n ≡ true) (its_only p m.pattern found.pattern m.is_pattern).0 m.allowed

  goes-of : (found : Matched) → IsMatchIn (p ∷ []) e found → Goes x p found.span.start found.span.end
  goes-of found m = subst (λ (q : Pattern). Goes x q found.span.start found.span.end) (its_only p m.pattern found.pattern m.is_pattern).1 m.goes

  -- a pattern that takes bytes isn't preferred where its match is empty
  none-prefers : (at : ℕ) (Such : Matched → Type 0) → may_be_empty p ≡ false
      → ((found : Matched) → Such found → found.span.start ≡ found.span.end)
      → PrefersThere (p ∷ []) program.automaton.groups e at Such → ⊥
  none-prefers at Such takes empty t = omega (
    arith,
    empty t.found t.is_such,
    goes-takes x p t.found.span.start t.found.span.end takes (goes-of t.found t.preferred.is_in),
  )

  passed-none : (last : Option ℕ) (at : ℕ) → may_be_empty p ≡ false → IsLeftOutOfPatterns (p ∷ []) program.automaton.groups e last at
      → NoneGoesFrom (p ∷ []) e at
  passed-none last at takes (inl none) = none
  passed-none last at takes (inr (inl t)) = absurd (none-prefers at (Repeats last) takes (λ found r. r.empty) t)
  passed-none last at takes (inr (inr t)) = absurd (none-prefers at (Splits e) takes (λ found s. s.empty) t)

  module _ (groups : Groups) (lists : program.automaton.groups ≡ groups ∷ []) where
    way-of : (found : Matched) (records : List (ℕ × ℕ)) → IsPreferredOfPatterns (p ∷ []) program.automaton.groups e found records
        → IsWayOfOne x p groups input.span.end found.span.start found.span.end records
    way-of found records preferred =
        let m = preferred.is_in in
        let only = its_only p m.pattern found.pattern m.is_pattern in
        let Way : GroupLists → ℕ → Pattern → Type 0 = λ all n q.
        IsPreferredWay x (as_whole all n q) (λ j. j ≤ input.span.end) found.span.start found.span.end records in
        record {
          within = m.end;
          goes = goes-of found m;
          way = subst (λ (all : GroupLists). Way all 0 p) lists (subst (λ (n : ℕ). Way program.automaton.groups n p) only.0
              (subst (λ (q : Pattern). Way program.automaton.groups found.pattern q) only.1 preferred.way));
        }

    one-of : (captures : Captured) (found : Matched) (records : List (ℕ × ℕ)) → IsPreferredOfPatterns (p ∷ []) program.automaton.groups e found records
        → HoldRecords captures found records → IsMatchOfOne x p groups input captures found
    one-of captures found records preferred hold =
        let m = preferred.is_in in
        let w = way-of found records preferred in
        record {
          number = (its_only p m.pattern found.pattern m.is_pattern).0;
          start = m.start;
          end = m.end;
          goes = w.goes;
          records = records;
          way = w.way;
          hold = hold;
        }

    stays : (at : ℕ) (Such : Matched → Type 0) → ((found : Matched) → Such found → found.span.start ≡ found.span.end)
        → PrefersThere (p ∷ []) program.automaton.groups e at Such → StaysAt x p groups input.span.end at
    stays at Such empty t =
        let Way : ℕ → ℕ → Type 0 = λ i j. IsWayOfOne x p groups input.span.end i j t.records in
        let there : Way t.found.span.start t.found.span.start =
        subst (λ (j : ℕ). Way t.found.span.start j) (sym (empty t.found t.is_such)) (way-of t.found t.records t.preferred) in
        (t.records, subst (λ (i : ℕ). Way i i) t.start there)

    repeats : (last : Option ℕ) (at : ℕ) → PrefersThere (p ∷ []) program.automaton.groups e at (Repeats last)
        → StaysAt x p groups input.span.end at × (last ≡ Some at)
    repeats last at t = (stays at (Repeats last) (λ found r. r.empty) t, t.is_such.there ∙ ap (λ (i : ℕ). Some i) t.start)

    -- where the only pattern's preferred way is empty, so is the preferred match
    prefers : (last : Option ℕ) (at : ℕ) → is_allowed (only_pattern input.anchored) 0 ≡ true → input.span.start ≤ at
        → StaysAt x p groups input.span.end at × (last ≡ Some at) → PrefersThere (p ∷ []) program.automaton.groups e at (Repeats last)
    prefers last at wanted low (w, there) = record {
      found = record { pattern = 0; span = record { start = at; end = at } };
      records = w.0;
      start = refl;
      preferred = record {
        is_in = record { pattern = p; is_pattern = refl; allowed = wanted; start = low; end = w.1.within; goes = w.1.goes };
        least = λ other m same. omega arith;
        way = subst (λ (all : GroupLists). IsPreferredWay x (as_whole all 0 p) (λ j. j ≤ input.span.end) at at w.0) (sym lists) w.1.way;
      };
      is_such = record { empty = refl; there = there };
    }

    passed-of : (utf8 : Bool) (last : Option ℕ) (at : ℕ) → program.utf8 ≡ utf8 → is_allowed (only_pattern input.anchored) 0 ≡ true
        → input.span.start ≤ at → IsLeftOutOfPatterns (p ∷ []) program.automaton.groups e last at → IsLeftOutOfOne x p groups utf8 input.span.end last at
    passed-of utf8 last at text wanted low (inl none) = inl (λ j high. none-goes at j wanted low high none)
    passed-of utf8 last at text wanted low (inr (inl t)) = let r = repeats last at t in inr (r.0, inl r.1)
    passed-of utf8 last at text wanted low (inr (inr t)) = inr (
      stays at (Splits e) (λ found s. s.empty) t,
      inr (sym text ∙ t.is_such.utf8, subst (λ (i : ℕ). ¬ (IsCharBoundary input.haystack i)) t.start t.is_such.within),
    )

  module _ (built : AnswersAs chars program (p ∷ [])) where
    pub first-of-one : (groups : Groups) (captures : Captured) (found : Matched) → program.automaton.groups ≡ groups ∷ []
        → IsFirstMatch e captures found
        → IsMatchOfOne x p groups input captures found × GoesNowhereBefore x p input found.span.start
    first-of-one groups captures found lists f =
        let first = built.first input captures found f in (
          one-of groups lists captures found first.records first.preferred first.hold,
          λ i j low before high. none-goes i j (wanted-of found first.preferred.is_in) low high (first.earlier i low before),
        )

    pub none-of-one : HasNoFirstMatch e → GoesNowhereIn x p input
    none-of-one none = λ wanted i j low high anchored within.
        none-goes i j wanted low within (built.none input none i (record { start = low; end = high; anchored = anchored }))

    pub next-of-one : (groups : Groups) (last : Option ℕ) (captures : Captured) (found : Matched) → program.automaton.groups ≡ groups ∷ []
        → IsNextMatch e last captures found
        → IsMatchOfOne x p groups input captures found × (may_be_empty p ≡ false → GoesNowhereBefore x p input found.span.start)
    next-of-one groups last captures found lists f =
        let next = built.next input last captures found f in (
          one-of groups lists captures found next.records next.preferred next.hold,
          λ takes i j low before high. none-goes i j (wanted-of found next.preferred.is_in) low high
              (passed-none last i takes (next.left_out i before (record {
                start = low;
                end = omega (arith, before, next.begins.end);
                anchored = λ other earlier from l. next.begins.anchored other earlier from (omega (arith, l, before));
              }))),
        )

    pub over-of-one : (last : Option ℕ) → IsOver e last → may_be_empty p ≡ false → GoesNowhereIn x p input
    over-of-one last over takes = λ wanted i j low high anchored within.
        none-goes i j wanted low within (passed-none last i takes (built.over input last over i (record {
          start = low;
          end = high;
          anchored = λ other earlier from l. absurd (omega (arith, anchored other, from, l));
        })))

    pub taken-of-one : (groups : Groups) (utf8 : Bool) (last : Option ℕ) (captures : Captured) (found : Matched)
        → program.automaton.groups ≡ groups ∷ []
        → program.utf8 ≡ utf8 → IsNextMatch e last captures found → IsNextOfOne x p groups utf8 input last found.span
    taken-of-one groups utf8 last captures found lists text f =
        let next = built.next input last captures found f in
        record {
          begins = record {
            start = next.begins.start;
            end = next.begins.end;
            anchored = λ other earlier from l. repeats groups lists last earlier (next.begins.anchored other earlier from l);
          };
          taken = λ empty left. ⊎_elim
              (λ (there : last ≡ Some found.span.start). next.no_repeat (record { empty = empty; there = there }))
              (λ (apart : (utf8 ≡ true) × (¬ (IsCharBoundary input.haystack found.span.start))).
              next.splits_none (record { utf8 = text ∙ apart.0; empty = empty; within = apart.1 }))
              left;
          left_out = λ at low before. passed-of groups lists utf8 last at text (wanted-of found next.preferred.is_in) low (next.left_out at before (record {
            start = low;
            end = omega (arith, before, next.begins.end);
            anchored = λ other earlier from l. next.begins.anchored other earlier from (omega (arith, l, before));
          }));
        }

    pub passed-of-one : (groups : Groups) (utf8 : Bool) (last : Option ℕ) → program.automaton.groups ≡ groups ∷ [] → program.utf8 ≡ utf8
        → IsOver e last
        → IsOverOfOne x p groups utf8 input last
    passed-of-one groups utf8 last lists text over = λ wanted at o.
        passed-of groups lists utf8 last at text wanted o.start (built.over input last over at (record {
          start = o.start;
          end = o.end;
          anchored = λ other earlier from l. prefers groups lists last earlier wanted from (o.anchored other earlier from l);
        }))
