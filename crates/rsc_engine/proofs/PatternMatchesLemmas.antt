-- The first and the next match of a program are those of its patterns, and there is one of each.
use Rattle.std.proofs.Common.{◌≡◌, ◌∙◌, ℕ, suc, ◌+◌, ◌-◌, ◌<◌, ◌≤◌, inl, inr, ⊎_elim, ◌↔◌, Bool, List, [], ◌∷◌, length, slice_get, slice_index_or, option_and_then, refl, sym, ap, subst, arith, Option, Some, None}
use Rattle.std.specs.Option.{option_map}
use Rattle.std.proofs.lemmas.Bool.{cases_lt}
use Rattle.std.proofs.lemmas.Option.{same_Some}
use Rattle.rsc_primitives.specs.Decoding.{IsCharBoundary}
use Rattle.rsc_nfa.specs.declared.state.State.TheVariants.{Accept}
use Rattle.rsc_nfa.specs.Steps.{place, recorded}
use Rattle.rsc_captures.specs.Groups.{GroupLists, group_count, slot_number}
use Rattle.rsc_captures.specs.Captured.{Captured, group_span}
use Rattle.rsc_search.specs.Inputs.{InputParts}
use Rattle.rsc_search.specs.Matches.{Matched}
use Rattle.rsc_search.specs.Modes.{only_pattern}
use Rattle.rsc_engine.specs.Searches.{Search, Compiled, search_in}
use Rattle.rsc_engine.specs.Runs.{IsMatchRun, HasNoMatchFrom, IsMatchOf}
use Rattle.rsc_engine.specs.Preferred.{IsPreferred, IsMatchWithRecords, IsFirstMatch, MayBegin, HasNoFirstMatch}
use Rattle.rsc_engine.specs.NextMatches.{IsRepeatAt, SplitsAt, IsLeftOutAt, MayBeNext, IsOver, IsNextMatch}
use Rattle.rsc_engine.specs.Patterns.{Pattern, subject_of, IsMatchIn, HasRunOf, Recognizes}
use Rattle.rsc_engine.specs.PatternOrder.{PrefersLesser, RecordsPreferredWays}
use Rattle.rsc_engine.specs.Ways.{last_in}
use Rattle.rsc_engine.specs.GroupNumbers.{as_whole}
use Rattle.rsc_engine.specs.PreferredWays.{IsPreferredWay}
use Rattle.rsc_engine.specs.PatternMatches.{NoneGoesFrom, IsPreferredOfPatterns, HoldRecords, recorded_span, IsFirstOfPatterns, HasNoneOfPatterns, Repeats, Splits, PrefersThere, IsLeftOutOfPatterns, MayBeNextOfPatterns, IsNextOfPatterns, IsOverOfPatterns, AnswersAs}
use Rattle.rsc_engine.proofs.LawsLemmas.{accepted}
use Rattle.rsc_engine.proofs.NextMatchesLemmas.{one_next, one_first}
use Rattle.rsc_engine.proofs.PatternOrderLemmas.{Prefers, is_least}
use Rattle.rsc_engine.proofs.PreferredWaysLemmas.{one_way}
use Rattle.rsc_engine.proofs.WaysLemmas.{span_there}

-- ---- from runs to patterns

-- what is known of the runs of a search by a program of patterns
pub record IsSearchOf (patterns : List Pattern) (lists : GroupLists) (e : Search) : Type 0 where
  pub both : (other : Matched) → HasRunOf e other ↔ IsMatchIn patterns e other
  pub prefers : Prefers e
  pub ways : (run : List (ℕ × ℕ)) (found : Matched) (p : Pattern) → IsPreferred e (e.start_state, (place run 0).1) run → IsMatchOf e run found →
      slice_get patterns found.pattern ≡ Some p →
      (records : List (ℕ × ℕ))
      × IsPreferredWay (subject_of e) (as_whole lists found.pattern p) (λ j. j ≤ e.end) found.span.start found.span.end records
      × ((slot : ℕ) → recorded e.states run slot ≡ last_in records slot)

-- a preferred run makes the preferred match
preferred_of : (patterns : List Pattern) (lists : GroupLists) (e : Search) (run : List (ℕ × ℕ)) (found : Matched) → IsSearchOf patterns lists e
    → IsPreferred e (e.start_state, (place run 0).1) run → IsMatchOf e run found
    → (records : List (ℕ × ℕ)) × IsPreferredOfPatterns patterns lists e found records × ((slot : ℕ) → recorded e.states run slot ≡ last_in records slot)
preferred_of patterns lists e run found its preferred makes =
    let m = (its.both found).0 (record {
      run = run;
      is_match = subst (λ (i : ℕ). IsMatchRun e (e.start_state, i) run) (sym makes.start) preferred.is_match;
      makes = makes;
    }) in
    let w = its.ways run found m.pattern preferred makes m.is_pattern in (
      w.0,
      record { is_in = m; least = λ other n same. is_least e run found other its.prefers preferred makes ((its.both other).1 n) same; way = w.1 },
      w.2,
    )

-- such a match from a position
there : (patterns : List Pattern) (lists : GroupLists) (e : Search) (at : ℕ) (run : List (ℕ × ℕ)) (IsSuch : Matched → Type 0)
    → IsSearchOf patterns lists e → IsPreferred e (e.start_state, at) run → ((found : Matched) → IsMatchOf e run found → IsSuch found)
    → PrefersThere patterns lists e at IsSuch
there patterns lists e at run IsSuch its preferred such =
    let begins : (place run 0).1 ≡ at = ap (λ (p : ℕ × ℕ). p.1) preferred.is_match.begins in
    let q = accepted (only_pattern e.mode) (slice_get e.states (place run (length run - 1)).0) preferred.is_match.ends in
    let found : Matched = record { pattern = q.0; span = record { start = (place run 0).1; end = (place run (length run - 1)).1 } } in
    let makes : IsMatchOf e run found = record { pattern = q.1; start = refl; end = refl } in
    let p = preferred_of patterns lists e run found its
    (subst (λ (i : ℕ). IsPreferred e (e.start_state, i) run) (sym begins) preferred) makes in
    record { found = found; records = p.0; start = begins; preferred = p.1; is_such = such found makes }

none_on : (patterns : List Pattern) (lists : GroupLists) (e : Search) (at : ℕ) → IsSearchOf patterns lists e → HasNoMatchFrom e at
    → NoneGoesFrom patterns e at
none_on patterns lists e at its none = λ other same m.
    let r = (its.both other).1 m in none r.run (subst (λ (i : ℕ). IsMatchRun e (e.start_state, i) r.run) same r.is_match)

repeated : (patterns : List Pattern) (lists : GroupLists) (e : Search) (last : Option ℕ) (at : ℕ) → IsSearchOf patterns lists e → IsRepeatAt e last at
    → PrefersThere patterns lists e at (Repeats last)
repeated patterns lists e last at its x =
    there patterns lists e at x.run (Repeats last) its x.preferred
    (λ found f. record {
      empty = f.start ∙ (x.repeats.empty ∙ sym f.end);
      there = x.repeats.there ∙ ap (λ (i : ℕ). Some i) (sym f.start);
    })

passed_of : (patterns : List Pattern) (lists : GroupLists) (e : Search) (last : Option ℕ) (at : ℕ) → IsSearchOf patterns lists e → IsLeftOutAt e last at
    → IsLeftOutOfPatterns patterns lists e last at
passed_of patterns lists e last at its passed = ⊎_elim
    (λ (none : HasNoMatchFrom e at). inl (none_on patterns lists e at its none))
    (λ why. inr (⊎_elim
    (λ (x : IsRepeatAt e last at). inl (repeated patterns lists e last at its x))
    (λ (x : SplitsAt e at). inr (there patterns lists e at x.run (Splits e) its x.preferred
    (λ found f. record {
      utf8 = x.splits.utf8;
      empty = f.start ∙ (x.splits.empty ∙ sym f.end);
      within = λ boundary. x.splits.within (subst (λ (i : ℕ). IsCharBoundary e.haystack i) f.start boundary);
    })))
    why))
    passed

begins_of : (patterns : List Pattern) (lists : GroupLists) (e : Search) (last : Option ℕ) (at : ℕ) → IsSearchOf patterns lists e → MayBeNext e last at
    → MayBeNextOfPatterns patterns lists e last at
begins_of patterns lists e last at its o =
    record { start = o.start; end = o.end; anchored = λ a earlier l h. repeated patterns lists e last earlier its (o.anchored a earlier l h) }

-- ---- the first match

pub first_of : (patterns : List Pattern) (lists : GroupLists) (e : Search) (captures : Captured) (found : Matched) → IsSearchOf patterns lists e
    → IsFirstMatch e captures found → IsFirstOfPatterns patterns lists e captures found
first_of patterns lists e captures found its f =
    let p = preferred_of patterns lists e f.run found its f.is_first.preferred f.is_of.ends in
    record {
      records = p.0;
      begins = subst (λ (i : ℕ). MayBegin e i) (sym f.is_of.ends.start) f.is_first.begins;
      earlier = λ at l h. none_on patterns lists e at its (f.is_first.leftmost at l (omega (arith, h, f.is_of.ends.start)));
      preferred = p.1;
      hold = record { pattern = f.is_of.pattern; slots = λ slot l. f.is_of.records slot l ∙ p.2 slot };
    }

pub none_of : (patterns : List Pattern) (lists : GroupLists) (e : Search) → IsSearchOf patterns lists e → HasNoFirstMatch e → HasNoneOfPatterns patterns e
none_of patterns lists e its none = λ at begins. none_on patterns lists e at its (none at begins)

-- ---- the next match

pub next_of : (patterns : List Pattern) (lists : GroupLists) (e : Search) (last : Option ℕ) (captures : Captured) (found : Matched)
    → IsSearchOf patterns lists e → IsNextMatch e last captures found → IsNextOfPatterns patterns lists e last captures found
next_of patterns lists e last captures found its f =
    let p = preferred_of patterns lists e f.run found its f.is_next.preferred f.is_of.ends in
    let start = f.is_of.ends.start in
    let end = f.is_of.ends.end in
    record {
      records = p.0;
      begins = begins_of patterns lists e last found.span.start its (subst (λ (i : ℕ). MayBeNext e last i) (sym start) f.is_next.begins);
      preferred = p.1;
      no_repeat = λ r. f.is_next.no_repeat (record {
        empty = sym start ∙ (r.empty ∙ end);
        there = r.there ∙ ap (λ (i : ℕ). Some i) start;
      });
      splits_none = λ s. f.is_next.splits_none (record {
        utf8 = s.utf8;
        empty = sym start ∙ (s.empty ∙ end);
        within = λ boundary. s.within (subst (λ (i : ℕ). IsCharBoundary e.haystack i) (sym start) boundary);
      });
      left_out = λ at h o. passed_of patterns lists e last at its (f.is_next.left_out at (omega (arith, h, start)) (record {
        start = o.start;
        end = o.end;
        anchored = λ a earlier l m. f.is_next.begins.anchored a earlier l (omega (arith, h, m, start));
      }));
      hold = record { pattern = f.is_of.pattern; slots = λ slot l. f.is_of.records slot l ∙ p.2 slot };
    }

-- if all positions at which the next match may begin are left out, and the preferred match from the search's start repeats the last one, then
-- so does the preferred run
still_repeated : (patterns : List Pattern) (lists : GroupLists) (e : Search) (last : Option ℕ) → IsSearchOf patterns lists e → IsOver e last
    → e.start ≤ e.end → PrefersThere patterns lists e e.start (Repeats last) → IsRepeatAt e last e.start
still_repeated patterns lists e last its over l x = ⊎_elim
    (λ (none : HasNoMatchFrom e e.start). absurd (none_on patterns lists e e.start its none x.found x.start x.preferred.is_in))
    (λ why. ⊎_elim
    (λ (r : IsRepeatAt e last e.start). r)
    (λ (s : SplitsAt e e.start).
    let begins : (place s.run 0).1 ≡ e.start = ap (λ (p : ℕ × ℕ). p.1) s.preferred.is_match.begins in
    record {
      run = s.run;
      preferred = s.preferred;
      repeats = record { empty = s.splits.empty; there = x.is_such.there ∙ ap (λ (i : ℕ). Some i) (x.start ∙ sym begins) };
    })
    why)
    (over e.start (record { start = omega arith; end = l; anchored = λ a earlier m h. absurd (omega (arith, m, h)) }))

pub over_of : (patterns : List Pattern) (lists : GroupLists) (e : Search) (last : Option ℕ) → IsSearchOf patterns lists e → IsOver e last
    → IsOverOfPatterns patterns lists e last
over_of patterns lists e last its over = λ at o. passed_of patterns lists e last at its (over at (record {
  start = o.start;
  end = o.end;
  anchored = λ a earlier l h.
      let x = o.anchored a earlier l h in
      let first = o.anchored a e.start (omega arith) (omega (arith, l, h)) in
      let one : x.found.span.start ≡ first.found.span.start = same_Some _ _ (sym x.is_such.there ∙ first.is_such.there) in
      let here : e.start ≡ earlier = sym first.start ∙ (sym one ∙ x.start) in
      subst (λ (i : ℕ). IsRepeatAt e last i) here (still_repeated patterns lists e last its over (omega (arith, l, h, o.end)) first);
}))

-- ---- there is one

-- from a position there is one preferred match, with its records
one_there : (patterns : List Pattern) (lists : GroupLists) (e : Search) (m n : Matched) (r q : List (ℕ × ℕ)) → IsPreferredOfPatterns patterns lists e m r
    → IsPreferredOfPatterns patterns lists e n q → m.span.start ≡ n.span.start → (m ≡ n) × (r ≡ q)
one_there patterns lists e m n r q x y start = (
  ap (λ (p : ℕ). made p m.span.start m.span.end) number
      ∙ (ap (λ (i : ℕ). made n.pattern i m.span.end) start ∙ ap (λ (i : ℕ). made n.pattern n.span.start i) ends.0),
  ends.1,
)
  where
    made : ℕ → ℕ → ℕ → Matched
    made p i j = record { pattern = p; span = record { start = i; end = j } }

    number : m.pattern ≡ n.pattern
    number = let one = x.least n y.is_in (sym start) in let other = y.least m x.is_in start in omega (arith, one, other)

    pattern : x.is_in.pattern ≡ y.is_in.pattern
    pattern = same_Some _ _ (sym x.is_in.is_pattern ∙ (ap (λ (k : ℕ). slice_get patterns k) number ∙ y.is_in.is_pattern))

    way : IsPreferredWay (subject_of e) (as_whole lists n.pattern y.is_in.pattern) (λ j. j ≤ e.end) n.span.start m.span.end r
    way =
        subst (λ (i : ℕ). IsPreferredWay (subject_of e) (as_whole lists n.pattern y.is_in.pattern) (λ j. j ≤ e.end) i m.span.end r) start
        (subst (λ (p : Pattern). IsPreferredWay (subject_of e) (as_whole lists n.pattern p) (λ j. j ≤ e.end) m.span.start m.span.end r) pattern
        (subst (λ (k : ℕ). IsPreferredWay (subject_of e) (as_whole lists k x.is_in.pattern) (λ j. j ≤ e.end) m.span.start m.span.end r) number x.way))

    ends : (m.span.end ≡ n.span.end) × (r ≡ q)
    ends = one_way (subject_of e) (as_whole lists n.pattern y.is_in.pattern) (λ j. j ≤ e.end) n.span.start m.span.end n.span.end r q way y.way

same_list : {X : Type 0} (d : X) (xs ys : List X) → length xs ≡ length ys
    → ((k : ℕ) → k < length xs → slice_index_or xs k d ≡ slice_index_or ys k d) → xs ≡ ys
same_list d [] [] same each = refl
same_list d [] (y ∷ ys) same each = absurd (omega (arith, same))
same_list d (x ∷ xs) [] same each = absurd (omega (arith, same))
same_list d (x ∷ xs) (y ∷ ys) same each =
    let head : x ≡ y = each 0 (omega arith) in
    let tail : xs ≡ ys = same_list d xs ys (omega (arith, same)) (λ k h. each (suc k) (omega (arith, h))) in
    cc

-- captures over the same groups with as many slots hold the same, if their records are the same
one_captured : (c d : Captured) (m n : Matched) (r q : List (ℕ × ℕ)) → HoldRecords c m r → HoldRecords d n q → m ≡ n → r ≡ q
    → c.groups ≡ d.groups
    → length c.offsets ≡ length d.offsets → c ≡ d
one_captured c d m n r q x y match records groups slots =
    ap (λ (g : GroupLists). made g c.pattern c.offsets) groups
    ∙ (ap (λ (p : Option ℕ). made d.groups p c.offsets) (x.pattern ∙ (ap (λ (f : Matched). Some f.pattern) match ∙ sym y.pattern))
    ∙ ap (λ (o : List (Option ℕ)). made d.groups d.pattern o) (same_list None c.offsets d.offsets slots
    (λ k l. x.slots k l ∙ (ap (λ (all : List (ℕ × ℕ)). last_in all k) records ∙ sym (y.slots k (omega (arith, l, slots)))))))
  where
    made : GroupLists → Option ℕ → List (Option ℕ) → Captured
    made g p o = record { groups = g; pattern = p; offsets = o }

pub one_first_of : (patterns : List Pattern) (lists : GroupLists) (e : Search) (c d : Captured) (m n : Matched) → IsFirstOfPatterns patterns lists e c m
    → IsFirstOfPatterns patterns lists e d n → (m ≡ n) × (c.groups ≡ d.groups → length c.offsets ≡ length d.offsets → c ≡ d)
one_first_of patterns lists e c d m n x y = (
  same.0,
  λ groups slots. one_captured c d m n x.records y.records x.hold y.hold same.0 same.1 groups slots,
)
  where
    start : m.span.start ≡ n.span.start
    start = ⊎_elim
        (λ (l : m.span.start < n.span.start). absurd (y.earlier m.span.start x.begins.start l m refl x.preferred.is_in))
        (λ (h : n.span.start ≤ m.span.start). ⊎_elim
        (λ (l : n.span.start < m.span.start). absurd (x.earlier n.span.start y.begins.start l n refl y.preferred.is_in))
        (λ (g : m.span.start ≤ n.span.start). omega (arith, g, h))
        (cases_lt n.span.start m.span.start))
        (cases_lt m.span.start n.span.start)

    same : (m ≡ n) × (x.records ≡ y.records)
    same = one_there patterns lists e m n x.records y.records x.preferred y.preferred start

-- no match is next at a position that is passed
not_passed : (patterns : List Pattern) (lists : GroupLists) (e : Search) (last : Option ℕ) (c : Captured) (m : Matched)
    → IsNextOfPatterns patterns lists e last c m → IsLeftOutOfPatterns patterns lists e last m.span.start → ⊥
not_passed patterns lists e last c m x passed = ⊎_elim
    (λ (none : NoneGoesFrom patterns e m.span.start). none m refl x.preferred.is_in)
    (λ why. ⊎_elim
    (λ (r : PrefersThere patterns lists e m.span.start (Repeats last)).
    let same = one_there patterns lists e r.found m r.records x.records r.preferred x.preferred r.start in
    x.no_repeat (subst (Repeats last) same.0 r.is_such))
    (λ (s : PrefersThere patterns lists e m.span.start (Splits e)).
    let same = one_there patterns lists e s.found m s.records x.records s.preferred x.preferred s.start in
    x.splits_none (subst (Splits e) same.0 s.is_such))
    why)
    passed

pub one_next_of : (patterns : List Pattern) (lists : GroupLists) (e : Search) (last : Option ℕ) (c d : Captured) (m n : Matched)
    → IsNextOfPatterns patterns lists e last c m → IsNextOfPatterns patterns lists e last d n
    → (m ≡ n) × (c.groups ≡ d.groups → length c.offsets ≡ length d.offsets → c ≡ d)
one_next_of patterns lists e last c d m n x y = (
  same.0,
  λ groups slots. one_captured c d m n x.records y.records x.hold y.hold same.0 same.1 groups slots,
)
  where
    start : m.span.start ≡ n.span.start
    start = ⊎_elim
        (λ (l : m.span.start < n.span.start). absurd (not_passed patterns lists e last c m x (y.left_out m.span.start l x.begins)))
        (λ (h : n.span.start ≤ m.span.start). ⊎_elim
        (λ (l : n.span.start < m.span.start). absurd (not_passed patterns lists e last d n y (x.left_out n.span.start l y.begins)))
        (λ (g : m.span.start ≤ n.span.start). omega (arith, g, h))
        (cases_lt n.span.start m.span.start))
        (cases_lt m.span.start n.span.start)

    same : (m ≡ n) × (x.records ≡ y.records)
    same = one_there patterns lists e m n x.records y.records x.preferred y.preferred start

pub not_over_of : (patterns : List Pattern) (lists : GroupLists) (e : Search) (last : Option ℕ) (c : Captured) (m : Matched)
    → IsNextOfPatterns patterns lists e last c m → IsOverOfPatterns patterns lists e last → ⊥
not_over_of patterns lists e last c m x over = not_passed patterns lists e last c m x (over m.span.start x.begins)

-- one run makes one match, with one list of offsets
of_one_run : (e : Search) (run others : List (ℕ × ℕ)) (c d : Captured) (m n : Matched) → run ≡ others → IsMatchWithRecords e run m c
    → IsMatchWithRecords e others n d
    → c.groups ≡ d.groups → length c.offsets ≡ length d.offsets → (m ≡ n) × (c ≡ d)
of_one_run e run others c d m n same x z groups slots = (match, captured)
  where
    y : IsMatchWithRecords e run n d
    y = subst (λ (r : List (ℕ × ℕ)). IsMatchWithRecords e r n d) (sym same) z

    match_made : ℕ → ℕ → ℕ → Matched
    match_made p i j = record { pattern = p; span = record { start = i; end = j } }

    captures_made : GroupLists → Option ℕ → List (Option ℕ) → Captured
    captures_made g p o = record { groups = g; pattern = p; offsets = o }

    accept : (p q : ℕ) → Some (Accept p) ≡ Some (Accept q) → p ≡ q
    accept p q h = cc

    match : m ≡ n
    match =
        ap (λ (p : ℕ). match_made p m.span.start m.span.end) (accept m.pattern n.pattern (sym x.ends.pattern ∙ y.ends.pattern))
        ∙ (ap (λ (i : ℕ). match_made n.pattern i m.span.end) (x.ends.start ∙ sym y.ends.start)
        ∙ ap (λ (i : ℕ). match_made n.pattern n.span.start i) (x.ends.end ∙ sym y.ends.end))

    captured : c ≡ d
    captured =
        ap (λ (g : GroupLists). captures_made g c.pattern c.offsets) groups
        ∙ (ap (λ (p : Option ℕ). captures_made d.groups p c.offsets) (x.pattern ∙ (ap (λ (f : Matched). Some f.pattern) match ∙ sym y.pattern))
        ∙ ap (λ (o : List (Option ℕ)). captures_made d.groups d.pattern o)
        (same_list None c.offsets d.offsets slots (λ k l. x.records k l ∙ sym (y.records k (omega (arith, l, slots))))))

pub first_of_runs : (e : Search) (c d : Captured) (m n : Matched) → IsFirstMatch e c m → IsFirstMatch e d n → c.groups ≡ d.groups
    → length c.offsets ≡ length d.offsets → (m ≡ n) × (c ≡ d)
first_of_runs e c d m n x y groups slots =
    of_one_run e x.run y.run c d m n (one_first e x.run y.run x.is_first y.is_first) x.is_of y.is_of groups slots

pub next_of_runs : (e : Search) (last : Option ℕ) (c d : Captured) (m n : Matched) → IsNextMatch e last c m → IsNextMatch e last d n
    → c.groups ≡ d.groups
    → length c.offsets ≡ length d.offsets → (m ≡ n) × (c ≡ d)
next_of_runs e last c d m n x y groups slots =
    of_one_run e x.run y.run c d m n (one_next e last x.run y.run x.is_next y.is_next) x.is_of y.is_of groups slots

-- ---- a built program

pub built_of : {W : Type 0} (chars : W → ℕ → Bool) (program : Compiled W) (patterns : List Pattern) → Recognizes chars program patterns
    → PrefersLesser chars program → RecordsPreferredWays chars program patterns → AnswersAs chars program patterns
built_of chars program patterns r p w = record {
  first = λ input captures found f. first_of patterns program.automaton.groups (search_in chars program input) captures found (its input) f;
  none = λ input none. none_of patterns program.automaton.groups (search_in chars program input) (its input) none;
  next = λ input last captures found f. next_of patterns program.automaton.groups (search_in chars program input) last captures found (its input) f;
  over = λ input last over. over_of patterns program.automaton.groups (search_in chars program input) last (its input) over;
}
  where
    its : (input : InputParts) → IsSearchOf patterns program.automaton.groups (search_in chars program input)
    its input = record {
      both = λ other. r.exactly input other;
      prefers = λ one other found beaten. p.lesser input one other found beaten;
      ways = λ run found q. w.preferred input run found q;
    }

-- ---- the span of a group

pub recorded_there : (lists : GroupLists) (c : Captured) (m : Matched) (records : List (ℕ × ℕ)) (g : ℕ) → c.groups ≡ lists
    → HoldRecords c m records
    → g < group_count lists m.pattern → slot_number lists m.pattern g + 1 < length c.offsets
    → group_span c g ≡ recorded_span records (slot_number lists m.pattern g)
recorded_there lists c m records g groups hold l room =
    span_there lists m.pattern g c l groups hold.pattern
    ∙ (ap (λ (o : Option ℕ). option_and_then (λ (from : ℕ). option_map (λ (to : ℕ). record { start = from; end = to })
    (slice_index_or c.offsets (slot_number lists m.pattern g + 1) None)) o) (hold.slots (slot_number lists m.pattern g) (omega (arith, room)))
    ∙ ap (λ (o : Option ℕ). option_and_then (λ (from : ℕ). option_map (λ (to : ℕ). record { start = from; end = to }) o)
    (last_in records (slot_number lists m.pattern g))) (hold.slots (slot_number lists m.pattern g + 1) room))
