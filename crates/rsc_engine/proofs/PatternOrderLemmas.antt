-- Of the matches from a position that of the pattern with the least number is preferred, and of its ends the first.
use Rattle.std.proofs.Common.{◌≡◌, ℕ, zero, suc, ◌+◌, ◌-◌, ◌<◌, ◌≤◌, ◌⊎◌, inl, inr, ⊎_elim, Bool, List, [], ◌∷◌, length, slice_get, refl, sym, ap, ◌∙◌, subst, arith, Option, Some, None, cond, ◌==◌, true, false}
use Rattle.std.proofs.lemmas.Bool.{cases_lt, cases_eq}
use Rattle.std.proofs.lemmas.Option.{slice_get_within}
use Rattle.rsc_nfa.specs.declared.state.State.{State}
use Rattle.rsc_nfa.specs.declared.state.State.TheVariants.{ByteRange, Assert, Fork, Capture, Accept}
use Rattle.rsc_nfa.specs.Steps.{place, recorded, or_earlier, is_capture_of}
use Rattle.rsc_search.specs.Matches.{Matched}
use Rattle.rsc_engine.specs.Searches.{Search, Compiled, search_in}
use Rattle.rsc_engine.specs.Runs.{accepts, IsMatchRun, IsMatchOf}
use Rattle.rsc_engine.specs.Preferred.{HasNoPlaceTwice, IsPreferredTo, IsPreferred}
use Rattle.rsc_engine.specs.Patterns.{Pattern, Subject, subject_of, HasRunOf}
use Rattle.rsc_engine.specs.PatternOrder.{PrefersLesser, PrefersFirstEnds, RecordsFirstWays, RecordsWays, RecordsPreferredWays}
use Rattle.rsc_engine.specs.LinksLayout.{Aim, StepsLead}
use Rattle.rsc_engine.specs.StepsLayout.{AreSteps, last_place}
use Rattle.rsc_engine.specs.WaysLayout.{StepsBefore, finish, recorded_by}
use Rattle.rsc_engine.specs.BeginsLayout.{PrefersFrom, Begins, IsOfOne}
use Rattle.rsc_engine.specs.FirstsLayout.{OrdersSome}
use Rattle.rsc_engine.specs.Ways.{GoesWith, last_in}
use Rattle.rsc_engine.specs.GroupNumbers.{as_whole}
use Rattle.rsc_engine.proofs.FirstWaysLemmas.{way-end}
use Rattle.rsc_engine.proofs.WrittenLayoutLemmas.{preferred-first}
use Rattle.rsc_engine.proofs.GroupNumbersLemmas.{numbered-end, numbered-loops}
use Rattle.rsc_captures.specs.Groups.{GroupLists, slot_number}
use Rattle.rsc_engine.proofs.WaysLayoutLemmas.{aim_at, way_of, finish_last}
use Rattle.rsc_engine.proofs.StepsLayoutLemmas.{step_of, steps_of, last_is}
use Rattle.rsc_engine.proofs.PreferredLemmas.{same_place}
use Rattle.rsc_engine.proofs.StepsLayoutLemmas.{Short, shorten, once_of, is_run_of}

-- ---- from steps to a way to a match, where the state is known

way_from : (states : List State) (x : Subject) (end m first : ℕ) (p : ℕ × ℕ) (rest : List (ℕ × ℕ)) → p.0 ≡ first → p.1 ≤ end
    → AreSteps states x end p rest
    → slice_get states (last_place p rest).0 ≡ Some (Accept m) → StepsLead states (aim_at x end m (last_place p rest)) (length rest) first p.1
way_from states x end m first p rest same l steps at =
    subst (λ (s : ℕ). StepsLead states (aim_at x end m (last_place p rest)) (length rest) s p.1) same (way_of states x end m p rest l steps at)

-- ---- one pattern, and a fork between patterns

pub PrefersFrom-one : (states : List State) (first number : ℕ) (p : Pattern)
    → ((a : Aim) (n i : ℕ) → StepsLead states a n first i → IsOfOne number p a i)
    → PrefersFrom states first
PrefersFrom-one states first number p sound = record {
  before = λ x end m n at one other same l steps others is also lt.
      let here = sound (aim_at x end m (last_place at one)) (length one) at.1 (way_from states x end m first at one same l steps is) in
      let there = sound (aim_at x end n (last_place at other)) (length other) at.1 (way_from states x end n first at other same l others also) in
      absurd (omega (arith, lt, here.0, there.0));
}

pub PrefersFrom-fork : (states : List State) (s one other : ℕ) (P Q : Aim → ℕ → Type 0) → slice_get states s ≡ Some (Fork one other)
    → Begins states one P → Begins states other Q → ((a b : Aim) (i j : ℕ) → P a i → Q b j → a.pattern < b.pattern) → PrefersFrom states s
PrefersFrom-fork states s one other P Q is b c apart = record { before = each }
  where
    no_fork : (q : ℕ) → Some (Fork one other) ≡ Some (Accept q) → ⊥
    no_fork q e = absurd (cc)

    not_there : (p : ℕ × ℕ) (m : ℕ) → p.0 ≡ s → slice_get states p.0 ≡ Some (Accept m) → ⊥
    not_there p m same at = no_fork m (sym is ∙ (ap (λ (t : ℕ). slice_get states t) (sym same) ∙ at))

    second : (q : ℕ × ℕ) → (q.0 ≡ one) ⊎ (q.0 ≡ other) → (q.0 ≡ one → ⊥) → q.0 ≡ other
    second q way apart = ⊎_elim (λ (h : q.0 ≡ one). absurd (apart h)) (λ (h : q.0 ≡ other). h) way

    -- both go the same way
    both : (x : Subject) (end m n first : ℕ) (p q r : ℕ × ℕ) (here there : List (ℕ × ℕ)) → PrefersFrom states first → q.0 ≡ first
        → r.0 ≡ first
        → q.1 ≡ p.1 → r.1 ≡ p.1 → q.1 ≤ end → AreSteps states x end q here → AreSteps states x end r there
        → slice_get states (last_place q here).0 ≡ Some (Accept m) → slice_get states (last_place r there).0 ≡ Some (Accept n) → m < n
        → StepsBefore states p (q ∷ here) (r ∷ there)
    both x end m n first p q r here there f qf rf qp rp l hs ts hat tat lt =
        let eq : q ≡ r = same_place q r (qf ∙ sym rf) (qp ∙ sym rp) in
        inr (
          eq,
          f.before x end m n q here there qf l hs (subst (λ (z : ℕ × ℕ). AreSteps states x end z there) (sym eq) ts) hat
              (subst (λ (z : ℕ × ℕ). slice_get states (last_place z there).0 ≡ Some (Accept n)) (sym eq) tat) lt,
        )

    each : (x : Subject) (end m n : ℕ) (p : ℕ × ℕ) (here there : List (ℕ × ℕ)) → p.0 ≡ s → p.1 ≤ end → AreSteps states x end p here
        → AreSteps states x end p there → slice_get states (last_place p here).0 ≡ Some (Accept m)
        → slice_get states (last_place p there).0 ≡ Some (Accept n) → m < n → StepsBefore states p here there
    each x end m n p [] there same l hs ts hat tat lt = absurd (not_there p m same hat)
    each x end m n p (q ∷ here) [] same l hs ts hat tat lt = absurd (not_there p n same tat)
    each x end m n p (q ∷ here) (r ∷ there) same l hs ts hat tat lt =
        let to_q : ((q.0 ≡ one) ⊎ (q.0 ≡ other)) × (q.1 ≡ p.1) = step_of states x end s p q (Fork one other) same is hs.0 in
        let to_r : ((r.0 ≡ one) ⊎ (r.0 ≡ other)) × (r.1 ≡ p.1) = step_of states x end s p r (Fork one other) same is ts.0 in
        let q_in : q.1 ≤ end = omega (arith, l, to_q.1) in
        let r_in : r.1 ≤ end = omega (arith, l, to_r.1) in
        ⊎_elim
        (λ (q_one : q.0 ≡ one). ⊎_elim
        (λ (r_one : r.0 ≡ one). both x end m n one p q r here there b.prefers q_one r_one to_q.1 to_r.1 q_in hs.1 ts.1 hat tat lt)
        (λ (r_not : (r.0 ≡ one) → ⊥). inl (one, other, ap (λ (t : ℕ). slice_get states t) same ∙ is, q_one, r_not))
        (cases_eq r.0 one))
        (λ (q_not : (q.0 ≡ one) → ⊥). ⊎_elim
        (λ (r_one : r.0 ≡ one).
        let less = apart (aim_at x end n (last_place r there)) (aim_at x end m (last_place q here)) r.1 q.1
        (b.sound (aim_at x end n (last_place r there)) (length there) r.1 (way_from states x end n one r there r_one r_in ts.1 tat))
        (c.sound (aim_at x end m (last_place q here)) (length here) q.1
        (way_from states x end m other q here (second q to_q.0 q_not) q_in hs.1 hat)) in
        absurd (omega (arith, less, lt)))
        (λ (r_not : (r.0 ≡ one) → ⊥).
        both x end m n other p q r here there c.prefers (second q to_q.0 q_not) (second r to_r.0 r_not) to_q.1 to_r.1 q_in hs.1 ts.1 hat tat lt)
        (cases_eq r.0 one))
        (cases_eq q.0 one)

-- ---- runs of a search

-- a place before both
before_more : (e : Search) (p : ℕ × ℕ) (one other : List (ℕ × ℕ)) → IsPreferredTo e one other → IsPreferredTo e (p ∷ one) (p ∷ other)
before_more e p one other x = record {
  at = suc x.at;
  a = x.a;
  b = x.b;
  within = omega (arith, x.within);
  other_within = omega (arith, x.other_within);
  together = together;
  fork = x.fork;
  first = rw next x.first;
  apart = rw next x.apart;
}
  where
    next : suc x.at + 1 ≡ suc (x.at + 1)
    next = omega arith

    together : (k : ℕ) → k ≤ suc x.at → place (p ∷ one) k ≡ place (p ∷ other) k
    together zero l = refl
    together (suc k) l = x.together k (omega (arith, l))

pub before_is : (e : Search) (p : ℕ × ℕ) (one other : List (ℕ × ℕ)) → StepsBefore e.states p one other → IsPreferredTo e (p ∷ one) (p ∷ other)
before_is e p [] other b = absurd b
before_is e p (q ∷ one) [] b = absurd b
before_is e p (q ∷ one) (r ∷ other) (inl f) = record {
  at = 0;
  a = f.0;
  b = f.1;
  within = omega arith;
  other_within = omega arith;
  together = λ k l. let none : k ≡ 0 = omega (arith, l) in rw none refl;
  fork = f.2;
  first = f.3;
  apart = f.4;
}
before_is e p (q ∷ one) (r ∷ other) (inr s) =
    subst (λ (z : ℕ × ℕ). IsPreferredTo e (p ∷ (q ∷ one)) (p ∷ (z ∷ other))) s.0
    (before_more e p (q ∷ one) (q ∷ other) (before_is e q one other s.1))

lesser_of : (e : Search) (one other : List (ℕ × ℕ)) (found beaten : Matched) → PrefersFrom e.states e.start_state
    → IsMatchRun e (e.start_state, found.span.start) one → IsMatchOf e one found
    → IsMatchRun e (e.start_state, found.span.start) other → IsMatchOf e other beaten
    → found.pattern < beaten.pattern → IsPreferredTo e one other
lesser_of e [] other found beaten b m f n g l = absurd (omega (arith, m.some))
lesser_of e (p ∷ one) [] found beaten b m f n g l = absurd (omega (arith, n.some))
lesser_of e (p ∷ one) (q ∷ other) found beaten b m f n g l =
    let same : p ≡ q = m.begins ∙ sym n.begins in
    subst (λ (z : ℕ × ℕ). IsPreferredTo e (p ∷ one) (z ∷ other)) same
    (before_is e p one other
    (b.before (subject_of e) e.end found.pattern beaten.pattern p one other (ap (λ (z : ℕ × ℕ). z.0) m.begins) ((m.is_run.places 0 m.some).2)
    (steps_of e p one m.is_run)
    (subst (λ (z : ℕ × ℕ). AreSteps e.states (subject_of e) e.end z other) (sym same) (steps_of e q other n.is_run))
    (ap (λ (z : ℕ × ℕ). slice_get e.states z.0) (sym (last_is p one)) ∙ f.pattern)
    (subst (λ (z : ℕ × ℕ). slice_get e.states (last_place z other).0 ≡ Some (Accept beaten.pattern)) (sym same)
    (ap (λ (z : ℕ × ℕ). slice_get e.states z.0) (sym (last_is q other)) ∙ g.pattern))
    l))

pub PrefersLesser-built : {W : Type 0} (chars : W → ℕ → Bool) (program : Compiled W) → PrefersFrom program.automaton.states program.start
    → PrefersLesser chars program
PrefersLesser-built chars program b = record {
  lesser = λ input one other found beaten m f n g l. lesser_of (search_in chars program input) one other found beaten b m f n g l;
}

-- ---- the least pattern

-- a run to a match that comes to no place twice
record Once (e : Search) (found : Matched) : Type 0 where
  run : List (ℕ × ℕ)
  is_match : IsMatchRun e (e.start_state, found.span.start) run
  makes : IsMatchOf e run found
  once : HasNoPlaceTwice run

once_run : (e : Search) (found : Matched) (run : List (ℕ × ℕ)) → IsMatchRun e (e.start_state, found.span.start) run → IsMatchOf e run found
    → Once e found
once_run e found [] m f = absurd (omega (arith, m.some))
once_run e found (p ∷ rest) m f = record {
  run = p ∷ s.rest;
  is_match = record {
    is_run = is_run_of e p s.rest (slice_get_within e.states (last_place p s.rest).0 (Accept found.pattern) at) ((m.is_run.places 0 m.some).1)
        ((m.is_run.places 0 m.some).2) s.steps;
    some = omega arith;
    begins = m.begins;
    ends = subst (λ (z : ℕ × ℕ). accepts e z ≡ true) last m.ends;
  };
  makes = record {
    pattern = ap (λ (z : ℕ × ℕ). slice_get e.states z.0) (sym last) ∙ f.pattern;
    start = f.start;
    end = f.end ∙ ap (λ (z : ℕ × ℕ). z.1) last;
  };
  once = λ j k l h e. once_of (p ∷ s.rest) s.once j k l h e;
}
  where
    s : Short e.states (subject_of e) e.end p (last_place p rest)
    s = shorten e.states (subject_of e) e.end p rest (steps_of e p rest m.is_run)

    last : place (p ∷ rest) (length (p ∷ rest) - 1) ≡ place (p ∷ s.rest) (length (p ∷ s.rest) - 1)
    last = last_is p rest ∙ (sym s.ends ∙ sym (last_is p s.rest))

    at : slice_get e.states (last_place p s.rest).0 ≡ Some (Accept found.pattern)
    at = ap (λ (z : ℕ × ℕ). slice_get e.states z.0) (s.ends ∙ sym (last_is p rest)) ∙ f.pattern

-- in the search, of runs from one place to matches of two patterns, the lesser pattern's is preferred
abbrev pub Prefers : Search → Type 0
Prefers e = (one other : List (ℕ × ℕ)) (found beaten : Matched) → IsMatchRun e (e.start_state, found.span.start) one → IsMatchOf e one found
    → IsMatchRun e (e.start_state, found.span.start) other → IsMatchOf e other beaten → found.pattern < beaten.pattern → IsPreferredTo e one other

pub is_least : (e : Search) (run : List (ℕ × ℕ)) (found other : Matched) → Prefers e → IsPreferred e (e.start_state, (place run 0).1) run
    → IsMatchOf e run found → HasRunOf e other → other.span.start ≡ found.span.start → found.pattern ≤ other.pattern
is_least e run found other prefers first f h same = ⊎_elim
    (λ (l : other.pattern < found.pattern).
    let o = once_run e other h.run h.is_match h.makes in
    let start : other.span.start ≡ (place run 0).1 = same ∙ f.start in
    absurd (first.first o.run (subst (λ (i : ℕ). IsMatchRun e (e.start_state, i) o.run) start o.is_match) o.once
    (prefers o.run run other found o.is_match o.makes (subst (λ (i : ℕ). IsMatchRun e (e.start_state, i) run) (sym start) first.is_match) f l)))
    (λ (le : found.pattern ≤ other.pattern). le)
    (cases_lt other.pattern found.pattern)

-- ---- what a run records

-- a place whose state accepts the same pattern accepts too
pub same_accepts : (e : Search) (p q : ℕ × ℕ) (m : ℕ) → slice_get e.states p.0 ≡ Some (Accept m) → slice_get e.states q.0 ≡ Some (Accept m)
    → accepts e p ≡ true
    → accepts e q ≡ true
same_accepts e p q m here there a = rw there (rw here at a)

-- what steps record, after what was recorded before
recorded_more : (a b c : Option ℕ) → or_earlier (or_earlier a b) c ≡ or_earlier a (or_earlier b c)
recorded_more (Some i) b c = refl
recorded_more None b c = refl

recorded_one : (o : Option State) (i slot : ℕ) (earlier : List (ℕ × ℕ))
    → or_earlier (cond (is_capture_of slot o) (Some i) None) (last_in earlier slot) ≡ last_in (recorded_by o i earlier) slot
recorded_one None i slot earlier = refl
recorded_one (Some (ByteRange a b next)) i slot earlier = refl
recorded_one (Some (Assert look next)) i slot earlier = refl
recorded_one (Some (Fork a b)) i slot earlier = refl
recorded_one (Some (Accept q)) i slot earlier = refl
recorded_one (Some (Capture c next)) i slot earlier = go (c == slot)
  where
    go : (b : Bool) → or_earlier (cond b (Some i) None) (last_in earlier slot) ≡ cond b (Some i) (last_in earlier slot)
    go true = refl
    go false = refl

pub recorded_all : (states : List State) (p : ℕ × ℕ) (rest earlier : List (ℕ × ℕ)) (slot : ℕ)
    → or_earlier (recorded states (p ∷ rest) slot) (last_in earlier slot) ≡ last_in (finish states p rest earlier).1 slot
recorded_all states p [] earlier slot = refl
recorded_all states p (q ∷ rest) earlier slot =
    recorded_more (recorded states (q ∷ rest) slot) (cond (is_capture_of slot (slice_get states p.0)) (Some p.1) None) (last_in earlier slot)
    ∙ (ap (λ (o : Option ℕ). or_earlier (recorded states (q ∷ rest) slot) o) (recorded_one (slice_get states p.0) p.1 slot earlier)
    ∙ recorded_all states q rest (recorded_by (slice_get states p.0) p.1 earlier) slot)

pub or_none : (o : Option ℕ) → or_earlier o None ≡ o
or_none None = refl
or_none (Some i) = refl

-- ---- if loops take bytes

pub RecordsFirstWays-built : {W : Type 0} (chars : W → ℕ → Bool) (program : Compiled W) (patterns : List Pattern)
    → RecordsPreferredWays chars program patterns → RecordsFirstWays chars program patterns
RecordsFirstWays-built chars program patterns preferred = record {
  first = λ input run found p is makes its loops.
      let g = preferred.preferred input run found p is makes its in (
        g.0,
        preferred-first (subject_of (search_in chars program input)) (as_whole program.automaton.groups found.pattern p) (λ j. j ≤ input.span.end)
            found.span.start found.span.end g.0 (numbered-loops (slot_number program.automaton.groups found.pattern) 1 p ∙ loops) g.1,
        g.2,
      );
}

pub PrefersFirstEnds-built : {W : Type 0} (chars : W → ℕ → Bool) (program : Compiled W) (patterns : List Pattern)
    → RecordsFirstWays chars program patterns → PrefersFirstEnds chars program patterns
PrefersFirstEnds-built chars program patterns ways = record {
  first = λ input run found p is makes its loops.
      let g = ways.first input run found p is makes its loops in
      let end = way-end (subject_of (search_in chars program input)) (as_whole program.automaton.groups found.pattern p) (λ j. j ≤ input.span.end)
      (found.span.start, []) (found.span.end, g.0) g.1 in
      subst (λ (F : (ℕ → Type 0) → ℕ → ℕ → Type 0). F (λ j. j ≤ input.span.end) found.span.start found.span.end)
      (numbered-end (subject_of (search_in chars program input)) (slot_number program.automaton.groups found.pattern) 1 p) end;
}

-- ---- any way

a_way : (e : Search) (lists : GroupLists) (patterns : List Pattern) (run : List (ℕ × ℕ)) (found : Matched) (p : Pattern)
    → OrdersSome e.states (slot_number lists) (length e.states) e.start_state 0 patterns
    → IsMatchRun e (e.start_state, found.span.start) run → IsMatchOf e run found → slice_get patterns found.pattern ≡ Some p
    → (records : List (ℕ × ℕ)) × GoesWith (subject_of e) (as_whole lists found.pattern p) (found.span.start, []) (found.span.end, records)
    × ((slot : ℕ) → recorded e.states run slot ≡ last_in records slot)
a_way e lists patterns [] found p all match makes its = let none = match.some in absurd (omega (arith, none))
a_way e lists patterns (q ∷ rest) found p all match makes its =
    let o = all found.pattern p (omega arith) its in
    let from : ℕ × ℕ = (e.start_state, found.span.start) in
    let here : q ≡ from = match.begins in
    let way = o.through (subject_of e) e.end (found.span.start, []) rest (record {
      within = subst (λ (z : ℕ × ℕ). z.1 ≤ e.end) here ((match.is_run.places 0 match.some).2);
      steps = subst (λ (z : ℕ × ℕ). AreSteps e.states (subject_of e) e.end z rest) here (steps_of e q rest match.is_run);
      accepts = subst (λ (z : ℕ × ℕ). slice_get e.states (last_place z rest).0 ≡ Some (Accept found.pattern)) here
          (ap (λ (z : ℕ × ℕ). slice_get e.states z.0) (sym (last_is q rest)) ∙ makes.pattern);
    }) in
    let end : (finish e.states from rest []).0.1 ≡ found.span.end =
    ap (λ (z : ℕ × ℕ). z.1) (finish_last e.states from rest [])
    ∙ (ap (λ (z : ℕ × ℕ). (last_place z rest).1) (sym here) ∙ (ap (λ (z : ℕ × ℕ). z.1) (sym (last_is q rest)) ∙ sym makes.end)) in (
      (finish e.states from rest []).1,
      subst (λ (j : ℕ). GoesWith (subject_of e) (as_whole lists found.pattern p) (found.span.start, []) (j, (finish e.states from rest []).1)) end way,
      λ slot. ap (λ (z : ℕ × ℕ). recorded e.states (z ∷ rest) slot) here
          ∙ (sym (or_none (recorded e.states (from ∷ rest) slot)) ∙ recorded_all e.states from rest [] slot),
    )

pub RecordsWays-built : {W : Type 0} (chars : W → ℕ → Bool) (program : Compiled W) (patterns : List Pattern)
    → OrdersSome program.automaton.states (slot_number program.automaton.groups) (length program.automaton.states) program.start 0 patterns
    → RecordsWays chars program patterns
RecordsWays-built chars program patterns all = record {
  way = λ input run found p match makes its. a_way (search_in chars program input) program.automaton.groups patterns run found p all match makes its;
}
