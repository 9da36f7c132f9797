-- How the preferred run goes on at a position, as the states on the stack are looked at.
use Rattle.std.proofs.Common.{◌≡◌, ℕ, zero, suc, ◌+◌, ◌<◌, ◌≤◌, ◌==◌, ⊎_elim, inl, inr, Bool, true, false, true≢false, cond, List, [], ◌∷◌, ◌++◌, length, take, refl, sym, ap, subst, ◌∙◌, arith, length-append, append_assoc, slice_get, Option, Some, None}
use Rattle.std.specs.List.{Contains}
use Rattle.std.proofs.lemmas.Bool.{cases_lt, cases_eq, eq-eqb, ne_eqb}
use Rattle.std.proofs.lemmas.List.{take-append-le, take_all}
use Rattle.rsc_nfa.specs.declared.state.State.{State}
use Rattle.rsc_nfa.specs.declared.state.State.TheVariants.{ByteRange, Assert, Fork, Capture, Accept}
use Rattle.rsc_engine.specs.Searches.{Search}
use Rattle.rsc_engine.specs.Runs.{Leads, IsPlace, accepts}
use Rattle.rsc_engine.specs.Preferred.{IsPreferred}
use Rattle.rsc_engine.specs.DecidesLayout.{IsUnseenMatch, IsHopeless, IsBest, IsMore, unseen}
use Rattle.rsc_engine.specs.PassesLayout.{IsNoFork}
use Rattle.rsc_engine.specs.ArrivalsLayout.{ArrivesOver}
use Rattle.rsc_engine.specs.BackwardLayout.{Lists}
use Rattle.rsc_engine.specs.OrderedLayout.{IsActionOf}
use Rattle.rsc_engine.specs.declared.dfa.ordered.Action.TheVariants.{One, Two}
use Rattle.rsc_engine.specs.AlongLayout.{IsInPlace, all_at, DecidesAlong}
use Rattle.rsc_engine.proofs.ForwardStepsLemmas.{match-one, avoids-one, first_of_fork, open-more, best-less, best-before, hopeless-before, best-over, hopeless-over}

all_at-more : (i : ℕ) (trail : List ℕ) (s : ℕ) → all_at i (trail ++ s ∷ []) ≡ all_at i trail ++ (s, i) ∷ []
all_at-more i [] s = refl
all_at-more i (t ∷ trail) s = ap (λ (l : List (ℕ × ℕ)). (t, i) ∷ l) (all_at-more i trail s)

-- a state more of the trail
pub way-more : (front : List (ℕ × ℕ)) (i : ℕ) (trail : List ℕ) (s : ℕ) (run : List (ℕ × ℕ))
    → (front ++ all_at i (trail ++ s ∷ [])) ++ run ≡ (front ++ all_at i trail) ++ (s, i) ∷ run
way-more front i trail s run =
    ap (λ (l : List (ℕ × ℕ)). (front ++ l) ++ run) (all_at-more i trail s)
    ∙ ap (λ (l : List (ℕ × ℕ)). l ++ run) (sym (append_assoc front (all_at i trail) ((s, i) ∷ [])))
    ∙ append_assoc (front ++ all_at i trail) ((s, i) ∷ []) run

-- a match alone is the best run from it
pub best-match : (e : Search) (i : ℕ) (seen : ℕ → Bool) (s : ℕ) → seen s ≡ false → IsPlace e (s, i) → accepts e (s, i) ≡ true
    → IsBest e i seen s ((s, i) ∷ [])
best-match e i seen s fresh there accepted = record {
  is_unseen = record { is_match = match-one e (s, i) there accepted; avoids = avoids-one i seen (s, i) fresh };
  once = λ j k l h. absurd (omega (arith, l, h));
  first = λ other m once b. absurd (omega (arith, b.other_within));
}

-- no match is reached from a state that was seen
pub hopeless-seen : (e : Search) (i : ℕ) (seen : ℕ → Bool) (s : ℕ) → seen s ≡ true → IsHopeless e i seen s
hopeless-seen e i seen s is run m = true≢false
    (sym is ∙ sym (ap (λ (q : ℕ × ℕ). seen q.0) m.is_match.begins) ∙ m.avoids 0 m.is_match.some (ap (λ (q : ℕ × ℕ). q.1) m.is_match.begins))

-- or of which the ways are hopeless
pub hopeless-fork : (e : Search) (i : ℕ) (seen after : ℕ → Bool) (s a b : ℕ) → IsMore seen s after → slice_get e.states s ≡ Some (Fork a b)
    → IsHopeless e i after a → IsHopeless e i after b → IsHopeless e i seen s
hopeless-fork e i seen after s a b g is none other = hopeless-before e i seen after s g (rw is refl) (λ q l. (
  (rw is at l).1,
  ⊎_elim
      (λ (h : q.0 ≡ a). subst (λ (n : ℕ). IsHopeless e i after n) (sym h) none)
      (λ (h : q.0 ≡ b). subst (λ (n : ℕ). IsHopeless e i after n) (sym h) other)
      (rw is at l).0,
))

-- the best run from the first way is the best from the fork, and if no match is reached by it, the best from the second
pub best-first : (e : Search) (i : ℕ) (seen after : ℕ → Bool) (s a b : ℕ) (run : List (ℕ × ℕ)) → IsMore seen s after → seen s ≡ false
    → IsPlace e (s, i)
    → slice_get e.states s ≡ Some (Fork a b) → IsBest e i after a run → IsBest e i seen s ((s, i) ∷ run)
best-first e i seen after s a b run g fresh there is best =
    best-before e i seen after s a run g fresh there (rw is (inl refl, refl)) (λ q l. (rw is at l).1)
    (λ c d fork apart. absurd (apart (first_of_fork a b c d (sym is ∙ fork)))) best

pub best-second : (e : Search) (i : ℕ) (seen after : ℕ → Bool) (s a b : ℕ) (run : List (ℕ × ℕ)) → IsMore seen s after → seen s ≡ false
    → IsPlace e (s, i)
    → slice_get e.states s ≡ Some (Fork a b) → IsHopeless e i after a → IsBest e i after b run → IsBest e i seen s ((s, i) ∷ run)
best-second e i seen after s a b run g fresh there is none best =
    best-before e i seen after s b run g fresh there (rw is (inr refl, refl)) (λ q l. (rw is at l).1)
    (λ c d fork apart. subst (λ (n : ℕ). IsHopeless e i after n) (first_of_fork a b c d (sym is ∙ fork)) none) best

module _ (e : Search) (from i : ℕ) (front : List (ℕ × ℕ)) where
  -- a state from which no match is reached may count as seen
  more : (seen after : ℕ → Bool) (s : ℕ) (trail : List ℕ) (stack : List (ℕ × ℕ)) → IsMore seen s after → IsHopeless e i seen s
      → DecidesAlong e from i seen front trail stack → DecidesAlong e from i after front trail stack
  more seen after s trail [] g none d = d
  more seen after s trail (x ∷ rest) g none d = (
    d.0,
    λ run b. d.1 run (best-less e i seen after s x.0 run g none b),
    λ hopeless. more seen after s (take x.1 trail) rest g none (d.2 (λ run m. hopeless run (open-more e i seen after s x.0 run g none m))),
  )

  -- below the top the trail may be longer
  longer : (seen : ℕ → Bool) (trail extra : List ℕ) (stack : List (ℕ × ℕ)) → DecidesAlong e from i seen front trail stack
      → DecidesAlong e from i seen front (trail ++ extra) stack
  longer seen trail extra [] d = d
  longer seen trail extra (x ∷ rest) d =
      let same : take x.1 (trail ++ extra) ≡ take x.1 trail = take-append-le x.1 trail extra d.0 in (
        omega (arith, d.0, length-append trail extra),
        λ run b. rw same (d.1 run b),
        λ hopeless. rw same (d.2 hopeless),
      )

  -- back to a way that is left
  pub along-back : (seen : ℕ → Bool) (trail : List ℕ) (s d : ℕ) (rest : List (ℕ × ℕ)) → DecidesAlong e from i seen front trail ((s, d) ∷ rest)
      → DecidesAlong e from i seen front (take d trail) ((s, length (take d trail)) ∷ rest)
  along-back seen trail s d rest x =
      let whole : take (length (take d trail)) (take d trail) ≡ take d trail = take_all (length (take d trail)) (take d trail) (omega arith) in (
        omega arith,
        λ run b. subst (λ (l : List ℕ). IsPreferred e (e.start_state, from) ((front ++ all_at i l) ++ run)) (sym whole) (x.1 run b),
        λ hopeless. subst (λ (l : List ℕ). DecidesAlong e from i seen front l rest) (sym whole) (x.2 hopeless),
      )

  module _ (seen after : ℕ → Bool) (trail : List ℕ) (s : ℕ) (rest : List (ℕ × ℕ)) (d : DecidesAlong e from i seen front trail ((s, length trail) ∷ rest)) where
    same : take (length trail) trail ≡ trail
    same = take_all (length trail) trail (omega arith)

    best-on : (run : List (ℕ × ℕ)) → IsBest e i seen s run → IsPreferred e (e.start_state, from) ((front ++ all_at i trail) ++ run)
    best-on run b = subst (λ (l : List ℕ). IsPreferred e (e.start_state, from) ((front ++ all_at i l) ++ run)) same (d.1 run b)

    next : IsHopeless e i seen s → DecidesAlong e from i seen front trail rest
    next none = subst (λ (l : List ℕ). DecidesAlong e from i seen front l rest) same (d.2 none)

    -- a state that was seen decides nothing
    pub along-again : seen s ≡ true → DecidesAlong e from i seen front trail rest
    along-again is = next (hopeless-seen e i seen s is)

    module _ (g : IsMore seen s after) (fresh : seen s ≡ false) where
      abbrev deeper : List ℕ
      deeper = trail ++ s ∷ []

      whole : take (length deeper) deeper ≡ deeper
      whole = take_all (length deeper) deeper (omega arith)

      on : (run : List (ℕ × ℕ)) → IsBest e i seen s ((s, i) ∷ run)
          → IsPreferred e (e.start_state, from) ((front ++ all_at i (take (length deeper) deeper)) ++ run)
      on run b = subst (λ (l : List (ℕ × ℕ)). IsPreferred e (e.start_state, from) l)
          (sym (ap (λ (l : List ℕ). (front ++ all_at i l) ++ run) whole ∙ way-more front i trail s run)) (best-on ((s, i) ∷ run) b)

      -- nor does one from which no match is reached
      pub along-off : IsHopeless e i seen s → DecidesAlong e from i after front trail rest
      along-off none = more seen after s trail rest g none (next none)

      below : IsHopeless e i seen s → DecidesAlong e from i after front (take (length deeper) deeper) rest
      below none = subst (λ (l : List ℕ). DecidesAlong e from i after front l rest) (sym whole) (longer after trail (s ∷ []) rest (along-off none))

      -- one, instead of which another may be gone on from, passes on to it
      pub along-single : (t : ℕ) → IsInPlace e i s t → DecidesAlong e from i after front deeper ((t, length deeper) ∷ rest)
      along-single t p = (omega arith, λ run best. on run (p.best seen after g fresh run best), λ none. below (p.none seen after g none))

      -- of a fork first the one way decides, then the other
      pub along-fork : (a b : ℕ) → IsPlace e (s, i) → slice_get e.states s ≡ Some (Fork a b)
          → DecidesAlong e from i after front deeper ((a, length deeper) ∷ (b, length deeper) ∷ rest)
      along-fork a b there is = (
        omega arith,
        λ run best. on run (best-first e i seen after s a b run g fresh there is best),
        λ none. subst (λ (l : List ℕ). DecidesAlong e from i after front l ((b, length deeper) ∷ rest)) (sym whole) (
          omega arith,
          λ run best. on run (best-second e i seen after s a b run g fresh there is none best),
          λ other. below (hopeless-fork e i seen after s a b g is none other),
        ),
      )

      -- over the byte the preferred run goes on
      pub along-over : (t : ℕ) → IsPlace e (s, i) → IsNoFork e s → Leads e (s, i) (t, i + 1) → (run : List (ℕ × ℕ))
          → IsBest e (i + 1) unseen t run
          → IsPreferred e (e.start_state, from) (((front ++ all_at i trail) ++ (s, i) ∷ []) ++ run)
      along-over t there no_fork leads run best = subst (λ (l : List (ℕ × ℕ)). IsPreferred e (e.start_state, from) l)
          (sym (append_assoc (front ++ all_at i trail) ((s, i) ∷ []) run))
          (best-on ((s, i) ∷ run) (best-over e i seen s t run fresh there leads no_fork best))

      -- or it's a match
      pub along-match : IsPlace e (s, i) → accepts e (s, i) ≡ true → IsPreferred e (e.start_state, from) ((front ++ all_at i trail) ++ (s, i) ∷ [])
      along-match there accepted = best-on ((s, i) ∷ []) (best-match e i seen s fresh there accepted)

-- ---- where no run is best, no match is reached

-- how many of the first n states weren't seen
left_of : ℕ → (ℕ → Bool) → ℕ
left_of zero seen = 0
left_of (suc n) seen = cond (seen n) 0 1 + left_of n seen

one-kept : (a b : Bool) → (a ≡ true → b ≡ true) → cond b 0 1 ≤ cond a 0 1
one-kept true b h = rw (h refl) (omega arith)
one-kept false true h = omega arith
one-kept false false h = omega arith

none-left : (b : Bool) → b ≡ true → cond b 0 1 ≤ 0
none-left b is = rw is (omega arith)

one-left : (b : Bool) → b ≡ false → 1 ≤ cond b 0 1
one-left b is = rw is (omega arith)

left-kept : (n : ℕ) (seen after : ℕ → Bool) → ((t : ℕ) → seen t ≡ true → after t ≡ true) → left_of n after ≤ left_of n seen
unfolding left_of
left-kept zero seen after kept = omega arith
left-kept (suc n) seen after kept = omega (arith, one-kept (seen n) (after n) (kept n), left-kept n seen after kept)

left-fewer : (n s : ℕ) (seen after : ℕ → Bool) → IsMore seen s after → seen s ≡ false → s < n → left_of n after + 1 ≤ left_of n seen
unfolding left_of
left-fewer zero s seen after g fresh l = absurd (omega (arith, l))
left-fewer (suc n) s seen after g fresh l = ⊎_elim
    (λ (lt : s < n). omega (arith, one-kept (seen n) (after n) (g.kept n), left-fewer n s seen after g fresh lt))
    (λ (le : n ≤ s).
    let same : s ≡ n = omega (arith, le, l) in
    let now = none-left (after n) (subst (λ (k : ℕ). after k ≡ true) same g.new) in
    let was = one-left (seen n) (subst (λ (k : ℕ). seen k ≡ false) same fresh) in
    omega (arith, now, was, left-kept n seen after g.kept))
    (cases_lt s n)

mark : (ℕ → Bool) → ℕ → ℕ → Bool
mark seen s t = cond (t == s) true (seen t)

marks : (seen : ℕ → Bool) (s : ℕ) → IsMore seen s (mark seen s)
unfolding mark
marks seen s = record {
  new = ap (λ (b : Bool). cond b true (seen s)) (eq-eqb s s refl);
  kept = λ t is. go (t == s) t is;
  only = λ t is. ⊎_elim
      (λ (same : t ≡ s). inl same)
      (λ (apart : t ≡ s → ⊥). inr (sym (ap (λ (b : Bool). cond b true (seen t)) (ne_eqb t s apart)) ∙ is))
      (cases_eq t s);
}
  where
    go : (b : Bool) (t : ℕ) → seen t ≡ true → cond b true (seen t) ≡ true
    go true t is = refl
    go false t is = is

-- ---- what a state does, if steps that lead to no match are left out

-- one step leads on, with no byte
pub in-place-single : (e : Search) (i s t : ℕ) → IsPlace e (s, i) → IsActionOf e i s (One t) → IsInPlace e i s t
in-place-single e i s t there way = record {
  best = λ seen after g fresh run best. best-before e i seen after s t run g fresh there way.2 (λ q l. (way.3 q l).1)
      (λ a b fork apart. absurd (way.1 a b fork)) best;
  none = λ seen after g none. hopeless-before e i seen after s g way.0 (λ q l.
      ((way.3 q l).1, subst (λ (n : ℕ). IsHopeless e i after n) (sym (way.3 q l).0) none));
}

-- from the first way of a fork no match is reached
pub in-place-second : (e : Search) (i s a b : ℕ) → IsPlace e (s, i) → IsActionOf e i s (Two a b) → ((seen : ℕ → Bool) → IsHopeless e i seen a)
    → IsInPlace e i s b
in-place-second e i s a b there is none = record {
  best = λ seen after g fresh run best. best-second e i seen after s a b run g fresh there is (none after) best;
  none = λ seen after g other. hopeless-fork e i seen after s a b g is (none after) other;
}

-- steps lead on over the byte alone, and from none of these states a match is reached
pub over-hopeless : (e : Search) (i s : ℕ) (list : List ℕ) → Lists (λ t. ArrivesOver e t i) list → ¬ (Contains list s) → IsPlace e (s, i)
    → accepts e (s, i) ≡ false → ((q : ℕ × ℕ) → Leads e (s, i) q → q.1 ≡ i + 1) → (seen : ℕ → Bool) → IsHopeless e i seen s
over-hopeless e i s list lists none there rejected over seen = hopeless-over e i seen s rejected (λ q l. (
  over q l,
  λ run m. none (lists.all s (record {
    to = q.0;
    there = there;
    leads = subst (λ (k : ℕ). Leads e (s, i) (q.0, k)) (over q l) l;
    arrives = record { run = run; is_match = m.is_match };
  })),
))

-- so it is of a state that goes on over a byte
pub byte-hopeless : (e : Search) (i s first last next : ℕ) (list : List ℕ) → Lists (λ t. ArrivesOver e t i) list → ¬ (Contains list s)
    → IsPlace e (s, i) → slice_get e.states s ≡ Some (ByteRange first last next) → (seen : ℕ → Bool) → IsHopeless e i seen s
byte-hopeless e i s first last next list lists none there is =
    over-hopeless e i s list lists none there (rw is refl) (λ q l. (rw is at l).3)

-- no run is the best one
abbrev HasNoBest : Search → ℕ → (ℕ → Bool) → ℕ → Type 0
HasNoBest e i seen s = (run : List (ℕ × ℕ)) → ¬ (IsBest e i seen s run)

unseen-there : (e : Search) (i : ℕ) (seen : ℕ → Bool) (s : ℕ) (run : List (ℕ × ℕ)) → IsUnseenMatch e i seen s run → IsPlace e (s, i)
unseen-there e i seen s run m = subst (λ (q : ℕ × ℕ). IsPlace e q) m.is_match.begins (m.is_match.is_run.places 0 m.is_match.some)

unseen-fresh : (e : Search) (i : ℕ) (seen : ℕ → Bool) (s : ℕ) (run : List (ℕ × ℕ)) → IsUnseenMatch e i seen s run → seen s ≡ false
unseen-fresh e i seen s run m =
    sym (ap (λ (q : ℕ × ℕ). seen q.0) m.is_match.begins) ∙ m.avoids 0 m.is_match.some (ap (λ (q : ℕ × ℕ). q.1) m.is_match.begins)

module _ (e : Search) (i : ℕ) (later : (t : ℕ) → HasNoBest e (i + 1) unseen t → IsHopeless e (i + 1) unseen t) where
  none-step : (s : ℕ) (seen after : ℕ → Bool) → IsMore seen s after → seen s ≡ false → IsPlace e (s, i)
      → ((t : ℕ) → HasNoBest e i after t → IsHopeless e i after t) → HasNoBest e i seen s → IsHopeless e i seen s
  none-step s seen after g fresh there on none = go (slice_get e.states s) refl
    where
      by : IsNoFork e s → accepts e (s, i) ≡ false → ((q : ℕ × ℕ) → Leads e (s, i) q → q.1 ≡ i) → IsHopeless e i seen s
      by no_fork rejected stays = hopeless-before e i seen after s g rejected (λ q l. (
        stays q l,
        on q.0 (λ run best. none ((s, i) ∷ run) (best-before e i seen after s q.0 run g fresh there
            (subst (λ (k : ℕ). Leads e (s, i) (q.0, k)) (stays q l) l) stays (λ a b fork apart. absurd (no_fork a b fork)) best)),
      ))

      go : (o : Option State) → slice_get e.states s ≡ o → IsHopeless e i seen s
      go None is = hopeless-before e i seen after s g (rw is refl) (λ q l. absurd (rw is at l))
      go (Some (ByteRange a b next)) is = hopeless-over e i seen s (rw is refl) (λ q l. (
        (rw is at l).3,
        later q.0 (λ run best. none ((s, i) ∷ run) (best-over e i seen s q.0 run fresh there
            (subst (λ (k : ℕ). Leads e (s, i) (q.0, k)) (rw is at l).3 l) (λ c d fork. absurd (cc)) best)),
      ))
      go (Some (Assert look next)) is = by (λ c d fork. absurd (cc)) (rw is refl) (λ q l. (rw is at l).2)
      go (Some (Capture slot next)) is = by (λ c d fork. absurd (cc)) (rw is refl) (λ q l. (rw is at l).1)
      go (Some (Fork a b)) is =
          let first = on a (λ run best. none ((s, i) ∷ run) (best-first e i seen after s a b run g fresh there is best)) in
          hopeless-fork e i seen after s a b g is first
          (on b (λ run best. none ((s, i) ∷ run) (best-second e i seen after s a b run g fresh there is first best)))
      go (Some (Accept p)) is = at (accepts e (s, i)) refl
        where
          at : (b : Bool) → accepts e (s, i) ≡ b → IsHopeless e i seen s
          at true accepted = absurd (none ((s, i) ∷ []) (best-match e i seen s fresh there accepted))
          at false rejected = hopeless-before e i seen after s g rejected (λ q l. absurd (rw is at l))

  none-here : (n s : ℕ) (seen : ℕ → Bool) → left_of (length e.states) seen ≤ n → HasNoBest e i seen s → IsHopeless e i seen s
  none-here zero s seen few none run m = absurd (omega (
    arith,
    few,
    left-fewer (length e.states) s seen (mark seen s) (marks seen s) (unseen-fresh e i seen s run m) (unseen-there e i seen s run m).0,
  ))
  none-here (suc n) s seen few none run m =
      let fresh = unseen-fresh e i seen s run m in
      let there = unseen-there e i seen s run m in
      let fewer = left-fewer (length e.states) s seen (mark seen s) (marks seen s) fresh there.0 in
      none-step s seen (mark seen s) (marks seen s) fresh there (λ t x. none-here n t (mark seen s) (omega (arith, few, fewer)) x) none run m

none-from : (e : Search) (d i s : ℕ) → e.end < i + d → HasNoBest e i unseen s → IsHopeless e i unseen s
none-from e zero i s past none run m = omega (arith, past, (unseen-there e i unseen s run m).2)
none-from e (suc d) i s past none run m =
    none-here e i (λ t x. none-from e d (i + 1) t (omega (arith, past)) x) (left_of (length e.states) unseen) s unseen (omega arith) none run m

pub none-best : (e : Search) (i s : ℕ) → ((run : List (ℕ × ℕ)) → ¬ (IsBest e i unseen s run)) → IsHopeless e i unseen s
none-best e i s none = none-from e (e.end + 1) i s (omega arith) none
