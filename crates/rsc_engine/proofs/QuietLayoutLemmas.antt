-- A match that goes on from a quiet state records nothing more but its end; and how the loud states are found.
use Rattle.std.proofs.Common.{◌≡◌, ℕ, nat_eq, ◌+◌, ◌*◌, ◌<◌, ◌≤◌, ⊎_elim, Bool, true, false, true≢false, not, cond, count_by, List, [], ◌∷◌, ◌++◌, length, get_or, set, refl, sym, ap, subst, ◌∙◌, arith, slice_get, Option, Some, None, MatchOption}
use Rattle.std.proofs.lemmas.Bool.{cases_lt, cases_eq}
use Rattle.std.proofs.lemmas.List.{length-set, get_or_past}
use Rattle.rsc_nfa.specs.declared.state.State.{State}
use Rattle.rsc_nfa.specs.declared.state.State.TheVariants.{ByteRange, Assert, Fork, Capture, Accept}
use Rattle.rsc_nfa.specs.Steps.{StepsTo, is_capture_of, or_earlier, recorded}
use Rattle.rsc_engine.specs.Searches.{Search}
use Rattle.rsc_engine.specs.Runs.{IsMatchRun, AreRecords}
use Rattle.rsc_engine.specs.DecidesLayout.{last_of, IsBest, unseen}
use Rattle.rsc_engine.specs.AlongLayout.{GoesTo, IsLed}
use Rattle.rsc_engine.specs.QuietLayout.{IsQuiet, LeadsQuietly, AreQuiet, closing}
use Rattle.rsc_engine.proofs.ForwardStepsLemmas.{match-drop, last-before}
use Rattle.rsc_engine.proofs.RetreatLemmas.{fewer}
use Rattle.rsc_engine.proofs.PreferredLemmas.{one_preferred}
use Rattle.rsc_engine.proofs.AlongLayoutLemmas.{none-best}
use Rattle.rsc_engine.proofs.AlongLemmas.{recorded_quiet, recorded-append, last-behind}

-- ---- along a run

module _ (e : Search) (loud : List Bool) (quiet : AreQuiet e.states loud) (p j slot : ℕ) where
  leads : (s : ℕ) (state : State) → IsQuiet loud s → slice_get e.states s ≡ Some state → LeadsQuietly e.states loud state
  leads s state q is = rw is at (quiet s q)

  -- the record of the end is the last step
  ends : (x y : ℕ × ℕ) (rest : List (ℕ × ℕ)) (q : ℕ × ℕ) (c next r : ℕ) → IsMatchRun e q (x ∷ (y ∷ rest))
      → slice_get e.states x.0 ≡ Some (Capture c next)
      → y.0 ≡ next → y.1 ≡ x.1 → c ≡ 2 * r + 1 → slice_get e.states next ≡ Some (Accept r)
      → slice_get e.states (last_of (x ∷ (y ∷ rest))).0 ≡ Some (Accept p) → (last_of (x ∷ (y ∷ rest))).1 ≡ j
      → recorded e.states (x ∷ (y ∷ rest)) slot ≡ closing p j slot
  ends x y [] q c next r m is at_next same_at second accepts last end =
      let its : Some (Accept r) ≡ Some (Accept p) = sym accepts ∙ (ap (λ (s : ℕ). slice_get e.states s) (sym at_next) ∙ last) in
      let same : r ≡ p = cc in
      let c_is : c ≡ 2 * p + 1 = omega (arith, second, same) in
      ap (λ (o : Option State). or_earlier None (cond (is_capture_of slot o) (Some x.1) None)) is
      ∙ (ap (λ (n : ℕ). cond (nat_eq n slot) (Some x.1) None) c_is
      ∙ ap (λ (i : ℕ). cond (nat_eq (2 * p + 1) slot) (Some i) None) (sym same_at ∙ end))
  ends x y (z ∷ rest) q c next r m is at_next same_at second accepts last end =
      absurd (rw (at_next, accepts) at (m.is_run.steps 1 (omega arith)))

  step : (x y : ℕ × ℕ) (rest : List (ℕ × ℕ)) (q : ℕ × ℕ) → IsMatchRun e q (x ∷ (y ∷ rest)) → IsQuiet loud q.0
      → slice_get e.states (last_of (x ∷ (y ∷ rest))).0 ≡ Some (Accept p) → (last_of (x ∷ (y ∷ rest))).1 ≡ j
      → (IsQuiet loud y.0 → recorded e.states (y ∷ rest) slot ≡ closing p j slot) → recorded e.states (x ∷ (y ∷ rest)) slot ≡ closing p j slot
  step x y rest q m at_first last end later = go (slice_get e.states x.0) refl (m.is_run.steps 0 (omega arith))
    where
      here : IsQuiet loud x.0
      here = subst (λ (z : ℕ × ℕ). IsQuiet loud z.0) (sym m.begins) at_first

      on : IsQuiet loud y.0 → is_capture_of slot (slice_get e.states x.0) ≡ false → recorded e.states (x ∷ (y ∷ rest)) slot ≡ closing p j slot
      on next silent = recorded_quiet e.states x (y ∷ rest) slot (omega arith) silent ∙ later next

      go : (o : Option State) → slice_get e.states x.0 ≡ o
          → MatchOption o ⊥ (λ (state : State). StepsTo state e.terminator e.word_chars e.haystack e.end x.1 y)
          → recorded e.states (x ∷ (y ∷ rest)) slot ≡ closing p j slot
      go None is s = absurd s
      go (Some (ByteRange a b next)) is s = on (subst (IsQuiet loud) (sym s.2) (leads x.0 (ByteRange a b next) here is)) (rw is refl)
      go (Some (Assert look next)) is s = on (subst (IsQuiet loud) (sym s.1) (leads x.0 (Assert look next) here is)) (rw is refl)
      go (Some (Fork a b)) is s = on (⊎_elim
          (λ (h : y.0 ≡ a). subst (IsQuiet loud) (sym h) (leads x.0 (Fork a b) here is).0)
          (λ (h : y.0 ≡ b). subst (IsQuiet loud) (sym h) (leads x.0 (Fork a b) here is).1)
          s.0) (rw is refl)
      go (Some (Capture c next)) is s =
          let l = leads x.0 (Capture c next) here is in ends x y rest q c next l.0 m is s.0 s.1 l.1 l.2 last end
      go (Some (Accept r)) is s = absurd s

  tail : (run : List (ℕ × ℕ)) (q : ℕ × ℕ) → IsMatchRun e q run → IsQuiet loud q.0 → slice_get e.states (last_of run).0 ≡ Some (Accept p)
      → (last_of run).1 ≡ j → recorded e.states run slot ≡ closing p j slot
  tail [] q m is last end = absurd (omega (arith, m.some))
  tail (x ∷ []) q m is last end = absurd (leads x.0 (Accept p) (subst (λ (z : ℕ × ℕ). IsQuiet loud z.0) (sym m.begins) is) last)
  tail (x ∷ (y ∷ rest)) q m is last end =
      let same : last_of (x ∷ (y ∷ rest)) ≡ last_of (y ∷ rest) = last-before x (y ∷ rest) (omega arith) in
      step x y rest q m is last end (λ next. tail (y ∷ rest) y (match-drop e q (x ∷ (y ∷ rest)) 1 m (omega arith)) next
      (subst (λ (z : ℕ × ℕ). slice_get e.states z.0 ≡ Some (Accept p)) same last) (subst (λ (z : ℕ × ℕ). z.1 ≡ j) same end))

cond_or : (b : Bool) (i : ℕ) (o : Option ℕ) → cond b (Some i) o ≡ or_earlier (cond b (Some i) None) o
cond_or true i o = refl
cond_or false i o = refl

-- what two options are said not to differ in, they are the same in
same_option : (a b : Option ℕ) → ¬ (¬ (a ≡ b)) → a ≡ b
same_option None None x = refl
same_option None (Some j) x = absurd (x (λ h. absurd (cc)))
same_option (Some i) None x = absurd (x (λ h. absurd (cc)))
same_option (Some i) (Some j) x = ⊎_elim
    (λ (same : i ≡ j). ap Some same)
    (λ (apart : i ≡ j → ⊥). absurd (x (λ h. let same : i ≡ j = cc in apart same)))
    (cases_eq i j)

-- with the end written, the slots hold what the preferred run records
pub quiet-records : (e : Search) (from p j : ℕ) (x : GoesTo e from p j) (s i : ℕ) (loud : List Bool) (slots new : List (Option ℕ))
    → AreQuiet e.states loud
    → IsQuiet loud s → IsLed e from s i slots → length new ≡ length slots
    → ((k : ℕ) → k < length new → get_or new k None ≡ cond (nat_eq (2 * p + 1) k) (Some j) (get_or slots k None)) → AreRecords e x.run new
quiet-records e from p j x s i loud slots new quiet is w len wrote k l =
    same_option (get_or new k None) (recorded e.states x.run k) (λ apart.
    none-best e i s (λ run best. apart (by run best)) w.arrives.run (record { is_match = w.arrives.is_match; avoids = λ h below at. refl }))
  where
    -- of the best run from there
    by : (run : List (ℕ × ℕ)) → IsBest e i unseen s run → get_or new k None ≡ recorded e.states x.run k
    by run best =
        let m = best.is_unseen.is_match in
        let same : w.front ++ run ≡ x.run = one_preferred e (e.start_state, from) (w.front ++ run) x.run (w.best run best) x.preferred in
        let last : last_of run ≡ last_of x.run = sym (last-behind w.front run m.some) ∙ ap last_of same in
        wrote k l
        ∙ cond_or (nat_eq (2 * p + 1) k) j (get_or slots k None)
        ∙ ap (λ (o : Option ℕ). or_earlier (closing p j k) o) (w.records (0, 0) k (omega (arith, l, len)))
        ∙ ap (λ (o : Option ℕ). or_earlier o (recorded e.states (w.front ++ (0, 0) ∷ []) k))
        (sym (tail e loud quiet p j k run (s, i) m is
        (subst (λ (q : ℕ × ℕ). slice_get e.states q.0 ≡ Some (Accept p)) (sym last) x.pattern) (ap (λ (q : ℕ × ℕ). q.1) last ∙ x.end)))
        ∙ sym (recorded-append e.states w.front run (0, 0) k m.some)
        ∙ ap (λ (y : List (ℕ × ℕ)). recorded e.states y k) same

-- ---- the loud states

-- the first k states were looked at
pub record IsSpread (states : List State) (before loud : List Bool) (grew : Bool) (k : ℕ) : Type 0 where
  pub len : length loud ≡ length states
  pub quiet : grew ≡ false → (s : ℕ) → s < k → IsQuiet loud s → MatchOption (slice_get states s) ⊥ (LeadsQuietly states loud)
  pub less : count_by not loud + cond grew 1 0 ≤ count_by not before

pub spread-first : (states : List State) (loud : List Bool) → length loud ≡ length states → IsSpread states loud loud false 0
spread-first states loud len = record { len = len; quiet = λ is s l. absurd (omega (arith, l)); less = omega arith }

module _ (states : List State) (before loud : List Bool) (grew : Bool) (k : ℕ) (f : IsSpread states before loud grew k) (l : k < length states) where
  pub spread-marked : get_or loud k false ≡ false → IsSpread states before (set loud k true) true (k + 1)
  spread-marked fresh = record {
    len = length-set loud k true ∙ f.len;
    quiet = λ is. absurd (true≢false is);
    less = omega (arith, f.less, fewer loud k (omega (arith, l, f.len)) fresh);
  }

  pub spread-same : (IsQuiet loud k → MatchOption (slice_get states k) ⊥ (LeadsQuietly states loud)) → IsSpread states before loud grew (k + 1)
  spread-same leads = record {
    len = f.len;
    quiet = λ h s below q. ⊎_elim
        (λ (lt : s < k). f.quiet h s lt q)
        (λ (le : k ≤ s).
        let same : s ≡ k = omega (arith, le, below) in
        subst (λ (n : ℕ). MatchOption (slice_get states n) ⊥ (LeadsQuietly states loud)) (sym same)
        (leads (subst (IsQuiet loud) same q)))
        (cases_lt s k);
    less = f.less;
  }

pub spread-last : (states : List State) (before loud : List Bool) (grew : Bool) (k : ℕ) → IsSpread states before loud grew k → length states ≤ k
    → grew ≡ false → AreQuiet states loud
spread-last states before loud grew k f past is s q = ⊎_elim
    (λ (l : s < length loud). f.quiet is s (omega (arith, l, f.len, past)) q)
    (λ (le : length loud ≤ s). absurd (true≢false (sym (get_or_past loud s true le) ∙ q)))
    (cases_lt s (length loud))

pub spread-less : (states : List State) (before loud : List Bool) (grew : Bool) (k : ℕ) → IsSpread states before loud grew k → grew ≡ true
    → count_by not loud + 1 ≤ count_by not before
spread-less states before loud grew k f is = subst (λ (b : Bool). count_by not loud + cond b 1 0 ≤ count_by not before) is f.less
