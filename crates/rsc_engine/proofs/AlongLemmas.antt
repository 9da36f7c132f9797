-- The pass along the log, as it goes through a position, and from one to the next.
use Rattle.std.proofs.Common.{◌≡◌, ℕ, ◌+◌, ◌-◌, ◌<◌, ◌≤◌, ◌==◌, inl, inr, ⊎_elim, Bool, true, false, cond, List, [], ◌∷◌, ◌++◌, length, take, get_or, set, reverse, refl, sym, ap, subst, ◌∙◌, arith, length-append, append_assoc, append-nil, slice_get, Option, Some, None, MatchOption}
use Rattle.std.specs.List.{All}
use Rattle.std.proofs.lemmas.Bool.{cases_lt, cases_eq, eq-eqb, ne_eqb}
use Rattle.std.proofs.lemmas.List.{take_all, get_or-take, length-take-le, get_or-set_same, get_or-set_other, length-set, reverse-append, get_or_append_left, get_or-append_right, get_or_default}
use Rattle.rsc_captures.specs.Captured.{Captured}
use Rattle.rsc_search.specs.Matches.{Matched}
use Rattle.rsc_nfa.specs.declared.state.State.{State}
use Rattle.rsc_nfa.specs.declared.state.State.TheVariants.{ByteRange, Assert, Fork, Capture, Accept}
use Rattle.rsc_nfa.specs.Steps.{place, StepsTo, is_capture_of, or_earlier, recorded}
use Rattle.rsc_engine.specs.Searches.{Search}
use Rattle.rsc_engine.specs.Runs.{Leads, IsPlace, AreRecords}
use Rattle.rsc_engine.specs.RowsLayout.{AreStates}
use Rattle.rsc_engine.specs.DecidesLayout.{last_of, IsBest, IsMore, unseen}
use Rattle.rsc_engine.specs.declared.dfa.ordered.Action.TheVariants.{Stuck, One, OverByte, Two, Match}
use Rattle.rsc_engine.specs.GroupsLayout.{AreEmpty}
use Rattle.rsc_engine.specs.Preferred.{IsPreferred, IsFirstMatch}
use Rattle.rsc_engine.specs.ForwardLayout.{search_up_to}
use Rattle.rsc_engine.specs.ArrivalsLayout.{Arrives, ArrivesOver}
use Rattle.rsc_engine.specs.BackwardLayout.{IsStartOf, Lists}
use Rattle.rsc_engine.specs.AlongLayout.{GoesTo, IsRecorded, AreRecordsTo, IsLed, AreBelow, IsActionAlong, all_at, DecidesAlong}
use Rattle.rsc_engine.proofs.AlongLayoutLemmas.{way-more, along-back, along-again, along-off, along-single, along-fork, along-over, along-match}
use Rattle.rsc_engine.proofs.BackwardLemmas.{first-down}
use Rattle.rsc_engine.proofs.ForwardStepsLemmas.{run-rises}
use Rattle.rsc_engine.proofs.OrderedLemmas.{states-push}
use Rattle.rsc_engine.proofs.PreferredLemmas.{one_preferred}
use Rattle.rsc_engine.proofs.ArrivalsLayoutLemmas.{arrives-within}

-- ---- what a run records before a place

pub or_none : (o : Option ℕ) → or_earlier o None ≡ o
or_none None = refl
or_none (Some i) = refl

pub or_or : (a b c : Option ℕ) → or_earlier (or_earlier a b) c ≡ or_earlier a (or_earlier b c)
or_or None b c = refl
or_or (Some i) b c = refl

-- what a state records in a slot at a position
abbrev pub at_place : List State → ℕ × ℕ → ℕ → Option ℕ
at_place states p slot = cond (is_capture_of slot (slice_get states p.0)) (Some p.1) None

pub recorded-cons : (states : List State) (p : ℕ × ℕ) (rest : List (ℕ × ℕ)) (slot : ℕ) → 0 < length rest
    → recorded states (p ∷ rest) slot ≡ or_earlier (recorded states rest slot) (at_place states p slot)
recorded-cons states p [] slot l = absurd (omega (arith, l))
recorded-cons states p (q ∷ rest) slot l = refl

-- a place whose state records nothing
pub recorded_quiet : (states : List State) (p : ℕ × ℕ) (rest : List (ℕ × ℕ)) (slot : ℕ) → 0 < length rest
    → is_capture_of slot (slice_get states p.0) ≡ false
    → recorded states (p ∷ rest) slot ≡ recorded states rest slot
recorded_quiet states p rest slot l quiet =
    recorded-cons states p rest slot l
    ∙ ap (λ (b : Bool). or_earlier (recorded states rest slot) (cond b (Some p.1) None)) quiet
    ∙ or_none (recorded states rest slot)

-- a run records what its first places record, and after that what the others do
pub recorded-append : (states : List State) (front run : List (ℕ × ℕ)) (q : ℕ × ℕ) (slot : ℕ) → 0 < length run
    → recorded states (front ++ run) slot ≡ or_earlier (recorded states run slot) (recorded states (front ++ q ∷ []) slot)
recorded-append states [] run q slot some = sym (or_none (recorded states run slot))
recorded-append states (x ∷ front) run q slot some =
    recorded-cons states x (front ++ run) slot (omega (arith, some, length-append front run))
    ∙ ap (λ (o : Option ℕ). or_earlier o (at_place states x slot)) (recorded-append states front run q slot some)
    ∙ or_or (recorded states run slot) (recorded states (front ++ q ∷ []) slot) (at_place states x slot)
    ∙ ap (λ (o : Option ℕ). or_earlier (recorded states run slot) o)
    (sym (recorded-cons states x (front ++ q ∷ []) slot (omega (arith, length-append front (q ∷ [])))))

-- places before a run don't change its end
pub last-behind : (front run : List (ℕ × ℕ)) → 0 < length run → last_of (front ++ run) ≡ last_of run
last-behind front run some =
    let last : length (front ++ run) - 1 ≡ length front + (length run - 1) = omega (arith, some, length-append front run) in
    let back : length front + (length run - 1) - length front ≡ length run - 1 = omega arith in
    ap (λ (k : ℕ). place (front ++ run) k) last
    ∙ get_or-append_right front run (length front) (length front + (length run - 1)) (0, 0) refl (omega arith) ∙ ap (λ (k : ℕ). place run k) back

-- a place more
pub recorded-more : (states : List State) (front : List (ℕ × ℕ)) (p q : ℕ × ℕ) (slot : ℕ)
    → recorded states ((front ++ p ∷ []) ++ q ∷ []) slot ≡ or_earlier (at_place states p slot) (recorded states (front ++ p ∷ []) slot)
recorded-more states front p q slot =
    ap (λ (l : List (ℕ × ℕ)). recorded states l slot) (append_assoc front (p ∷ []) (q ∷ []))
    ∙ recorded-append states front (p ∷ (q ∷ [])) p slot (omega arith)

-- no states record anything
pub records-first : (states : List State) (front : List (ℕ × ℕ)) (i : ℕ) (slots : List (Option ℕ)) → AreRecordsTo states front slots
    → AreRecordsTo states (front ++ all_at i []) slots
records-first states front i slots had q s l = rw (append-nil front) (had q s l)

-- a state more of the trail
pub records-more : (states : List State) (front : List (ℕ × ℕ)) (i s : ℕ) (trail more : List ℕ) (state : State) (old new : List (Option ℕ))
    → more ≡ trail ++ s ∷ [] → slice_get states s ≡ Some state → length new ≡ length old
    → ((slot : ℕ) → slot < length new
    → get_or new slot None ≡ or_earlier (cond (is_capture_of slot (Some state)) (Some i) None) (get_or old slot None))
    → AreRecordsTo states (front ++ all_at i trail) old → AreRecordsTo states (front ++ all_at i more) new
records-more states front i s trail more state old new grown is len wrote had q slot there =
    wrote slot there
    ∙ ap (λ (o : Option ℕ). or_earlier (cond (is_capture_of slot (Some state)) (Some i) None) o) (had (s, i) slot (omega (arith, there, len)))
    ∙ ap (λ (x : Option State). or_earlier (cond (is_capture_of slot x) (Some i) None) (recorded states ((front ++ all_at i trail) ++ (s, i) ∷ []) slot))
    (sym is)
    ∙ sym (recorded-more states (front ++ all_at i trail) (s, i) q slot)
    ∙ ap (λ (l : List (ℕ × ℕ)). recorded states l slot)
    (append_assoc (front ++ all_at i trail) ((s, i) ∷ []) (q ∷ []) ∙ sym (way-more front i trail s (q ∷ []))
    ∙ ap (λ (l : List ℕ). (front ++ all_at i l) ++ q ∷ []) (sym grown))

-- a place whose state records nothing
pub records-quiet : (states : List State) (front : List (ℕ × ℕ)) (p : ℕ × ℕ) (slots : List (Option ℕ))
    → ((slot : ℕ) → is_capture_of slot (slice_get states p.0) ≡ false) → AreRecordsTo states front slots
    → AreRecordsTo states (front ++ p ∷ []) slots
records-quiet states front p slots quiet had q slot there =
    had p slot there
    ∙ ap (λ (b : Bool). or_earlier (cond b (Some p.1) None) (recorded states (front ++ p ∷ []) slot)) (sym (quiet slot))
    ∙ sym (recorded-more states front p q slot)

-- ---- what was seen at a position, by its stamp

abbrev pub seen_at : ℕ → List ℕ → ℕ → Bool
seen_at stamp seen s = get_or seen s 0 == stamp

more-seen : (stamp : ℕ) (seen : List ℕ) (s : ℕ) → s < length seen → IsMore (seen_at stamp seen) s (seen_at stamp (set seen s stamp))
more-seen stamp seen s l = record {
  new = eq-eqb (get_or (set seen s stamp) s 0) stamp (get_or-set_same seen s stamp 0 l);
  kept = λ t is. ⊎_elim
      (λ (same : t ≡ s). eq-eqb (get_or (set seen s stamp) t 0) stamp
      (ap (λ (k : ℕ). get_or (set seen s stamp) k 0) same ∙ get_or-set_same seen s stamp 0 l))
      (λ (apart : (t ≡ s) → ⊥). ap (λ (k : ℕ). k == stamp) (get_or-set_other seen s t stamp 0 apart) ∙ is)
      (cases_eq t s);
  only = λ t is. ⊎_elim
      (λ (same : t ≡ s). inl same)
      (λ (apart : (t ≡ s) → ⊥). inr (ap (λ (k : ℕ). k == stamp) (sym (get_or-set_other seen s t stamp 0 apart)) ∙ is))
      (cases_eq t s);
}

below-set : (n : ℕ) (seen : List ℕ) (s v : ℕ) → s < length seen → v < n → AreBelow n seen → AreBelow n (set seen s v)
below-set n seen s v l small below t = ⊎_elim
    (λ (same : t ≡ s).
    subst (λ (k : ℕ). k < n) (sym (ap (λ (k : ℕ). get_or (set seen s v) k 0) same ∙ get_or-set_same seen s v 0 l)) small)
    (λ (apart : (t ≡ s) → ⊥). subst (λ (k : ℕ). k < n) (sym (get_or-set_other seen s t v 0 apart)) (below t))
    (cases_eq t s)

-- ---- the loop

-- what the loop keeps: the state here, and then the stack, decide how the preferred run goes on, from the slots as they were
pub record IsPassing (e : Search) (n i stamp sid here : ℕ) (list : List ℕ) (slots : List (Option ℕ)) (seen : List ℕ) (stack : List (ℕ × ℕ))
    (trail : List ℕ)
    : Type 0 where
  pub len : length seen ≡ n
  pub below : AreBelow (stamp + 1) seen
  pub here_there : here < n
  pub there : All (λ (x : ℕ × ℕ). x.0 < n) stack
  pub states : AreStates n trail
  pub on : (from : ℕ) → Lists (λ s. ArrivesOver e s i) list → (w : IsLed e from sid i slots)
      → DecidesAlong e from i (seen_at stamp seen) w.front trail ((here, length trail) ∷ reverse stack)

-- what it has left, once the state here decides nothing
pub record IsLeft (e : Search) (n i stamp sid : ℕ) (list : List ℕ) (slots : List (Option ℕ)) (seen : List ℕ) (stack : List (ℕ × ℕ))
    (trail : List ℕ)
    : Type 0 where
  pub len : length seen ≡ n
  pub below : AreBelow (stamp + 1) seen
  pub there : All (λ (x : ℕ × ℕ). x.0 < n) stack
  pub states : AreStates n trail
  pub on : (from : ℕ) → Lists (λ s. ArrivesOver e s i) list → (w : IsLed e from sid i slots)
      → DecidesAlong e from i (seen_at stamp seen) w.front trail (reverse stack)

pub passing-first : {e : Search} {n i stamp sid : ℕ} {list : List ℕ} {slots : List (Option ℕ)} {seen : List ℕ} → length seen ≡ n
    → AreBelow stamp seen → sid < n
    → IsPassing e n i stamp sid sid list slots seen [] []
passing-first {e} {n} {i} {stamp} {sid} {list} {slots} {seen} len below there = record {
  len = len;
  below = λ s. omega (arith, below s);
  here_there = there;
  there = λ k d l. absurd (omega (arith, l));
  states = λ k d l. absurd (omega (arith, l));
  on = λ from lists w. (
    omega arith,
    λ run b. rw (append-nil w.front) (w.best run (decides-unseen run b)),
    λ hopeless. absurd (hopeless w.arrives.run (record { is_match = w.arrives.is_match; avoids = λ k l h. none_seen (place w.arrives.run k).0 })),
  );
}
  where
    none_seen : (s : ℕ) → seen_at stamp seen s ≡ false
    none_seen s = ne_eqb (get_or seen s 0) stamp (λ (h : get_or seen s 0 ≡ stamp). omega (arith, h, below s))

    -- it's no matter how it is said that nothing was seen
    decides-unseen : (run : List (ℕ × ℕ)) → IsBest e i (seen_at stamp seen) sid run → IsBest e i unseen sid run
    decides-unseen run b = record {
      is_unseen = record { is_match = b.is_unseen.is_match; avoids = λ k l h. refl };
      once = b.once;
      first = λ other m once. b.first other (record { is_match = m.is_match; avoids = λ k l h. none_seen (place other k).0 }) once;
    }

stack-there : (n : ℕ) (stack : List (ℕ × ℕ)) (x : ℕ × ℕ) → All (λ (y : ℕ × ℕ). y.0 < n) (stack ++ x ∷ []) → x.0 < n
stack-there n stack x all =
    let none : length stack - length stack ≡ 0 = omega arith in
    let here : get_or (stack ++ x ∷ []) (length stack) x ≡ x =
    get_or-append_right stack (x ∷ []) (length stack) (length stack) x refl (omega arith) ∙ ap (λ (k : ℕ). get_or (x ∷ []) k x) none in
    subst (λ (y : ℕ × ℕ). y.0 < n) here (all (length stack) x (omega (arith, length-append stack (x ∷ []))))

stack-rest : (n : ℕ) (stack : List (ℕ × ℕ)) (x : ℕ × ℕ) → All (λ (y : ℕ × ℕ). y.0 < n) (stack ++ x ∷ [])
    → All (λ (y : ℕ × ℕ). y.0 < n) stack
stack-rest n stack x all k d l =
    subst (λ (y : ℕ × ℕ). y.0 < n) (get_or_append_left stack (x ∷ []) d k l) (all k d (omega (arith, l, length-append stack (x ∷ []))))

stack-more : (n : ℕ) (stack : List (ℕ × ℕ)) (x : ℕ × ℕ) → All (λ (y : ℕ × ℕ). y.0 < n) stack → x.0 < n
    → All (λ (y : ℕ × ℕ). y.0 < n) (stack ++ x ∷ [])
stack-more n stack x all there k d l = ⊎_elim
    (λ (h : k < length stack). subst (λ (y : ℕ × ℕ). y.0 < n) (sym (get_or_append_left stack (x ∷ []) d k h)) (all k d h))
    (λ (h : length stack ≤ k).
    let none : k - length stack ≡ 0 = omega (arith, h, l, length-append stack (x ∷ [])) in
    subst (λ (y : ℕ × ℕ). y.0 < n)
    (sym (get_or-append_right stack (x ∷ []) (length stack) k d refl h ∙ ap (λ (m : ℕ). get_or (x ∷ []) m d) none)) there)
    (cases_lt k (length stack))

states-take : (n k : ℕ) (trail : List ℕ) → AreStates n trail → AreStates n (take k trail)
states-take n k trail states = ⊎_elim
    (λ (le : k < length trail). λ m d l.
    let short : m < k = omega (arith, l, length-take-le k trail (omega (arith, le))) in
    subst (λ (s : ℕ). s < n) (sym (get_or-take k trail m d short)) (states m d (omega (arith, short, le))))
    (λ (ge : length trail ≤ k). subst (λ (t : List ℕ). AreStates n t) (sym (take_all k trail ge)) states)
    (cases_lt k (length trail))

reverse-top : (stack : List (ℕ × ℕ)) (x : ℕ × ℕ) → reverse (stack ++ x ∷ []) ≡ x ∷ reverse stack
reverse-top stack x = reverse-append stack (x ∷ [])

-- back to a way that is left
pub passing-back : {e : Search} {n i stamp sid : ℕ} {list : List ℕ} {slots : List (Option ℕ)} {seen : List ℕ} {before stack : List (ℕ × ℕ)}
    {trail kept : List ℕ} (s d : ℕ) → IsLeft e n i stamp sid list slots seen before trail → before ≡ stack ++ (s, d) ∷ [] → kept ≡ take d trail
    → IsPassing e n i stamp sid s list slots seen stack kept
passing-back {e} {n} {i} {stamp} {sid} {list} {slots} {seen} {before} {stack} {trail} {kept} s d f popped is =
    let all : All (λ (y : ℕ × ℕ). y.0 < n) (stack ++ (s, d) ∷ []) =
    subst (λ (l : List (ℕ × ℕ)). All (λ (y : ℕ × ℕ). y.0 < n) l) popped f.there in
    record {
      len = f.len;
      below = f.below;
      here_there = stack-there n stack (s, d) all;
      there = stack-rest n stack (s, d) all;
      states = subst (λ (l : List ℕ). AreStates n l) (sym is) (states-take n d trail f.states);
      on = λ from lists w. subst (λ (l : List ℕ). DecidesAlong e from i (seen_at stamp seen) w.front l ((s, length l) ∷ reverse stack)) (sym is)
          (along-back e from i w.front (seen_at stamp seen) trail s d (reverse stack)
          (subst (λ (l : List (ℕ × ℕ)). DecidesAlong e from i (seen_at stamp seen) w.front trail l) (ap reverse popped ∙ reverse-top stack (s, d))
          (f.on from lists w)));
    }

-- only over a byte a step leads to the next position, so nothing is recorded
over-quiet : (e : Search) (s t i slot : ℕ) → Leads e (s, i) (t, i + 1) → is_capture_of slot (slice_get e.states s) ≡ false
over-quiet e s t i slot leads = go (slice_get e.states s) leads
  where
    go : (o : Option State) → MatchOption o ⊥ (λ (state : State). StepsTo state e.terminator e.word_chars e.haystack e.end i (t, i + 1))
        → is_capture_of slot o ≡ false
    go None x = absurd x
    go (Some (ByteRange a b next)) x = refl
    go (Some (Assert look next)) x = refl
    go (Some (Fork a b)) x = refl
    go (Some (Capture c next)) x = absurd (omega (arith, x.1))
    go (Some (Accept p)) x = refl

module _ {e : Search} {n i stamp sid here : ℕ} {list : List ℕ} {slots : List (Option ℕ)} {seen : List ℕ} {stack : List (ℕ × ℕ)} {trail : List ℕ}
    (f : IsPassing e n i stamp sid here list slots seen stack trail) where
  marked : here < length seen
  marked = omega (arith, f.here_there, f.len)

  pub passing-again : seen_at stamp seen here ≡ true → IsLeft e n i stamp sid list slots seen stack trail
  passing-again was = record {
    len = f.len;
    below = f.below;
    there = f.there;
    states = f.states;
    on = λ from lists w.
        along-again e from i w.front (seen_at stamp seen) (seen_at stamp seen) trail here (reverse stack) (f.on from lists w) was;
  }

  read : (k b : ℕ) → k ≡ here → b ≡ get_or seen k b → get_or seen here 0 ≡ b
  read k b same got = get_or_default seen here 0 b marked ∙ ap (λ (h : ℕ). get_or seen h b) (sym same) ∙ sym got

  pub was-seen : (k b : ℕ) → k ≡ here → b ≡ get_or seen k b → b ≡ stamp → seen_at stamp seen here ≡ true
  was-seen k b same got is = eq-eqb (get_or seen here 0) stamp (read k b same got ∙ is)

  pub not-seen : (k b : ℕ) → k ≡ here → b ≡ get_or seen k b → (b ≡ stamp → ⊥) → seen_at stamp seen here ≡ false
  not-seen k b same got apart = ne_eqb (get_or seen here 0) stamp (λ is. apart (sym (read k b same got) ∙ is))

  abbrev after : List ℕ
  after = set seen here stamp

  pub below-after : AreBelow (stamp + 1) after
  below-after = below-set (stamp + 1) seen here stamp marked (omega arith) f.below

  module _ (size : n ≡ length e.states) (low : e.start ≤ i) (high : i ≤ e.end) (fresh : seen_at stamp seen here ≡ false) where
    place_there : IsPlace e (here, i)
    place_there = (omega (arith, f.here_there, size), low, high)

    g : IsMore (seen_at stamp seen) here (seen_at stamp after)
    g = more-seen stamp seen here marked

    len_after : length after ≡ n
    len_after = length-set seen here stamp ∙ f.len

    trail_after : AreStates n (trail ++ here ∷ [])
    trail_after = states-push n trail here f.states f.here_there

    -- from the state no match is reached
    pub passing-stuck : (Lists (λ s. ArrivesOver e s i) list → IsActionAlong e i here Stuck) → IsLeft e n i stamp sid list slots after stack trail
    passing-stuck way = record {
      len = len_after;
      below = below-after;
      there = f.there;
      states = f.states;
      on = λ from lists w. along-off e from i w.front (seen_at stamp seen) (seen_at stamp after) trail here (reverse stack) (f.on from lists w) g fresh
          (way lists (seen_at stamp seen));
    }

    pub passing-one : (t : ℕ) → (Lists (λ s. ArrivesOver e s i) list → IsActionAlong e i here (One t)) → t < n
        → IsPassing e n i stamp sid t list slots after stack (trail ++ here ∷ [])
    passing-one t way l = record {
      len = len_after;
      below = below-after;
      here_there = l;
      there = f.there;
      states = trail_after;
      on = λ from lists w. along-single e from i w.front (seen_at stamp seen) (seen_at stamp after) trail here (reverse stack) (f.on from lists w) g fresh t
          (way lists);
    }

    pub passing-two : (a b : ℕ) → (Lists (λ s. ArrivesOver e s i) list → IsActionAlong e i here (Two a b)) → (a < n) × (b < n)
        → IsPassing e n i stamp sid a list slots after (stack ++ (b, length (trail ++ here ∷ [])) ∷ []) (trail ++ here ∷ [])
    passing-two a b way l = record {
      len = len_after;
      below = below-after;
      here_there = l.0;
      there = stack-more n stack (b, length (trail ++ here ∷ [])) f.there l.1;
      states = trail_after;
      on = λ from lists w. subst
          (λ (l : List (ℕ × ℕ)). DecidesAlong e from i (seen_at stamp after) w.front (trail ++ here ∷ []) ((a, length (trail ++ here ∷ [])) ∷ l))
          (sym (reverse-top stack (b, length (trail ++ here ∷ []))))
          (along-fork e from i w.front (seen_at stamp seen) (seen_at stamp after) trail here (reverse stack) (f.on from lists w) g fresh a b place_there
          (way lists));
    }

    -- what the trail's states record was written
    module _ (new : List (Option ℕ))
        (wrote : (front : List (ℕ × ℕ)) → AreRecordsTo e.states front slots → AreRecordsTo e.states (front ++ all_at i trail) new) where
      pub found-over : (t : ℕ) → (Lists (λ s. ArrivesOver e s i) list → IsActionAlong e i here (OverByte t)) → (from : ℕ)
          → Lists (λ s. ArrivesOver e s i) list → IsLed e from sid i slots → IsLed e from t (i + 1) new
      found-over t along from lists w =
          let way = (along lists).0 in
          record {
            front = (w.front ++ all_at i trail) ++ (here, i) ∷ [];
            arrives =
                let a = (along lists).1 in
                let same : a.to ≡ t = (way.3 (a.to, i + 1) a.leads).0 in
                subst (λ (s : ℕ). Arrives e s (i + 1)) same a.arrives;
            best = λ run b. along-over e from i w.front (seen_at stamp seen) (seen_at stamp after) trail here (reverse stack) (f.on from lists w) g fresh t
                place_there way.1 way.2 run b;
            records = records-quiet e.states (w.front ++ all_at i trail) (here, i) new (λ slot. over-quiet e here t i slot way.2) (wrote w.front w.records);
          }

      pub found-match : (q : ℕ) → (Lists (λ s. ArrivesOver e s i) list → IsActionAlong e i here (Match q)) → (from : ℕ)
          → Lists (λ s. ArrivesOver e s i) list → IsLed e from sid i slots → IsRecorded e from q i new
      found-match q along from lists w =
          let way = along lists in
          record {
            goes = record {
              run = (w.front ++ all_at i trail) ++ (here, i) ∷ [];
              preferred = along-match e from i w.front (seen_at stamp seen) (seen_at stamp after) trail here (reverse stack) (f.on from lists w) g fresh
                  place_there way.0;
              pattern = rw (last-behind (w.front ++ all_at i trail) ((here, i) ∷ []) (omega arith)) way.1;
              end = ap (λ (y : ℕ × ℕ). y.1) (last-behind (w.front ++ all_at i trail) ((here, i) ∷ []) (omega arith));
            };
            records = wrote w.front w.records (here, i);
          }

-- something is left before the run's end
pub left-never : {e : Search} {n i stamp sid : ℕ} {list : List ℕ} {slots : List (Option ℕ)} {seen : List ℕ} {trail : List ℕ} (stack : List
    (ℕ × ℕ))
    → IsLeft e n i stamp sid list slots seen stack trail → stack ≡ [] → (from : ℕ) → Lists (λ s. ArrivesOver e s i) list
    → IsLed e from sid i slots → ⊥
left-never [] f none from lists w = f.on from lists w
left-never (x ∷ stack) f none from lists w = absurd (cc none)

-- ---- from position to position

pub led-first : (e : Search) (from : ℕ) (slots : List (Option ℕ)) → AreEmpty slots → Arrives e e.start_state from
    → IsLed e from e.start_state from slots
led-first e from slots empty a = record {
  front = [];
  arrives = a;
  best = λ run b. record {
    is_match = b.is_unseen.is_match;
    once = b.once;
    first = λ other m once. b.first other (record { is_match = m; avoids = λ k l h. refl }) once;
  };
  records = λ q s l. empty s l;
}

pub led-within : (e : Search) (from s i : ℕ) (slots : List (Option ℕ)) → IsLed e from s i slots → i ≤ e.end
led-within e from s i slots w = (arrives-within e s i w.arrives).2

-- ---- the leftmost-first match

pub start-before-end : (e : Search) (p from j : ℕ) → IsStartOf e p j from → from ≤ j
start-before-end e p from j x = omega (
  arith,
  ap (λ (q : ℕ × ℕ). q.1) x.begins,
  run-rises e x.run (length x.run - 1) x.is_first.preferred.is_match.is_run (omega (arith, x.is_first.preferred.is_match.some)),
  x.end,
)

pub start-within : (e : Search) (p from j : ℕ) → IsStartOf e p j from → j ≤ e.end
start-within e p from j x = omega (
  arith,
  (x.is_first.preferred.is_match.is_run.places (length x.run - 1) (omega (arith, x.is_first.preferred.is_match.some))).2,
  x.end,
)

-- in the part of the span up to its end its run is the preferred one
abbrev pub goes-to : (e : Search) (p from j : ℕ) → IsStartOf e p j from → GoesTo (search_up_to e j) from p j
goes-to e p from j x = record {
  run = x.run;
  preferred = subst (λ (n : ℕ). IsPreferred (search_up_to e j) (e.start_state, n) x.run) (ap (λ (q : ℕ × ℕ). q.1) x.begins)
      (first-down e j x.run (omega (arith, x.end)) (start-within e p from j x) x.is_first).preferred;
  pattern = x.pattern;
  end = x.end;
}

pub start-arrives : (e : Search) (p from j : ℕ) → IsStartOf e p j from → Arrives (search_up_to e j) e.start_state from
start-arrives e p from j x = record { run = x.run; is_match = (goes-to e p from j x).preferred.is_match }

-- the match that is sought, with what its run records
pub first-match : (e : Search) (p from j : ℕ) (x : IsStartOf e p j from) (captures : Captured) (found : Matched) → found.pattern ≡ p
    → found.span.start ≡ from
    → found.span.end ≡ j → captures.pattern ≡ Some p → AreRecords e x.run captures.offsets → IsFirstMatch e captures found
first-match e p from j x captures found is_pattern is_start is_end is_set records = record {
  run = x.run;
  is_first = x.is_first;
  is_of = record {
    ends = record {
      pattern = rw is_pattern x.pattern;
      start = is_start ∙ sym (ap (λ (q : ℕ × ℕ). q.1) x.begins);
      end = is_end ∙ sym x.end;
    };
    pattern = rw is_pattern is_set;
    records = records;
  };
}

pub goes-within : (e : Search) (from p j : ℕ) → GoesTo e from p j → j ≤ e.end
goes-within e from p j x = omega (
  arith,
  (x.preferred.is_match.is_run.places (length x.run - 1) (omega (arith, x.preferred.is_match.some))).2,
  x.end,
)

-- the pass along records what it does
pub along-records : (e : Search) (p from j q k : ℕ) (x : IsStartOf e p j from) (slots : List (Option ℕ)) → IsRecorded (search_up_to e j) from q k slots
    → AreRecords e x.run slots
along-records e p from j q k x slots r =
    let same : r.goes.run ≡ x.run =
    one_preferred (search_up_to e j) (e.start_state, from) r.goes.run x.run r.goes.preferred (goes-to e p from j x).preferred in
    subst (λ (run : List (ℕ × ℕ)). AreRecords e run slots) same r.records
