-- The loop of the backward pass, from position to position.
use Rattle.std.proofs.Common.{◌≡◌, ◌↔◌, ℕ, ◌+◌, ◌-◌, ◌<◌, ◌≤◌, inl, inr, ⊎_elim, Bool, true, false, true≢false, List, [], length, get_or, refl, sym, ap, subst, ◌∙◌, arith}
use Rattle.std.proofs.lemmas.Bool.{cases_lt}
use Rattle.std.specs.List.{Contains}
use Rattle.rsc_nfa.specs.Steps.{IsStep, place}
use Rattle.rsc_search.specs.declared.anchored.Anchored.{Anchored}
use Rattle.rsc_search.specs.declared.anchored.Anchored.TheVariants.{No}
use Rattle.rsc_engine.specs.Searches.{Search}
use Rattle.rsc_engine.specs.Runs.{Leads, IsPlace, accepts, IsMatchRun}
use Rattle.rsc_engine.specs.Preferred.{IsLeftmostFirst}
use Rattle.rsc_engine.specs.DecidesLayout.{last_of}
use Rattle.rsc_engine.specs.LawfulLayout.{Lawful}
use Rattle.rsc_engine.specs.OrderedLayout.{IsEndOf}
use Rattle.rsc_engine.specs.RowsLayout.{IsMarked, machine_of, Stays, Moves}
use Rattle.rsc_engine.specs.ForwardLayout.{beside, search_up_to}
use Rattle.rsc_engine.specs.ArrivalsLayout.{Arrives, ArrivesOver, ArrivesAtOnce, here, over, LeadsBack, seed, back}
use Rattle.rsc_engine.specs.BackwardLayout.{IsStartOf, Lists, IsSeed, IsClosedBack, IsSource, IsRetreated, IsBegun, AreBefore, least_with, IsLeastFrom}
use Rattle.rsc_engine.proofs.RunsLemmas.{step-within, match-wider}
use Rattle.rsc_engine.proofs.EndsLemmas.{match-down}
use Rattle.rsc_engine.proofs.ArrivalsLayoutLemmas.{back-arrives, arrives-back, arrives-within, first-arrives, none-earlier, none-crosses}

-- ---- a step at a position

led-map : (e : Search) (i : ℕ) (A B : ℕ → Type 0) (s : ℕ) → ((t : ℕ) → A t → B t) → LeadsBack e i A s → LeadsBack e i B s
led-map e i A B s f (seed _ a) = seed s (f s a)
led-map e i A B s f (back _ t there leads b) = back s t there leads (led-map e i A B t f b)

module _ (e : Search) (i : ℕ) (list : List ℕ) (marks : List Bool) (arrive : Lists (λ s. ArrivesOver e s i) list) (c : IsClosedBack e i list marks) where
  -- exactly what arrives is marked
  only : (s : ℕ) → IsMarked marks s → Arrives e s i
  only s m = back-arrives e i s (led-map e i (IsSeed e i list) (ArrivesAtOnce e i) s seeds (c.led s m))
    where
      seeds : (t : ℕ) → IsSeed e i list t → ArrivesAtOnce e i t
      seeds t x = ⊎_elim
          (λ (has : Contains list t). over (arrive.only t has))
          (λ (x : IsPlace e (t, i) × (accepts e (t, i) ≡ true)). here x.0 x.1)
          x

  marked : (s : ℕ) → LeadsBack e i (ArrivesAtOnce e i) s → IsMarked marks s
  marked s (seed _ (here there accepted)) = (c.shut s there).0 accepted
  marked s (seed _ (over a)) = c.kept s (arrive.all s a)
  marked s (back _ t there leads b) = (c.shut s there).1 t leads (marked t b)

  all : (s : ℕ) → Arrives e s i → IsMarked marks s
  all s a = marked s (arrives-back e s i a)

  begun : (begins : Bool) → begins ≡ get_or marks e.start_state false → IsBegun e i begins
  begun begins is = record {
    yes = λ b. only e.start_state (sym is ∙ b);
    no = λ b a. true≢false (sym (all e.start_state a) ∙ sym is ∙ b);
  }

  -- and what the byte before leads there arrives over it
  module _ (w : Lawful) (within : e.end ≤ length e.haystack) (next : List ℕ) (k : ℕ) (on : i ≡ k + 1) (low : e.start ≤ k) (high : i ≤ e.end)
      (f : Lists (λ s. (0 < i) × IsSource (machine_of e) e.haystack (i - 1) marks s) next) where
    same : i - 1 ≡ k
    same = omega (arith, on)

    leads : (s t : ℕ) → Moves (machine_of e) e.haystack (i - 1) s t → Leads e (s, k) (t, k + 1)
    leads s t x = w.advances e.states e.terminator e.word_chars e.haystack e.haystack (length e.haystack) e.end k k s t refl (λ _. omega (arith, on, high))
        (subst (λ (n : ℕ). Moves (machine_of e) e.haystack n s t) same x)

    moves : (s t : ℕ) → Leads e (s, k) (t, k + 1) → Moves (machine_of e) e.haystack (i - 1) s t
    moves s t x = subst (λ (n : ℕ). Moves (machine_of e) e.haystack n s t) (sym same)
        (w.advances e.states e.terminator e.word_chars e.haystack e.haystack e.end (length e.haystack) k k s t refl (λ l. omega (arith, l, within)) x)

    pub at_source : Lists (λ s. ArrivesOver e s k) next
    at_source = record { only = sound; all = complete }
      where
        sound : (s : ℕ) → Contains next s → ArrivesOver e s k
        sound s has =
            let x = (f.only s has).1 in
            let step = leads s x.to x.moves in
            record {
              to = x.to;
              there = (step-within e (s, k) (x.to, k + 1) step, low, omega (arith, on, high));
              leads = step;
              arrives = subst (λ (n : ℕ). Arrives e x.to n) on (only x.to x.marked);
            }

        complete : (s : ℕ) → ArrivesOver e s k → Contains next s
        complete s a = f.all s (
          omega (arith, on),
          record { to = a.to; moves = moves s a.to a.leads; marked = all a.to (subst (λ (n : ℕ). Arrives e a.to n) (sym on) a.arrives) },
        )

-- a position more was looked at
least-on : (e : Search) (i least : ℕ) (begins : Bool) → IsBegun e i begins → IsLeastFrom e (i + 1) least → IsLeastFrom e i (least_with begins i least)
least-on e i least true b l = record { none_less = λ m le a. le; found = inr (b.yes refl) }
least-on e i least false b l = record {
  none_less = λ m le a. ⊎_elim
      (λ (lt : i < m). l.none_less m (omega (arith, lt)) a)
      (λ (ge : m ≤ i).
      let at : m ≡ i = omega (arith, le, ge) in
      absurd (b.no refl (subst (λ (n : ℕ). Arrives e e.start_state n) at a)))
      (cases_lt i m);
  found = l.found;
}

module _ (e : Search) (i least : ℕ) (list : List ℕ) (begins : Bool) (next : List ℕ) (w : Lawful) (within : e.end ≤ length e.haystack)
    (low : e.start ≤ i)
    (high : i ≤ e.end) (was : AreBefore e (i + 1) list) (r : IsRetreated e i list begins next) where
  arrive : Lists (λ s. ArrivesOver e s i) list
  arrive = was i refl low

  pub begun-back : IsBegun e i begins
  begun-back = begun e i list r.marks arrive r.closed begins r.at_start

  pub before-back : AreBefore e i next
  before-back k on from = at_source e i list r.marks arrive r.closed w within next k on from high r.sources

  pub least-back : IsLeastFrom e (i + 1) least → IsLeastFrom e i (least_with begins i least)
  least-back l = least-on e i least begins begun-back l

-- ---- a step beside a small haystack

module _ (e : Search) (i : ℕ) (mode : Anchored) (near : List ℕ) (at : ℕ)
    (follows : (s u : ℕ) → IsStep e.states e.terminator e.word_chars e.haystack e.end (s, i) (u, i) ↔ Stays (machine_of e) near at s u)
    (low : e.start ≤ i) (high : i ≤ e.end) (least : at ≤ length near) where
  abbrev pub small : Search
  small = beside (machine_of e) mode near

  led-near : (list : List ℕ) (s : ℕ) → mode ≡ e.mode → LeadsBack small at (IsSeed small at list) s → LeadsBack e i (IsSeed e i list) s
  led-near list s same (seed _ (inl has)) = seed s (inl has)
  led-near list s same (seed _ (inr x)) = seed s (inr ((x.0.0, low, high), rw (sym same) x.1))
  led-near list s same (back _ t there leads b) = back s t (there.0, low, high) ((follows s t).1 leads) (led-near list t same b)

  pub retreated-near : (list : List ℕ) (begins : Bool) (next : List ℕ) → mode ≡ e.mode → (0 < i) ↔ (0 < at)
      → ((s t : ℕ) → 0 < i → Moves (machine_of e) e.haystack (i - 1) s t ↔ Moves (machine_of e) near (at - 1) s t)
      → IsRetreated small at list begins next → IsRetreated e i list begins next
  retreated-near list begins next same some moves r = record {
    marks = r.marks;
    closed = record {
      led = λ s m. led-near list s same (r.closed.led s m);
      kept = r.closed.kept;
      shut = λ s there.
          let shut = r.closed.shut s (there.0, omega arith, least) in
          (λ accepted. shut.0 (rw same accepted), λ t leads m. shut.1 t ((follows s t).0 leads) m);
    };
    at_start = r.at_start;
    sources = record {
      only = λ s has.
          let x = r.sources.only s has in
          let from : 0 < i = some.1 x.0 in
          (from, record { to = x.1.to; moves = (moves s x.1.to from).1 x.1.moves; marked = x.1.marked });
      all = λ s x. r.sources.all s
          (some.0 x.0, record { to = x.1.to; moves = (moves s x.1.to x.0).0 x.1.moves; marked = x.1.marked });
    };
  }

-- ---- the end, and the start

-- at the span's end no byte is gone over, and no match begins behind it
pub before-end : (e : Search) (list : List ℕ) → list ≡ [] → AreBefore e (e.end + 1) list
before-end e list none i same low = record {
  only = λ s has. absurd (omega (arith, has.1, ap length none));
  all = λ s a. absurd (omega (arith, same, (arrives-within e a.to (i + 1) a.arrives).2));
}

pub begun-end : (e : Search) (begins : Bool) → begins ≡ false → IsBegun e (e.end + 1) begins
begun-end e begins is = record {
  yes = λ yes. absurd (true≢false (sym yes ∙ is));
  no = λ no a. omega (arith, (arrives-within e e.start_state (e.end + 1) a).2);
}

pub least-end : (e : Search) → IsLeastFrom e (e.end + 1) e.end
least-end e = record {
  none_less = λ m above a. absurd (omega (arith, above, (arrives-within e e.start_state m a).2));
  found = inl refl;
}

last-place : (e : Search) (p j : ℕ) (x : IsEndOf e p j) → IsPlace e (place x.run (length x.run - 1))
last-place e p j x = x.is_first.preferred.is_match.is_run.places (length x.run - 1) (omega (arith, x.is_first.preferred.is_match.some))

pub end-low : (e : Search) (p j : ℕ) → IsEndOf e p j → e.start ≤ j
end-low e p j x = omega (arith, (last-place e p j x).1, x.end)

pub end-high : (e : Search) (p j : ℕ) → IsEndOf e p j → j ≤ e.end
end-high e p j x = omega (arith, (last-place e p j x).2, x.end)

-- if a match may begin nowhere else, the span's start is the match's
pub start-anchored : (e : Search) (p j : ℕ) → IsEndOf e p j → ¬ (e.mode ≡ No) → IsStartOf e p j e.start
start-anchored e p j x anchored = record {
  run = x.run;
  is_first = x.is_first;
  begins = x.is_first.preferred.is_match.begins ∙ ap (λ (n : ℕ). (e.start_state, n)) (x.is_first.begins.anchored anchored);
  pattern = x.pattern;
  end = x.end;
}

-- a leftmost-first match that ends where the span does
module _ (e : Search) (run : List (ℕ × ℕ)) (f : IsLeftmostFirst e run) (ends : (last_of run).1 ≡ e.end) where
  begins : Arrives e e.start_state (place run 0).1
  begins = first-arrives e run f

  -- the least position from b on at which a match begins is its start, if it doesn't begin before b
  start-of : (b least : ℕ) → IsLeastFrom e b least → b ≤ (place run 0).1 → (place run 0).1 ≡ least
  start-of b least l looked = omega (arith, below, l.none_less (place run 0).1 looked begins)
    where
      below : (place run 0).1 ≤ least
      below = ⊎_elim
          (λ (h : least ≡ e.end). omega (arith, h, f.begins.end))
          (λ (a : Arrives e e.start_state least). none-earlier e least run f (arrives-within e e.start_state least a).1 a)
          l.found

  -- at the span's start
  pub start-at-first : (b least : ℕ) → b ≡ e.start → IsLeastFrom e b least → (place run 0).1 ≡ least
  start-at-first b least at l = start-of b least l (omega (arith, at, f.begins.start))

  -- where no state arrives over the byte, the match begins later
  begins-later : (b : ℕ) (list : List ℕ) → b ≤ e.end → list ≡ [] → AreBefore e b list → b ≤ (place run 0).1
  begins-later b list below none before = ⊎_elim
      (λ (l : (place run 0).1 < b).
      let past : b ≡ (b - 1) + 1 = omega (arith, l) in
      let lists = before (b - 1) past (omega (arith, l, f.begins.start)) in
      let last = none-crosses e (b - 1) (e.start_state, (place run 0).1) run
      (λ t a. let has = lists.all t a in omega (arith, has.1, ap length none)) f.preferred.is_match (omega (arith, l)) in
      absurd (omega (arith, last, ends, below, l)))
      (λ (le : b ≤ (place run 0).1). le)
      (cases_lt (place run 0).1 b)

  pub start-at-none : (b least : ℕ) (list : List ℕ) → b ≤ e.end → list ≡ [] → AreBefore e b list → IsLeastFrom e b least
      → ((place run 0).1 ≡ least) × (b ≤ least)
  start-at-none b least list below none before l =
      let later = begins-later b list below none before in
      let at = start-of b least l later in
      (at, omega (arith, later, at))

-- ---- the part of a span up to a match's end

-- it is the leftmost-first match there too
pub first-down : (e : Search) (t : ℕ) (run : List (ℕ × ℕ)) → (last_of run).1 ≤ t → t ≤ e.end → IsLeftmostFirst e run
    → IsLeftmostFirst (search_up_to e t) run
first-down e t run high within f = record {
  begins = record {
    start = f.begins.start;
    end = (down.is_run.places 0 down.some).2;
    anchored = f.begins.anchored;
  };
  preferred = record {
    is_match = down;
    once = f.preferred.once;
    first = λ other m once b. f.preferred.first other (wider (e.start_state, (place run 0).1) other m) once (record {
      at = b.at;
      a = b.a;
      b = b.b;
      within = b.within;
      other_within = b.other_within;
      together = b.together;
      fork = b.fork;
      first = b.first;
      apart = b.apart;
    });
  };
  leftmost = λ at low l other m. f.leftmost at low l other (wider (e.start_state, at) other m);
}
  where
    wider : (from : ℕ × ℕ) (other : List (ℕ × ℕ)) → IsMatchRun (search_up_to e t) from other → IsMatchRun e from other
    wider from other m = match-wider e e.start t from other (omega arith) within m

    down : IsMatchRun (search_up_to e t) (e.start_state, (place run 0).1) run
    down = match-down e t (e.start_state, (place run 0).1) run high f.preferred.is_match
