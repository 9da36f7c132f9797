-- A scan of a list, as its stack goes down.
use Rattle.std.proofs.Common.{◌≡◌, ℕ, ◌+◌, ◌-◌, ◌<◌, ◌≤◌, ◌⊎◌, inl, inr, ⊎_elim, Bool, true, false, cond, not, count_by, replicate, length-append, true≢false, List, [], ◌∷◌, ◌++◌, length, reverse, get_or, set, refl, sym, ap, subst, ◌∙◌, arith, Option, Some, None}
use Rattle.std.proofs.lemmas.Bool.{cases_eq, cases_lt}
use Rattle.std.proofs.lemmas.List.Sums.{sum_by-set}
use Rattle.std.proofs.lemmas.List.{get_or-set_same, get_or-set_other, length-set, reverse-append, reverse-reverse, length-reverse, get_or-reverse, length-replicate, get_or-replicate, get_or_past, get_or_default, get_or_append_left, get_or-append_right}
use Rattle.std.specs.List.{Contains}
use Rattle.std.proofs.lemmas.List.Elements.{Contains-get_or, Contains-append_left, Contains-push, Contains-push_cases}
use Rattle.rsc_engine.specs.RowsLayout.{Gathers, AreStates, AddsOne}
use Rattle.rsc_engine.specs.Searches.{Search}
use Rattle.rsc_engine.specs.Runs.{IsPlace}
use Rattle.rsc_engine.specs.DecidesLayout.{IsMore}
use Rattle.rsc_engine.specs.PassesLayout.{Scans, done, again, fork, single, stuck, over, matched}
use Rattle.rsc_engine.specs.OrderedLayout.{IsActionOf, IsScanned, seen_by}
use Rattle.rsc_engine.specs.declared.dfa.ordered.Action.TheVariants.{Stuck, One, OverByte, Two, Match}
use Rattle.rsc_engine.proofs.ForwardStepsLemmas.{same_place}

more-marked : (marks : List Bool) (s : ℕ) → s < length marks → IsMore (seen_by marks) s (seen_by (set marks s true))
more-marked marks s l = record {
  new = get_or-set_same marks s true false l;
  kept = λ t is. ⊎_elim
      (λ (same : t ≡ s). subst (λ (n : ℕ). get_or (set marks s true) n false ≡ true) (sym same) (get_or-set_same marks s true false l))
      (λ (apart : (t ≡ s) → ⊥). get_or-set_other marks s t true false apart ∙ is)
      (cases_eq t s);
  only = λ t is. ⊎_elim
      (λ (same : t ≡ s). inl same)
      (λ (apart : (t ≡ s) → ⊥). inr (sym (get_or-set_other marks s t true false apart) ∙ is))
      (cases_eq t s);
}

-- ---- marks

pub Gathers-more : (seen : List Bool) (list : List ℕ) (s : ℕ) → Gathers seen list → s < length seen → Gathers (set seen s true) (list ++ s ∷ [])
Gathers-more seen list s g l = record {
  marked = λ x is. ⊎_elim
      (λ (same : x ≡ s). subst (λ (y : ℕ). Contains (list ++ s ∷ []) y) (sym same) (Contains-push list s))
      (λ (apart : (x ≡ s) → ⊥). Contains-append_left list (s ∷ []) x (g.marked x (sym (get_or-set_other seen s x true false apart) ∙ is)))
      (cases_eq x s);
  listed = λ x has. (omega (arith, length-set seen s true, within x (Contains-push_cases list s x has)), is x (Contains-push_cases list s x has));
}
  where
    within : (x : ℕ) → Contains list x ⊎ (s ≡ x) → x < length seen
    within x (inl h) = (g.listed x h).0
    within x (inr h) = subst (λ (y : ℕ). y < length seen) h l

    at_same : (x : ℕ) → x ≡ s → get_or (set seen s true) x false ≡ true
    at_same x same = subst (λ (y : ℕ). get_or (set seen s true) y false ≡ true) (sym same) (get_or-set_same seen s true false l)

    is : (x : ℕ) → Contains list x ⊎ (s ≡ x) → get_or (set seen s true) x false ≡ true
    is x (inr h) = at_same x (sym h)
    is x (inl h) = ⊎_elim
        (λ (same : x ≡ s). at_same x same)
        (λ (apart : (x ≡ s) → ⊥). get_or-set_other seen s x true false apart ∙ (g.listed x h).1)
        (cases_eq x s)

reverse-last : (stack : List ℕ) (s : ℕ) → reverse (stack ++ s ∷ []) ≡ s ∷ reverse stack
reverse-last stack s = reverse-append stack (s ∷ [])

-- what was looked at so far leads to where a scan of what is on the stack leads
pub record IsTraced (e : Search) (i : ℕ) (list : List ℕ) (marks : List Bool) (stack next : List ℕ) : Type 0 where
  pub seen : ℕ → Bool
  pub none_seen : (s : ℕ) → seen s ≡ false
  pub trace : (out : List ℕ) (found : Option (ℕ × ℕ)) → Scans e i (seen_by marks) (reverse stack) next out found → Scans e i seen list [] out found

module _ (e : Search) (i : ℕ) (list : List ℕ) (marks : List Bool) (stack next : List ℕ) (s : ℕ) (l : s < length marks)
    (t : IsTraced e i list marks (stack ++ s ∷ []) next) where
  -- the trace with a state on top
  on : (marks2 : List Bool) (stack2 next2 : List ℕ)
      → ((out : List ℕ) (found : Option (ℕ × ℕ)) → Scans e i (seen_by marks2) (reverse stack2) next2 out found
      → Scans e i (seen_by marks) (s ∷ reverse stack) next out found)
      → IsTraced e i list marks2 stack2 next2
  on marks2 stack2 next2 f = record {
    seen = t.seen;
    none_seen = t.none_seen;
    trace = λ out found looks. t.trace out found
        (subst (λ (x : List ℕ). Scans e i (seen_by marks) x next out found) (sym (reverse-last stack s)) (f out found looks));
  }

  pub traced-again : get_or marks s false ≡ true → IsTraced e i list marks stack next
  traced-again is = on marks stack next (λ out found looks. again (seen_by marks) s (reverse stack) next out found is looks)

  module _ (fresh : get_or marks s false ≡ false) (there : IsPlace e (s, i)) where
    pub traced-stuck : IsActionOf e i s Stuck → IsTraced e i list (set marks s true) stack next
    traced-stuck way = on (set marks s true) stack next (λ out found looks.
        stuck (seen_by marks) (seen_by (set marks s true)) s (reverse stack) next out found (more-marked marks s l) way.0 way.1 looks)

    pub traced-one : (to : ℕ) → IsActionOf e i s (One to) → IsTraced e i list (set marks s true) (stack ++ to ∷ []) next
    traced-one to way = on (set marks s true) (stack ++ to ∷ []) next (λ out found looks.
        single (seen_by marks) (seen_by (set marks s true)) s to (reverse stack) next out found (more-marked marks s l) fresh there way.0 way.1 way.2
        (λ q leads. let w = way.3 q leads in same_place q (to, i) w.0 w.1)
        (subst (λ (x : List ℕ). Scans e i (seen_by (set marks s true)) x next out found) (reverse-last stack to) looks))

    pub traced-over : (to : ℕ) (new : List ℕ) → IsActionOf e i s (OverByte to) → AddsOne next to new → IsTraced e i list (set marks s true) stack new
    traced-over to new way adds = on (set marks s true) stack new (λ out found looks.
        over (seen_by marks) (seen_by (set marks s true)) s to (reverse stack) next new out found (more-marked marks s l) fresh there way.0 way.1 way.2
        (λ q leads. let w = way.3 q leads in same_place q (to, i + 1) w.0 w.1) adds looks)

    pub traced-two : (a b : ℕ) → IsActionOf e i s (Two a b) → IsTraced e i list (set marks s true) ((stack ++ b ∷ []) ++ a ∷ []) next
    traced-two a b way = on (set marks s true) ((stack ++ b ∷ []) ++ a ∷ []) next (λ out found looks.
        fork (seen_by marks) (seen_by (set marks s true)) s a b (reverse stack) next out found (more-marked marks s l) fresh there way
        (subst (λ (x : List ℕ). Scans e i (seen_by (set marks s true)) x next out found)
        (reverse-last (stack ++ b ∷ []) a ∙ ap (λ (x : List ℕ). a ∷ x) (reverse-last stack b)) looks))

    pub traced-match : (p : ℕ) → IsActionOf e i s (Match p) → IsScanned e i list (Some p) next
    traced-match p way = record {
      seen = t.seen;
      none_seen = t.none_seen;
      found = Some (s, i);
      scans = t.trace next (Some (s, i))
          (subst (λ (x : List ℕ). Scans e i (seen_by marks) x next next (Some (s, i))) (sym (reverse-last stack s))
          (matched (seen_by marks) s (reverse stack) next fresh there way.0));
      of_pattern = (way.1, refl);
    }

pub traced-first : (e : Search) (i : ℕ) (list : List ℕ) (marks : List Bool) (stack : List ℕ) → reverse stack ≡ list
    → ((s : ℕ) → get_or marks s false ≡ false)
    → IsTraced e i list marks stack []
traced-first e i list marks stack same none = record {
  seen = seen_by marks;
  none_seen = none;
  trace = λ out found looks. subst (λ (x : List ℕ). Scans e i (seen_by marks) x [] out found) same looks;
}

pub traced-last : (e : Search) (i : ℕ) (list : List ℕ) (marks : List Bool) (stack next : List ℕ) → length stack ≡ 0
    → IsTraced e i list marks stack next
    → IsScanned e i list None next
traced-last e i list marks [] next none t = record {
  seen = t.seen;
  none_seen = t.none_seen;
  found = None;
  scans = t.trace next None (done (seen_by marks) next);
  of_pattern = tt;
}
traced-last e i list marks (s ∷ stack) next none t = absurd (omega (arith, none))

-- ---- the loop

states-last : (n : ℕ) (stack : List ℕ) (s : ℕ) → AreStates n (stack ++ s ∷ []) → s < n
states-last n stack s states =
    let none : length stack - length stack ≡ 0 = omega arith in
    let here : get_or (stack ++ s ∷ []) (length stack) 0 ≡ s =
    get_or-append_right stack (s ∷ []) (length stack) (length stack) 0 refl (omega arith) ∙ ap (λ (k : ℕ). get_or (s ∷ []) k 0) none in
    subst (λ (m : ℕ). m < n) here (states (length stack) 0 (omega (arith, length-append stack (s ∷ []))))

states-init : (n : ℕ) (stack : List ℕ) (s : ℕ) → AreStates n (stack ++ s ∷ []) → AreStates n stack
states-init n stack s states = λ k d l.
    subst (λ (m : ℕ). m < n) (get_or_append_left stack (s ∷ []) d k l) (states k d (omega (arith, l, length-append stack (s ∷ []))))

pub states-push : (n : ℕ) (stack : List ℕ) (s : ℕ) → AreStates n stack → s < n → AreStates n (stack ++ s ∷ [])
states-push n stack s states there = λ k d l. ⊎_elim
    (λ (h : k < length stack). subst (λ (m : ℕ). m < n) (sym (get_or_append_left stack (s ∷ []) d k h)) (states k d h))
    (λ (h : length stack ≤ k).
    let none : k - length stack ≡ 0 = omega (arith, h, l, length-append stack (s ∷ [])) in
    subst (λ (m : ℕ). m < n)
    (sym (get_or-append_right stack (s ∷ []) (length stack) k d refl h ∙ ap (λ (j : ℕ). get_or (s ∷ []) j d) none)) there)
    (cases_lt k (length stack))

abbrev pub weight : Bool → ℕ
weight b = cond (not b) 1 0

-- what the loop keeps: marks for the states that were seen and for those of the next list, states on the stack, and the trace
pub record IsStack (e : Search) (i : ℕ) (list : List ℕ) (n : ℕ) (marks taken : List Bool) (stack next : List ℕ) : Type 0 where
  pub len : length marks ≡ n
  pub taken_len : length taken ≡ n
  pub gathers : Gathers taken next
  pub states : AreStates n stack
  pub traced : IsTraced e i list marks stack next

pub stack-first : (e : Search) (i : ℕ) (list : List ℕ) (n : ℕ) (marks taken : List Bool) (stack next : List ℕ) → marks ≡ replicate n false
    → taken ≡ replicate n false → stack ≡ reverse list → next ≡ [] → AreStates n list → IsStack e i list n marks taken stack next
stack-first e i list n marks taken stack next m t s none states = record {
  len = ap length m ∙ length-replicate n false;
  taken_len = ap length t ∙ length-replicate n false;
  gathers = record {
    marked = λ x is. absurd (true≢false (sym is ∙ ap (λ (l : List Bool). get_or l x false) t ∙ all_false x));
    listed = λ x has. absurd (omega (arith, has.1, ap length none));
  };
  states = λ k d l.
      let short : k < length list = omega (arith, l, ap length s, length-reverse list) in
      subst (λ (m : ℕ). m < n) (sym (ap (λ (l : List ℕ). get_or l k d) s ∙ get_or-reverse list k d short))
      (states (length list - 1 - k) d (omega (arith, short)));
  traced = subst (λ (l : List ℕ). IsTraced e i list marks stack l) (sym none)
      (traced-first e i list marks stack (ap reverse s ∙ reverse-reverse list) (λ x. ap (λ (l : List Bool). get_or l x false) m ∙ all_false x));
}
  where
    all_false : (x : ℕ) → get_or (replicate n false) x false ≡ false
    all_false x = ⊎_elim
        (λ (l : x < n). get_or-replicate n x false false l)
        (λ (le : n ≤ x). get_or_past (replicate n false) x false (omega (arith, le, length-replicate n false)))
        (cases_lt x n)

module _ (e : Search) (i : ℕ) (list : List ℕ) (n : ℕ) (marks taken : List Bool) (before stack next : List ℕ) (s : ℕ)
    (f : IsStack e i list n marks taken before next) (popped : before ≡ stack ++ s ∷ []) where
  all : AreStates n (stack ++ s ∷ [])
  all = subst (λ (l : List ℕ). AreStates n l) popped f.states

  pub popped-there : s < n
  popped-there = states-last n stack s all

  marked : s < length marks
  marked = omega (arith, popped-there, f.len)

  trace : IsTraced e i list marks (stack ++ s ∷ []) next
  trace = subst (λ (l : List ℕ). IsTraced e i list marks l next) popped f.traced

  pub stack-again : get_or marks s false ≡ true → IsStack e i list n marks taken stack next
  stack-again is = record {
    len = f.len;
    taken_len = f.taken_len;
    gathers = f.gathers;
    states = states-init n stack s all;
    traced = traced-again e i list marks stack next s marked trace is;
  }

  -- what was read of the marks
  pub read : (j : ℕ) (b x : Bool) → j ≡ s → b ≡ get_or marks j b → b ≡ x → get_or marks s false ≡ x
  read j b x same got is = get_or_default marks s false b marked ∙ ap (λ (k : ℕ). get_or marks k b) (sym same) ∙ sym got ∙ is

  pub fewer : get_or marks s false ≡ false → count_by not (set marks s true) + 1 ≡ count_by not marks
  fewer fresh =
      let sums = sum_by-set weight marks s true false marked in
      let one : weight (get_or marks s false) ≡ 1 = ap weight fresh in
      omega (arith, sums, one)

  module _ (size : n ≡ length e.states) (low : e.start ≤ i) (high : i ≤ e.end) (fresh : get_or marks s false ≡ false) where
    there : IsPlace e (s, i)
    there = (omega (arith, popped-there, size), low, high)

    len_after : length (set marks s true) ≡ n
    len_after = length-set marks s true ∙ f.len

    pub stack-stuck : IsActionOf e i s Stuck → IsStack e i list n (set marks s true) taken stack next
    stack-stuck way = record {
      len = len_after;
      taken_len = f.taken_len;
      gathers = f.gathers;
      states = states-init n stack s all;
      traced = traced-stuck e i list marks stack next s marked trace fresh there way;
    }

    pub stack-one : (to : ℕ) → IsActionOf e i s (One to) → to < n → IsStack e i list n (set marks s true) taken (stack ++ to ∷ []) next
    stack-one to way l = record {
      len = len_after;
      taken_len = f.taken_len;
      gathers = f.gathers;
      states = states-push n stack to (states-init n stack s all) l;
      traced = traced-one e i list marks stack next s marked trace fresh there to way;
    }

    pub stack-two : (a b : ℕ) → IsActionOf e i s (Two a b) → (a < n) × (b < n)
        → IsStack e i list n (set marks s true) taken ((stack ++ b ∷ []) ++ a ∷ []) next
    stack-two a b way l = record {
      len = len_after;
      taken_len = f.taken_len;
      gathers = f.gathers;
      states = states-push n (stack ++ b ∷ []) a (states-push n stack b (states-init n stack s all) l.1) l.0;
      traced = traced-two e i list marks stack next s marked trace fresh there a b way;
    }

    pub stack-over : (to : ℕ) (taken2 : List Bool) (new : List ℕ) → IsActionOf e i s (OverByte to) → length taken2 ≡ length taken
        → Gathers taken2 new
        → AddsOne next to new → IsStack e i list n (set marks s true) taken2 stack new
    stack-over to taken2 new way same g adds = record {
      len = len_after;
      taken_len = same ∙ f.taken_len;
      gathers = g;
      states = states-init n stack s all;
      traced = traced-over e i list marks stack next s marked trace fresh there to new way adds;
    }

    pub stack-match : (p : ℕ) → IsActionOf e i s (Match p) → IsScanned e i list (Some p) next
    stack-match p way = traced-match e i list marks stack next s marked trace fresh there p way

pub stack-last : (e : Search) (i : ℕ) (list : List ℕ) (n : ℕ) (marks taken : List Bool) (stack next : List ℕ)
    → IsStack e i list n marks taken stack next
    → length stack ≡ 0 → IsScanned e i list None next
stack-last e i list n marks taken stack next f none = traced-last e i list marks stack next none f.traced

pub stack-states : (e : Search) (i : ℕ) (list : List ℕ) (n : ℕ) (marks taken : List Bool) (stack next : List ℕ)
    → IsStack e i list n marks taken stack next
    → AreStates n next
stack-states e i list n marks taken stack next f = λ k d l.
    subst (λ (m : ℕ). get_or next k d < m) f.taken_len (f.gathers.listed (get_or next k d) (Contains-get_or next k d l)).0
