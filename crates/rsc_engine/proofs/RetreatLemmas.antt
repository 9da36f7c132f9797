-- Marks for the states that lead back to those of a list, as they grow; and lists of the states of which something is so.
use Rattle.std.proofs.Common.{◌≡◌, ℕ, ◌+◌, ◌<◌, ◌≤◌, ◌⊎◌, inl, inr, ⊎_elim, Bool, true, false, true≢false, not, cond, count_by, List, [], ◌∷◌, ◌++◌, length, replicate, get_or, set, refl, sym, ap, subst, ◌∙◌, arith, slice_get, Option, Some, None, MatchOption}
use Rattle.std.proofs.lemmas.Bool.{cases_lt, cases_eq}
use Rattle.std.proofs.lemmas.List.{get_or-set_same, get_or-set_other, length-set, get_or_past, length-replicate, get_or-replicate, get_or_default}
use Rattle.std.proofs.lemmas.List.Sums.{sum_by-set}
use Rattle.std.proofs.lemmas.List.Elements.{All-nil, All-push, Contains-get_or, Contains-append_left, Contains-push, Contains-push_cases}
use Rattle.std.proofs.lemmas.Option.{slice_get_within}
use Rattle.std.specs.List.{Contains}
use Rattle.rsc_nfa.specs.declared.state.State.{State}
use Rattle.rsc_nfa.specs.Steps.{StepsTo}
use Rattle.rsc_engine.specs.Searches.{Search}
use Rattle.rsc_engine.specs.Runs.{IsPlace, accepts}
use Rattle.rsc_engine.specs.RowsLayout.{IsMarked, Machine, Gathers, AreStates}
use Rattle.rsc_engine.specs.ArrivalsLayout.{LeadsBack, seed, back}
use Rattle.rsc_engine.specs.BackwardLayout.{Lists, IsSeed, AreLedBack, IsShutAt, IsShut, IsClosedBack, LeadsToMarked, IsSource}

marked_same : (marks : List Bool) (s t : ℕ) → s < length marks → t ≡ s → IsMarked (set marks s true) t
marked_same marks s t l same = subst (λ (n : ℕ). get_or (set marks s true) n false ≡ true) (sym same) (get_or-set_same marks s true false l)

marked_more : (marks : List Bool) (s t : ℕ) → s < length marks → IsMarked marks t → IsMarked (set marks s true) t
marked_more marks s t l m = ⊎_elim
    (λ (same : t ≡ s). marked_same marks s t l same)
    (λ (apart : (t ≡ s) → ⊥). get_or-set_other marks s t true false apart ∙ m)
    (cases_eq t s)

-- ---- marks for the states of a list

-- the first k of the list are marked
pub record IsMarkedTo (n : ℕ) (list : List ℕ) (marks : List Bool) (k : ℕ) : Type 0 where
  pub len : length marks ≡ n
  pub only : (s : ℕ) → IsMarked marks s → Contains list s
  pub all : (j : ℕ) → j < k → IsMarked marks (get_or list j 0)

pub marked-first : (n : ℕ) (list : List ℕ) (marks : List Bool) → marks ≡ replicate n false → IsMarkedTo n list marks 0
marked-first n list marks is = record {
  len = ap length is ∙ length-replicate n false;
  only = λ s m. absurd (true≢false (sym m ∙ ap (λ (l : List Bool). get_or l s false) is ∙ all_false s));
  all = λ j l. absurd (omega (arith, l));
}
  where
    all_false : (x : ℕ) → get_or (replicate n false) x false ≡ false
    all_false x = ⊎_elim
        (λ (l : x < n). get_or-replicate n x false false l)
        (λ (le : n ≤ x). get_or_past (replicate n false) x false (omega (arith, le, length-replicate n false)))
        (cases_lt x n)

pub marked-next : (n : ℕ) (list : List ℕ) (marks : List Bool) (k s : ℕ) → IsMarkedTo n list marks k → k < length list → s ≡ get_or list k 0
    → AreStates n list → IsMarkedTo n list (set marks s true) (k + 1)
marked-next n list marks k s f l is states = record {
  len = length-set marks s true ∙ f.len;
  only = λ t m. ⊎_elim
      (λ (same : t ≡ s). subst (Contains list) (sym (same ∙ is)) (Contains-get_or list k 0 l))
      (λ (apart : (t ≡ s) → ⊥). f.only t (sym (get_or-set_other marks s t true false apart) ∙ m))
      (cases_eq t s);
  all = λ j below. ⊎_elim
      (λ (lt : j < k). marked_more marks s (get_or list j 0) there (f.all j lt))
      (λ (le : k ≤ j).
      let same : j ≡ k = omega (arith, le, below) in
      marked_same marks s (get_or list j 0) there (ap (λ (i : ℕ). get_or list i 0) same ∙ sym is))
      (cases_lt j k);
}
  where
    there : s < length marks
    there = omega (arith, f.len, is, states k 0 l)

pub marked-last : (n : ℕ) (list : List ℕ) (marks : List Bool) (k : ℕ) → IsMarkedTo n list marks k → length list ≤ k → AreStates n list
    → Gathers marks list
marked-last n list marks k f past states = record {
  marked = f.only;
  listed = λ s has. (
    omega (arith, f.len, has.2, states has.0 s has.1),
    subst (IsMarked marks) (get_or_default list has.0 0 s has.1 ∙ has.2) (f.all has.0 (omega (arith, past, has.1))),
  );
}

-- ---- a pass over the states

abbrev pub weight : Bool → ℕ
weight b = cond (not b) 1 0

pub fewer : (marks : List Bool) (s : ℕ) → s < length marks → get_or marks s false ≡ false → count_by not (set marks s true) + 1 ≡ count_by not marks
fewer marks s l fresh =
    let sums = sum_by-set weight marks s true false l in
    let one = ap weight fresh in
    omega (arith, sums, one)

-- the first k were looked at
pub record IsGrown (e : Search) (i n : ℕ) (before marks : List Bool) (grew : Bool) (k : ℕ) : Type 0 where
  pub len : length marks ≡ n
  pub led : (list : List ℕ) → AreLedBack e i list before → AreLedBack e i list marks
  pub kept : (s : ℕ) → IsMarked before s → IsMarked marks s
  pub shut : grew ≡ false → (s : ℕ) → s < k → IsShutAt e i marks s
  pub less : count_by not marks + cond grew 1 0 ≤ count_by not before

pub grown-first : (e : Search) (i n : ℕ) (marks : List Bool) → length marks ≡ n → IsGrown e i n marks marks false 0
grown-first e i n marks len = record {
  len = len;
  led = λ list l. l;
  kept = λ s m. m;
  shut = λ same s l. absurd (omega (arith, l));
  less = omega arith;
}

module _ (e : Search) (i n : ℕ) (before marks : List Bool) (grew : Bool) (k : ℕ) (f : IsGrown e i n before marks grew k) (l : k < n) where
  pub grown-marked : n ≡ length e.states → e.start ≤ i → i ≤ e.end → get_or marks k false ≡ false
      → (accepts e (k, i) ≡ true) ⊎ LeadsToMarked e i marks k → IsGrown e i n before (set marks k true) true (k + 1)
  grown-marked size low high fresh why = record {
    len = length-set marks k true ∙ f.len;
    led = λ list b s m. ⊎_elim
        (λ (same : s ≡ k). subst (λ (x : ℕ). LeadsBack e i (IsSeed e i list) x) (sym same) (led list b))
        (λ (apart : (s ≡ k) → ⊥). f.led list b s (sym (get_or-set_other marks k s true false apart) ∙ m))
        (cases_eq s k);
    kept = λ s m. marked_more marks k s (omega (arith, l, f.len)) (f.kept s m);
    shut = λ h. absurd (true≢false h);
    less = omega (arith, f.less, fewer marks k (omega (arith, l, f.len)) fresh);
  }
    where
      there : IsPlace e (k, i)
      there = (omega (arith, l, size), low, high)

      led : (list : List ℕ) → AreLedBack e i list before → LeadsBack e i (IsSeed e i list) k
      led list b = ⊎_elim
          (λ (accepted : accepts e (k, i) ≡ true). seed k (inr (there, accepted)))
          (λ (to : LeadsToMarked e i marks k). back k to.to there to.leads (f.led list b to.to to.marked))
          why

  pub grown-same : IsShutAt e i marks k → IsGrown e i n before marks grew (k + 1)
  grown-same miss = record {
    len = f.len;
    led = f.led;
    kept = f.kept;
    shut = λ h s below. ⊎_elim
        (λ (lt : s < k). f.shut h s lt)
        (λ (le : k ≤ s).
        let same : s ≡ k = omega (arith, le, below) in
        subst (λ (x : ℕ). IsShutAt e i marks x) (sym same) miss)
        (cases_lt s k);
    less = f.less;
  }

pub grown-shut : (e : Search) (i n : ℕ) (before marks : List Bool) (grew : Bool) (k : ℕ) → IsGrown e i n before marks grew k → length e.states ≤ k
    → grew ≡ false → IsShut e i marks
grown-shut e i n before marks grew k f past h s there = f.shut h s (omega (arith, there.0, past))

pub grown-less : (e : Search) (i n : ℕ) (before marks : List Bool) (grew : Bool) (k : ℕ) → IsGrown e i n before marks grew k → grew ≡ true
    → count_by not marks + 1 ≤ count_by not before
grown-less e i n before marks grew k f is = subst (λ (b : Bool). count_by not marks + cond b 1 0 ≤ count_by not before) is f.less

-- ---- passes until none marks anything

pub record IsClosing (e : Search) (i n : ℕ) (before marks : List Bool) : Type 0 where
  pub len : length marks ≡ n
  pub led : (list : List ℕ) → AreLedBack e i list before → AreLedBack e i list marks
  pub kept : (s : ℕ) → IsMarked before s → IsMarked marks s

pub closing-last : (e : Search) (i n : ℕ) (before marks : List Bool) (list : List ℕ) → IsClosing e i n before marks → IsShut e i marks
    → Gathers before list
    → IsClosedBack e i list marks
closing-last e i n before marks list f shut g = record {
  led = f.led list (λ s m. seed s (inl (g.marked s m)));
  kept = λ s has. f.kept s (g.listed s has).1;
  shut = shut;
}

-- ---- lists of the states of which it is so

-- of the first k
pub record IsListed (n : ℕ) (Hit : ℕ → Type 0) (list : List ℕ) (k : ℕ) : Type 0 where
  pub only : (s : ℕ) → Contains list s → Hit s
  pub all : (s : ℕ) → s < k → Hit s → Contains list s
  pub states : AreStates n list

pub listed-first : (n : ℕ) (Hit : ℕ → Type 0) (list : List ℕ) → list ≡ [] → IsListed n Hit list 0
listed-first n Hit list none = record {
  only = λ s has. absurd (omega (arith, has.1, ap length none));
  all = λ s l. absurd (omega (arith, l));
  states = subst (λ (l : List ℕ). AreStates n l) (sym none) (All-nil (λ s. s < n));
}

module _ (n : ℕ) (Hit : ℕ → Type 0) (list : List ℕ) (k s : ℕ) (f : IsListed n Hit list k) (same : s ≡ k) (l : k < n) where
  pub listed-hit : Hit s → IsListed n Hit (list ++ s ∷ []) (k + 1)
  listed-hit hit = record {
    only = λ t has. ⊎_elim (λ (h : Contains list t). f.only t h) (λ (h : s ≡ t). subst Hit h hit) (Contains-push_cases list s t has);
    all = λ t below h. ⊎_elim
        (λ (lt : t < k). Contains-append_left list (s ∷ []) t (f.all t lt h))
        (λ (le : k ≤ t). let here : s ≡ t = omega (arith, le, below, same) in subst (Contains (list ++ s ∷ [])) here (Contains-push list s))
        (cases_lt t k);
    states = All-push (λ x. x < n) list s f.states (omega (arith, same, l));
  }

  pub listed-miss : ¬ (Hit s) → IsListed n Hit list (k + 1)
  listed-miss miss = record {
    only = f.only;
    all = λ t below h. ⊎_elim
        (λ (lt : t < k). f.all t lt h)
        (λ (le : k ≤ t). let here : t ≡ s = omega (arith, le, below, same) in absurd (miss (subst Hit here h)))
        (cases_lt t k);
    states = f.states;
  }

pub listed-last : (n : ℕ) (Hit : ℕ → Type 0) (list : List ℕ) (k : ℕ) → IsListed n Hit list k → ((s : ℕ) → Hit s → s < n) → n ≤ k
    → Lists Hit list
listed-last n Hit list k f there past = record { only = f.only; all = λ s h. f.all s (omega (arith, there s h, past)) h }

-- nothing is so of any state
pub listed-none : (Hit : ℕ → Type 0) (list : List ℕ) → list ≡ [] → ((s : ℕ) → ¬ (Hit s)) → Lists Hit list
listed-none Hit list none miss = record { only = λ s has. absurd (omega (arith, has.1, ap length none)); all = λ s h. absurd (miss s h) }

-- a source is a state
pub source-there : (m : Machine) (h : List ℕ) (i : ℕ) (marks : List Bool) (s : ℕ) → IsSource m h i marks s → s < length m.states
source-there m h i marks s x = go (slice_get m.states s) refl x.moves
  where
    go : (o : Option State) → slice_get m.states s ≡ o
        → MatchOption o ⊥ (λ (state : State). StepsTo state m.terminator m.word_chars h (length h) i (x.to, i + 1)) → s < length m.states
    go None is y = absurd y
    go (Some state) is y = slice_get_within m.states s state is
