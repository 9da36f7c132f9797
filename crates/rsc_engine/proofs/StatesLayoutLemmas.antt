-- What the states of parts name that are made of parts, and which assertions they have.
use Rattle.std.proofs.Common.{◌≡◌, ℕ, zero, suc, ◌+◌, ◌*◌, ◌<◌, ◌≤◌, ◌⊎◌, ◌||◌, ◌&&◌, nat_lt, inl, inr, ⊎_elim, Bool, true, false, cond, List, [], ◌∷◌, length, slice_get, refl, sym, ap, ◌∙◌, subst, arith, Option, Some, None, true≢false}
use Rattle.std.specs.List.{list_any}
use Rattle.std.proofs.lemmas.Bool.{cases_lt}
use Rattle.std.proofs.lemmas.Bool.Decides.{nat_tests}
use Rattle.std.proofs.lemmas.Option.{slice_get_within}
use Rattle.rsc_captures.specs.Groups.{GroupLists, all_group_count}
use Rattle.rsc_nfa.specs.declared.state.State.{State}
use Rattle.rsc_nfa.specs.declared.state.State.TheVariants.{ByteRange, Assert, Fork, Capture, Accept}
use Rattle.rsc_look.specs.declared.assertion.Look.{Look}
use Rattle.rsc_nfa.specs.Classes.{asserts}
use Rattle.rsc_nfa.specs.declared.error.BuildError.{BuildError}
use Rattle.rsc_nfa.specs.declared.error.BuildError.TheVariants.{OutOfMemory}
use Rattle.rsc_nfa.specs.StateFaults.{target_fault, fault_of_state, fault_in, AreFaultless, IsFirstFaultOfStates}
use Rattle.rsc_engine.specs.Patterns.{Pattern, Empty, Never, Class, Literal, Assertion, Then, Either, Repeat}
use Rattle.rsc_engine.specs.Asks.{may_occur, asks}
use Rattle.rsc_engine.specs.EnclosesLayout.{IsOnWay, StaysOnWay, Encloses}
use Rattle.rsc_engine.specs.LinksLayout.{IsChoice, copies, optional, up_to}
use Rattle.rsc_engine.proofs.PatternsLemmas.{limit_less, no_less}
use Rattle.rsc_engine.specs.StatesLayout.{EachOf, Fits, asked_by, some_ask, Asserts, FitsAndAsks, LeadsBelow, AreSound}

-- ---- one list of states after the other

each-joined : (P : State → Type 0) (low middle high : ℕ) (states : List State) → EachOf P low middle states → EachOf P middle high states
    → EachOf P low high states
each-joined P low middle high states x y = λ k state l h is. ⊎_elim
    (λ (b : k < middle). x k state l b is)
    (λ (b : middle ≤ k). y k state b h is)
    (cases_lt k middle)

each-one : (P : State → Type 0) (low high : ℕ) (states : List State) (state : State) → high ≡ low + 1 → slice_get states low ≡ Some state
    → P state
    → EachOf P low high states
each-one P low high states state one is x = λ k other l h at.
    let same : k ≡ low = omega (arith, l, h, one) in
    let here : slice_get states low ≡ Some other = subst (λ (n : ℕ). slice_get states n ≡ Some other) same at in
    subst P (same_state other (sym is ∙ here)) x
  where
    same_state : (other : State) → Some state ≡ Some other → state ≡ other
    same_state other e = cc

each-is : (P Q : State → Type 0) (low high : ℕ) (states : List State) → ((state : State) → P state → Q state) → EachOf P low high states
    → EachOf Q low high states
each-is P Q low high states f x = λ k state l h is. f state (x k state l h is)

wider : (f : Look) (low high least most : ℕ) (states : List State) → least ≤ low → high ≤ most → Asserts f low high states
    → Asserts f least most states
wider f low high least most states l h r = record {
  state = r.state;
  its = r.its;
  from = omega (arith, l, r.from);
  to = omega (arith, h, r.to);
  here = r.here;
  shows = r.shows;
}

-- no assertion
abbrev pub nothing : Look → Bool
nothing f = false

-- an assertion is there exactly if one of two has it
pub record IsEither (s r q : Look → Bool) : Type 0 where
  pub neither : (f : Look) → s f ≡ false → (r f ≡ false) × (q f ≡ false)
  pub one : (f : Look) → s f ≡ true → (r f ≡ true) ⊎ (q f ≡ true)

neither_of : (r q : Bool) → (r || q) ≡ false → (r ≡ false) × (q ≡ false)
neither_of true q e = absurd (true≢false e)
neither_of false q e = (refl, e)

one_of_both : (r q : Bool) → (r || q) ≡ true → (r ≡ true) ⊎ (q ≡ true)
one_of_both true q e = inl refl
one_of_both false q e = inr e

pub either : (r q : Look → Bool) → IsEither (λ f. r f || q f) r q
either r q = record { neither = λ f e. neither_of (r f) (q f) e; one = λ f e. one_of_both (r f) (q f) e }

pub either_back : (r q : Look → Bool) → IsEither (λ f. q f || r f) r q
either_back r q = record {
  neither = λ f n. let e = neither_of (q f) (r f) n in (e.1, e.0);
  one = λ f o. ⊎_elim (λ (x : q f ≡ true). inr x) (λ (x : r f ≡ true). inl x) (one_of_both (q f) (r f) o);
}

pub FitsAndAsks-alike : (most : ℕ) (r s : Look → Bool) (low high : ℕ) (states : List State) → ((f : Look) → r f ≡ s f)
    → FitsAndAsks most r low high states
    → FitsAndAsks most s low high states
FitsAndAsks-alike most r s low high states same x =
    record { fits = x.fits; lacks = λ f e. x.lacks f (same f ∙ e); shows = λ f e. x.shows f (same f ∙ e) }

pub FitsAndAsks-joined : (most : ℕ) (s r q : Look → Bool) (low middle high : ℕ) (states : List State) → IsEither s r q → low ≤ middle
    → middle ≤ high
    → FitsAndAsks most r low middle states → FitsAndAsks most q middle high states → FitsAndAsks most s low high states
FitsAndAsks-joined most s r q low middle high states e l m x y = record {
  fits = each-joined (Fits most) low middle high states x.fits y.fits;
  lacks = λ f n. each-joined (λ (s : State). asserts f s ≡ false) low middle high states (x.lacks f (e.neither f n).0) (y.lacks f (e.neither f n).1);
  shows = λ f o. ⊎_elim
      (λ (z : r f ≡ true). wider f low middle low high states (omega arith) m (x.shows f z))
      (λ (z : q f ≡ true). wider f middle high low high states l (omega arith) (y.shows f z))
      (e.one f o);
}

pub FitsAndAsks-one : (most : ℕ) (r : Look → Bool) (low high id : ℕ) (states : List State) (state : State) → id ≡ low → high ≡ low + 1
    → slice_get states id ≡ Some state → Fits most state → ((f : Look) → asserts f state ≡ r f) → FitsAndAsks most r low high states
FitsAndAsks-one most r low high id states state same one is fits has =
    let here : slice_get states low ≡ Some state = subst (λ (n : ℕ). slice_get states n ≡ Some state) same is in
    record {
      fits = each-one (Fits most) low high states state one here fits;
      lacks = λ f e. each-one (λ (s : State). asserts f s ≡ false) low high states state one here (has f ∙ e);
      shows = λ f e. record { state = low; its = state; from = omega arith; to = omega (arith, one); here = here; shows = has f ∙ e };
    }

-- a fork
pub FitsAndAsks-fork : (most low high id a b : ℕ) (states : List State) → id ≡ low → high ≡ low + 1 → slice_get states id ≡ Some (Fork a b)
    → FitsAndAsks most nothing low high states
FitsAndAsks-fork most low high id a b states same one is =
    FitsAndAsks-one most nothing low high id states (Fork a b) same one is tt (λ f. refl)

pub or_none : (r : Bool) → (r || false) ≡ r
or_none true = refl
or_none false = refl

-- a fork above others
pub FitsAndAsks-above : (most : ℕ) (r : Look → Bool) (low last high id a b : ℕ) (states : List State) → low ≤ last → id ≡ last
    → high ≡ last + 1
    → slice_get states id ≡ Some (Fork a b) → FitsAndAsks most r low last states → FitsAndAsks most r low high states
FitsAndAsks-above most r low last high id a b states l same one is x =
    FitsAndAsks-alike most (λ f. r f || nothing f) r low high states (λ f. or_none (r f))
    (FitsAndAsks-joined most (λ f. r f || nothing f) r nothing low last high states (either r nothing) l (omega (arith, one)) x
    (FitsAndAsks-fork most last high id a b states same one is))

-- a choice above others
pub FitsAndAsks-choice : (most : ℕ) (r : Look → Bool) (low last high id one other : ℕ) (states : List State) → low ≤ last → id ≡ last
    → high ≡ last + 1
    → IsChoice states id one other → FitsAndAsks most r low last states → FitsAndAsks most r low high states
FitsAndAsks-choice most r low last high id one other states l same more (inl is) x = FitsAndAsks-above most r low last high id one other states l same more is x
FitsAndAsks-choice most r low last high id one other states l same more (inr is) x = FitsAndAsks-above most r low last high id other one states l same more is x

-- a loop: its choice, and its part
pub FitsAndAsks-loop : (most : ℕ) (r : Look → Bool) (low middle last high id one other : ℕ) (states : List State) → id ≡ low → middle ≡ low + 1
    → middle ≤ last
    → high ≡ last → IsChoice states id one other → FitsAndAsks most r middle last states → FitsAndAsks most r low high states
FitsAndAsks-loop most r low middle last high id one other states same more l end c x =
    FitsAndAsks-joined most r nothing r low middle high states (either nothing r) (omega (arith, more)) (omega (arith, l, end)) (choice c)
    (subst (λ (n : ℕ). FitsAndAsks most r middle n states) (sym end) x)
  where
    choice : IsChoice states id one other → FitsAndAsks most nothing low middle states
    choice (inl is) = FitsAndAsks-fork most low middle id one other states same more is
    choice (inr is) = FitsAndAsks-fork most low middle id other one states same more is

pub FitsAndAsks-none : (most low high : ℕ) (states : List State) → high ≤ low → FitsAndAsks most nothing low high states
FitsAndAsks-none most low high states l = record {
  fits = λ k state m h is. absurd (omega (arith, l, m, h));
  lacks = λ f e k state m h is. absurd (omega (arith, l, m, h));
  shows = λ f e. absurd (true≢false (sym e));
}

-- ---- which patterns have an assertion

pub between-same : (p : Pattern) (f : Look) → asks f (Then Empty (Then p Empty)) ≡ asks f p
between-same p f = or_none (asks f p)

pub optional-same : (greedy : Bool) (p : Pattern) (f : Look) → asks f (optional greedy p) ≡ asks f p
optional-same true p f = or_none (asks f p)
optional-same false p f = refl

pub optional-back : (greedy : Bool) (p : Pattern) (f : Look) → asks f p ≡ asks f (optional greedy p)
optional-back greedy p f = sym (optional-same greedy p f)

-- of a pattern without it no copies have it
copies-none : (n : ℕ) (p : Pattern) (f : Look) → asks f p ≡ false → asks f (copies n p) ≡ false
copies-none zero p f e = refl
copies-none (suc n) p f e = rw (e, copies-none n p f e) refl

up_to-none : (greedy : Bool) (n : ℕ) (p : Pattern) (f : Look) → asks f p ≡ false → asks f (up_to greedy n p) ≡ false
up_to-none greedy zero p f e = refl
up_to-none greedy (suc n) p f e = optional-same greedy (Then p (up_to greedy n p)) f ∙ rw (e, up_to-none greedy n p f e) refl

-- one more, where some state has it already, or none has
absorbed : (r q : Bool) → (r ≡ false → q ≡ false) → (r || q) ≡ r
absorbed true q f = refl
absorbed false q f = f refl

copies-some : (n : ℕ) (p : Pattern) (f : Look) → asks f (copies (suc n) p) ≡ asks f p
copies-some n p f = absorbed (asks f p) (asks f (copies n p)) (copies-none n p f)

up_to-some : (greedy : Bool) (n : ℕ) (p : Pattern) (f : Look) → asks f (up_to greedy (suc n) p) ≡ asks f p
up_to-some greedy n p f =
    optional-same greedy (Then p (up_to greedy n p)) f
    ∙ absorbed (asks f p) (asks f (up_to greedy n p)) (up_to-none greedy n p f)

pub up_to-same : (greedy : Bool) (n : ℕ) (p : Pattern) (f : Look) → asks f (up_to greedy n p) ≡ asks f (Repeat 0 (Some n) greedy p)
up_to-same greedy zero p f = refl
up_to-same greedy (suc n) p f = up_to-some greedy n p f

occurs : (n m : ℕ) (max : Option ℕ) → 0 < n → may_occur (n + m) max ≡ true
occurs n m None l = refl
occurs n m (Some zero) l = let f : nat_lt 0 (n + m) ≡ true = grind (arith, nat_tests) in f
occurs n m (Some (suc max)) l = refl

again_absorbed : (r b : Bool) → (r || (b && r)) ≡ r
again_absorbed true b = refl
again_absorbed false true = refl
again_absorbed false false = refl

pub counted-same : (n m : ℕ) (max : Option ℕ) (greedy : Bool) (p : Pattern) (f : Look)
    → asks f (Then (copies n p) (Repeat m (limit_less max n) greedy p)) ≡ asks f (Repeat (n + m) max greedy p)
counted-same zero m max greedy p f = let none : zero + m ≡ m = omega arith in rw (none, no_less max) refl
counted-same (suc n) m max greedy p f =
    rw (occurs (suc n) m max (omega arith))
    (ap (λ (r : Bool). r || (may_occur m (limit_less max (suc n)) && asks f p)) (copies-some n p f)
    ∙ again_absorbed (asks f p) (may_occur m (limit_less max (suc n))))

-- ---- a part of a list of sound states

on_way_below : (low high most next : ℕ) → high ≤ most → next < most → (s : ℕ) → IsOnWay low high next s → s < most
on_way_below low high most next l m s (inl y) = omega (arith, y.1, l)
on_way_below low high most next l m s (inr y) = omega (arith, y, m)

leads_below : (P : ℕ → Type 0) (most count slot : ℕ) (state : State) → ((s : ℕ) → P s → s < most) → StaysOnWay P slot state
    → LeadsBelow most count state
leads_below P most count slot (ByteRange a b to) f x = f to x
leads_below P most count slot (Assert look to) f x = f to x
leads_below P most count slot (Fork a b) f x = (f a x.0, f b x.1)
leads_below P most count slot (Capture c to) f x = f to x.1
leads_below P most count slot (Accept p) f x = absurd x

leads_more : (high most count : ℕ) (state : State) → high ≤ most → LeadsBelow high count state → LeadsBelow most count state
leads_more high most count (ByteRange a b to) l x = omega (arith, l, x)
leads_more high most count (Assert look to) l x = omega (arith, l, x)
leads_more high most count (Fork a b) l x = (omega (arith, l, x.0), omega (arith, l, x.1))
leads_more high most count (Capture c to) l x = omega (arith, l, x)
leads_more high most count (Accept p) l x = x

-- a state that asserts nothing above others
FitsAndAsks-more : (most : ℕ) (r : Look → Bool) (low last high id : ℕ) (states : List State) (state : State) → low ≤ last → id ≡ last
    → high ≡ last + 1
    → slice_get states id ≡ Some state → Fits most state → ((f : Look) → asserts f state ≡ false) → FitsAndAsks most r low last states
    → FitsAndAsks most r low high states
FitsAndAsks-more most r low last high id states state l same one is fits lacks x =
    FitsAndAsks-alike most (λ f. r f || nothing f) r low high states (λ f. or_none (r f))
    (FitsAndAsks-joined most (λ f. r f || nothing f) r nothing low last high states (either r nothing) l (omega (arith, one)) x
    (FitsAndAsks-one most nothing last high id states state same one is fits lacks))

pub AreSound-alike : (most count : ℕ) (r s : Look → Bool) (low high first : ℕ) (states : List State) → ((f : Look) → r f ≡ s f)
    → AreSound most count r low high first states → AreSound most count s low high first states
AreSound-alike most count r s low high first states same x =
    record { from = x.from; to = x.to; leads = x.leads; names = FitsAndAsks-alike most r s low high states same x.names }

-- the states of a pattern: its part is between records of where it ends and begins
pub AreSound-pattern : (most count : ℕ) (r : Look → Bool) (low later last high accept number after start end body first slot : ℕ) (states : List State)
    → number < count → start ≡ 2 * number → end ≡ 2 * number + 1 → start < most → end < most → accept ≡ low
    → after ≡ low + 1 → later ≡ low + 2 → later ≤ last → first ≡ last → high ≡ last + 1
    → slice_get states accept ≡ Some (Accept number) → slice_get states after ≡ Some (Capture end accept)
    → Encloses slot later last body after states → FitsAndAsks most r later last states → slice_get states first ≡ Some (Capture start body)
    → AreSound most count r low high first states
AreSound-pattern most count r low later last high accept number after start end body first slot states n starts ends sm em ea eb el l ef eh is_accept is_after x
    names is_first =
    record {
      from = omega (arith, ef, el, l);
      to = omega (arith, ef, eh);
      leads = each-joined Below low (low + 1) high states
          (each-one Below low (low + 1) states (Accept number) refl (subst (λ (s : ℕ). slice_get states s ≡ Some (Accept number)) ea is_accept) n)
          (each-joined Below (low + 1) later high states
          (each-one Below (low + 1) later states (Capture end accept) (omega (arith, el))
          (subst (λ (s : ℕ). slice_get states s ≡ Some (Capture end accept)) eb is_after) (omega (arith, ea, el, l, eh)))
          (each-joined Below later last high states
          (λ k state m h is. leads_below (λ (s : ℕ). IsOnWay later last after s) high count slot state inside (x.stays k state m h is))
          (each-one Below last high states (Capture start body) eh (subst (λ (s : ℕ). slice_get states s ≡ Some (Capture start body)) ef is_first)
          (inside body x.begins))));
      names = FitsAndAsks-more most r low last high first states (Capture start body) (omega (arith, el, l)) ef eh is_first sm
          (λ f. refl)
          (FitsAndAsks-joined most r nothing r low later last states (either nothing r) (omega (arith, el)) l
          (FitsAndAsks-more most nothing low (low + 1) later after states (Capture end accept) (omega arith) eb (omega (arith, el)) is_after
          em (λ f. refl)
          (FitsAndAsks-more most nothing low low (low + 1) accept states (Accept number) (omega arith) ea refl is_accept tt (λ f. refl)
          (FitsAndAsks-none most low low states (omega arith))))
          names);
    }
  where
    Below : State → Type 0
    Below = LeadsBelow high count

    inside : (s : ℕ) → IsOnWay later last after s → s < high
    inside = on_way_below later last high after (omega (arith, eh)) (omega (arith, eb, el, l, eh))

-- the states of a pattern after those of others, and a fork above them
pub AreSound-more : (most count : ℕ) (r q : Look → Bool) (low middle last high one other id : ℕ) (states : List State) → low ≤ middle
    → middle ≤ last
    → id ≡ last → high ≡ last + 1 → AreSound most count q low middle other states → AreSound most count r middle last one states
    → slice_get states id ≡ Some (Fork one other) → AreSound most count (λ f. r f || q f) low high id states
AreSound-more most count r q low middle last high one other id states l m same more x y is = record {
  from = omega (arith, l, m, same);
  to = omega (arith, same, more);
  leads = each-joined (LeadsBelow high count) low middle high states
      (each-is (LeadsBelow middle count) (LeadsBelow high count) low middle states
      (λ state. leads_more middle high count state (omega (arith, m, more))) x.leads)
      (each-joined (LeadsBelow high count) middle last high states
      (each-is (LeadsBelow last count) (LeadsBelow high count) middle last states (λ state. leads_more last high count state (omega (arith, more))) y.leads)
      (each-one (LeadsBelow high count) last high states (Fork one other) more (subst (λ (s : ℕ). slice_get states s ≡ Some (Fork one other)) same is)
      (omega (arith, y.to, more), omega (arith, x.to, m, more))));
  names = FitsAndAsks-above most (λ f. r f || q f) low last high id one other states (omega (arith, l, m)) same more is
      (FitsAndAsks-joined most (λ f. r f || q f) q r low middle last states (either_back q r) l m x.names y.names);
}

-- ---- all states of a program

no_fault : (n s target : ℕ) → target < n → target_fault n s target ≡ None
no_fault n s target l = let e : nat_lt target n ≡ true = grind (arith, nat_tests) in rw e refl

state_clear : (groups : GroupLists) (states : List State) (n s : ℕ) (state : State) → LeadsBelow n (length groups) state
    → Fits (2 * all_group_count groups) state → fault_of_state groups n s state ≡ None
state_clear groups states n s (ByteRange a b next) x y =
    let within : a ≤ b = y in let e : nat_lt b a ≡ false = grind (arith, nat_tests) in rw (e, no_fault n s next x) refl
state_clear groups states n s (Assert l next) x y = no_fault n s next x
state_clear groups states n s (Fork a b) x y = rw (no_fault n s a x.0, no_fault n s b x.1) refl
state_clear groups states n s (Capture slot next) x y =
    let below = y in let e : nat_lt slot (2 * all_group_count groups) ≡ true = grind (arith, nat_tests) in rw (no_fault n s next x, e) refl
state_clear groups states n s (Accept p) x y = let e : nat_lt p (length groups) ≡ true = grind (arith, nat_tests) in rw e refl

-- they have no fault
pub sound-faultless : (groups : GroupLists) (states : List State) (r : Look → Bool) (first : ℕ)
    → AreSound (2 * all_group_count groups) (length groups) r 0 (length states) first states → AreFaultless groups states
sound-faultless groups states r first x = λ s l. go s l (slice_get states s) refl
  where
    go : (s : ℕ) → s < length states → (o : Option State) → slice_get states s ≡ o → fault_in groups (length states) s (slice_get states s) ≡ None
    go s l None is = rw is refl
    go s l (Some state) is = rw is
        (state_clear groups states (length states) s state (x.leads s state (omega arith) l is) (x.names.fits s state (omega arith) l is))

-- so there is no automaton of them only where there was no memory
pub sound-made : (groups : GroupLists) (states : List State) (r : Look → Bool) (first : ℕ) (fault : BuildError)
    → AreSound (2 * all_group_count groups) (length groups) r 0 (length states) first states
    → ((fault ≡ OutOfMemory) × AreFaultless groups states) ⊎ IsFirstFaultOfStates groups states fault → fault ≡ OutOfMemory
sound-made groups states r first fault x (inl m) = m.0
sound-made groups states r first fault x (inr f) = absurd (
    let none = sound-faultless groups states r first x f.state f.there in
    let some = f.fault in
    cc)

-- ---- the assertions of a program

or_true : (r q : Bool) → q ≡ true → (r || q) ≡ true
or_true true q e = refl
or_true false q e = e

any-some : (t : State → Bool) (states : List State) (k : ℕ) (state : State) → slice_get states k ≡ Some state → t state ≡ true
    → list_any t states ≡ true
any-some t [] k state is e = absurd (cc)
any-some t (x ∷ rest) zero state is e = let same : x ≡ state = cc in rw (same, e) refl
any-some t (x ∷ rest) (suc k) state is e = or_true (t x) (list_any t rest) (any-some t rest k state is e)

any-none : (t : State → Bool) (states : List State) → ((k : ℕ) (state : State) → slice_get states k ≡ Some state → t state ≡ false)
    → list_any t states ≡ false
any-none t [] none = refl
any-none t (x ∷ rest) none = rw (none zero x refl, any-none t rest (λ k state is. none (suc k) state is)) refl

-- they are those of its patterns
pub sound-asks : (groups : GroupLists) (states : List State) (r : Look → Bool) (first : ℕ) (look : Look)
    → AreSound (2 * all_group_count groups) (length groups) r 0 (length states) first states → list_any (asserts look) states ≡ r look
sound-asks groups states r first look x = decide (r look) refl
  where
    decide : (t : Bool) → r look ≡ t → list_any (asserts look) states ≡ t
    decide true e = let h = x.names.shows look e in any-some (asserts look) states h.state h.its h.here h.shows
    decide false e = any-none (asserts look) states (λ k state is. x.names.lacks look e k state (omega arith) (slice_get_within states k state is) is)
