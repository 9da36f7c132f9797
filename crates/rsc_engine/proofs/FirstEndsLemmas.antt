-- The first end of a pattern is an end, and the only one.
use Rattle.std.proofs.Common.{◌≡◌, ℕ, zero, suc, ◌+◌, ◌-◌, ◌<◌, ◌≤◌, ◌⊎◌, inl, inr, ⊎_elim, Bool, true, false, true≢false, ◌&&◌, not, List, [], ◌∷◌, refl, sym, ◌∙◌, subst, arith, Option, Some, None}
use Rattle.rsc_engine.specs.Patterns.{Pattern, Empty, Never, Class, Literal, Assertion, Then, Either, Repeat, Group, Subject, AreBytes, Times, IsAtMost, SomeTimes, Goes, may_be_empty}
use Rattle.rsc_engine.specs.FirstEnds.{loops_take_bytes, HasEndIn, limit_after, MayRepeat, CanRepeat, AreFirstTimes, IsFirstEnd}
use Rattle.rsc_engine.specs.LinksLayout.{copies, optional, up_to}
use Rattle.rsc_engine.proofs.PatternsLemmas.{limit_less}

-- ---- what is wanted

-- what the one wants the other wants too
abbrev pub IsMore : (ℕ → Type 0) → (ℕ → Type 0) → Type 0
IsMore Wanted Other = (i : ℕ) → Wanted i → Other i

pub ends-more : (Wanted Other : ℕ → Type 0) (R : ℕ → ℕ → Type 0) → IsMore Wanted Other → IsMore (HasEndIn Wanted R) (HasEndIn Other R)
ends-more Wanted Other R more i e = (e.0, e.1, more e.0 e.2)

pub ends-along : (Wanted : ℕ → Type 0) (R S : ℕ → ℕ → Type 0) → ((i j : ℕ) → R i j → S i j)
    → IsMore (HasEndIn Wanted R) (HasEndIn Wanted S)
ends-along Wanted R S along i e = (e.0, along i e.0 e.1, e.2)

pub repeats-more : (R : ℕ → ℕ → Type 0) (min : ℕ) (max : Option ℕ) (Wanted Other : ℕ → Type 0) → IsMore Wanted Other
    → IsMore (CanRepeat R min max Wanted) (CanRepeat R min max Other)
repeats-more R min max Wanted Other more i c = (
  c.0,
  ends-more (HasEndIn Wanted (SomeTimes R (min - 1) (limit_after max))) (HasEndIn Other (SomeTimes R (min - 1) (limit_after max))) R
      (ends-more Wanted Other (SomeTimes R (min - 1) (limit_after max)) more) i c.1,
)

-- ---- it is an end

abbrev pub IsEnd : ((ℕ → Type 0) → ℕ → ℕ → Type 0) → (ℕ → ℕ → Type 0) → Type 1
IsEnd First R = (Wanted : ℕ → Type 0) (i j : ℕ) → First Wanted i j → R i j × Wanted j

once_more : (min n : ℕ) (max : Option ℕ) → MayRepeat min max → IsAtMost (min - 1) (limit_after max) n → IsAtMost min max (suc n)
once_more min n None may l = tt
once_more min n (Some max) may l = ⊎_elim
    (λ (some : 0 < min). ⊎_elim
    (λ (h : n ≤ max - 1). here some h (cases max))
    (λ (h : n ≤ min - 1). inr (omega (arith, some, h)))
    l)
    (λ (some : 0 < max). ⊎_elim
    (λ (h : n ≤ max - 1). inl (omega (arith, some, h)))
    (λ (h : n ≤ min - 1). there some h (cases min))
    l)
    may
  where
    cases : (k : ℕ) → (0 < k) ⊎ (k ≡ 0)
    cases zero = inr refl
    cases (suc k) = inl (omega arith)

    here : 0 < min → n ≤ max - 1 → (0 < max) ⊎ (max ≡ 0) → (suc n ≤ max) ⊎ (suc n ≤ min)
    here some h (inl l) = inl (omega (arith, l, h))
    here some h (inr e) = inr (omega (arith, some, h, e))

    there : 0 < max → n ≤ min - 1 → (0 < min) ⊎ (min ≡ 0) → (suc n ≤ max) ⊎ (suc n ≤ min)
    there some h (inl l) = inr (omega (arith, l, h))
    there some h (inr e) = inl (omega (arith, some, h, e))

times-end : (First : (ℕ → Type 0) → ℕ → ℕ → Type 0) (R : ℕ → ℕ → Type 0) (greedy : Bool) → IsEnd First R
    → (n min : ℕ) (max : Option ℕ)
    (Wanted : ℕ → Type 0) (i j : ℕ) → AreFirstTimes First R greedy n min max Wanted i j → (min ≤ n) × IsAtMost min max n × Times R n i j
    × Wanted j
times-end First R greedy end zero min max Wanted i j f = (omega (arith, f.0), none max, f.1, f.2)
  where
    none : (max : Option ℕ) → IsAtMost min max 0
    none None = tt
    none (Some max) = inl (omega arith)
times-end First R greedy end (suc n) min max Wanted i j f =
    let rest = times-end First R greedy end n (min - 1) (limit_after max) Wanted f.2 j f.4 in
    let one = end (HasEndIn Wanted (SomeTimes R (min - 1) (limit_after max))) i f.2 f.3 in
    (omega (arith, rest.0), once_more min n max f.0 rest.1, (f.2, one.0, rest.2), rest.3)

pub first-end : (x : Subject) (p : Pattern) → IsEnd (λ Wanted i j. IsFirstEnd x p Wanted i j) (Goes x p)
first-end x Empty Wanted i j f = f
first-end x Never Wanted i j f = f
first-end x (Class ranges) Wanted i j f = f
first-end x (Literal bytes) Wanted i j f = f
first-end x (Assertion look) Wanted i j f = f
first-end x (Then a b) Wanted i j f =
    let one = first-end x a (HasEndIn Wanted (Goes x b)) i f.0 f.1 in
    let other = first-end x b Wanted f.0 j f.2 in ((f.0, one.0, other.0), other.1)
first-end x (Either a b) Wanted i j f = ⊎_elim
    (λ (g : IsFirstEnd x a Wanted i j). let e = first-end x a Wanted i j g in (inl e.0, e.1))
    (λ (g : (HasEndIn Wanted (Goes x a) i → ⊥) × IsFirstEnd x b Wanted i j). let e = first-end x b Wanted i j g.1 in (inr e.0, e.1))
    f
first-end x (Repeat min max greedy a) Wanted i j f =
    let e = times-end (λ Such k l. IsFirstEnd x a Such k l) (Goes x a) greedy (first-end x a) f.0 min max Wanted i j f.1 in
    ((f.0, e.0, e.1, e.2), e.3)
first-end x (Group slot a) Wanted i j f = first-end x a Wanted i j f

-- ---- there is at most one

abbrev IsOne : ((ℕ → Type 0) → ℕ → ℕ → Type 0) → Type 1
IsOne First = (Wanted : ℕ → Type 0) (i j k : ℕ) → First Wanted i j → First Wanted i k → j ≡ k

-- where it comes no more it doesn't come once more
over_or_more : (First : (ℕ → Type 0) → ℕ → ℕ → Type 0) (R : ℕ → ℕ → Type 0) (greedy : Bool) → IsEnd First R
    → (n min : ℕ) (max : Option ℕ)
    (Wanted : ℕ → Type 0) (i j k : ℕ) → AreFirstTimes First R greedy zero min max Wanted i j
    → AreFirstTimes First R greedy (suc n) min max Wanted i k → ⊥
over_or_more First R true end n min max Wanted i j k f g =
    let one = end (HasEndIn Wanted (SomeTimes R (min - 1) (limit_after max))) i g.2 g.3 in
    f.3 refl (g.0, (g.2, one.0, one.1))
over_or_more First R false end n min max Wanted i j k f g = g.1 refl f.0 (subst Wanted (sym f.1) f.2)

times-one : (First : (ℕ → Type 0) → ℕ → ℕ → Type 0) (R : ℕ → ℕ → Type 0) (greedy : Bool) → IsEnd First R → IsOne First
    → (n m min : ℕ) (max : Option ℕ)
    (Wanted : ℕ → Type 0) (i j k : ℕ) → AreFirstTimes First R greedy n min max Wanted i j → AreFirstTimes First R greedy m min max Wanted i k
    → j ≡ k
times-one First R greedy end one zero zero min max Wanted i j k f g = sym f.1 ∙ g.1
times-one First R greedy end one zero (suc m) min max Wanted i j k f g = absurd (over_or_more First R greedy end m min max Wanted i j k f g)
times-one First R greedy end one (suc n) zero min max Wanted i j k f g = absurd (over_or_more First R greedy end n min max Wanted i k j g f)
times-one First R greedy end one (suc n) (suc m) min max Wanted i j k f g =
    let same = one (HasEndIn Wanted (SomeTimes R (min - 1) (limit_after max))) i g.2 f.2 g.3 f.3 in
    times-one First R greedy end one n m (min - 1) (limit_after max) Wanted f.2 j k f.4
    (subst (λ (l : ℕ). AreFirstTimes First R greedy m (min - 1) (limit_after max) Wanted l k) same g.4)

pub bytes-one : (h bytes : List ℕ) (i j k : ℕ) → AreBytes h bytes i j → AreBytes h bytes i k → j ≡ k
bytes-one h [] i j k f g = sym f ∙ g
bytes-one h (b ∷ rest) i j k f g = bytes-one h rest (i + 1) j k f.1 g.1

pub first-one : (x : Subject) (p : Pattern) → IsOne (λ Wanted i j. IsFirstEnd x p Wanted i j)
first-one x Empty Wanted i j k f g = sym f.0 ∙ g.0
first-one x Never Wanted i j k f g = absurd f.0
first-one x (Class ranges) Wanted i j k f g = f.0.1 ∙ sym g.0.1
first-one x (Literal bytes) Wanted i j k f g = bytes-one x.haystack bytes i j k f.0 g.0
first-one x (Assertion look) Wanted i j k f g = sym f.0.1 ∙ g.0.1
first-one x (Then a b) Wanted i j k f g =
    let same = first-one x a (HasEndIn Wanted (Goes x b)) i g.0 f.0 g.1 f.1 in
    first-one x b Wanted f.0 j k f.2 (subst (λ (l : ℕ). IsFirstEnd x b Wanted l k) same g.2)
first-one x (Either a b) Wanted i j k (inl f) (inl g) = first-one x a Wanted i j k f g
first-one x (Either a b) Wanted i j k (inl f) (inr g) = let e = first-end x a Wanted i j f in absurd (g.0 (j, e.0, e.1))
first-one x (Either a b) Wanted i j k (inr f) (inl g) = let e = first-end x a Wanted i k g in absurd (f.0 (k, e.0, e.1))
first-one x (Either a b) Wanted i j k (inr f) (inr g) = first-one x b Wanted i j k f.1 g.1
first-one x (Repeat min max greedy a) Wanted i j k f g =
    times-one (λ Such l m. IsFirstEnd x a Such l m) (Goes x a) greedy (first-end x a) (first-one x a) f.0 g.0 min max Wanted i j k f.1 g.1
first-one x (Group slot a) Wanted i j k f g = first-one x a Wanted i j k f g

-- ---- loops of patterns made of patterns

pub both : (a b : Bool) → a ≡ true → b ≡ true → (a && b) ≡ true
both true b x y = y
both false b x y = absurd (true≢false (sym x))

pub both_are : (a b : Bool) → (a && b) ≡ true → (a ≡ true) × (b ≡ true)
both_are true b h = (refl, h)
both_are false b h = absurd (true≢false (sym h))

optional-loops : (greedy : Bool) (p : Pattern) → loops_take_bytes p ≡ true → loops_take_bytes (optional greedy p) ≡ true
optional-loops true p e = both (loops_take_bytes p) true e refl
optional-loops false p e = e

copies-loops : (n : ℕ) (p : Pattern) → loops_take_bytes p ≡ true → loops_take_bytes (copies n p) ≡ true
copies-loops zero p e = refl
copies-loops (suc n) p e = both (loops_take_bytes p) (loops_take_bytes (copies n p)) e (copies-loops n p e)

pub up_to-loops : (greedy : Bool) (n : ℕ) (p : Pattern) → loops_take_bytes p ≡ true → loops_take_bytes (up_to greedy n p) ≡ true
up_to-loops greedy zero p e = refl
up_to-loops greedy (suc n) p e =
    optional-loops greedy (Then p (up_to greedy n p)) (both (loops_take_bytes p) (loops_take_bytes (up_to greedy n p)) e (up_to-loops greedy n p e))

pub part-loops : (min : ℕ) (max : Option ℕ) (greedy : Bool) (p : Pattern) → loops_take_bytes (Repeat min max greedy p) ≡ true
    → loops_take_bytes p ≡ true
part-loops min None greedy p e = (both_are (not (may_be_empty p)) (loops_take_bytes p) e).1
part-loops min (Some max) greedy p e = e

pub loop-takes : (min : ℕ) (greedy : Bool) (p : Pattern) → loops_take_bytes (Repeat min None greedy p) ≡ true → may_be_empty p ≡ false
loop-takes min greedy p e = not_true (may_be_empty p) ((both_are (not (may_be_empty p)) (loops_take_bytes p) e).0)
  where
    not_true : (b : Bool) → not b ≡ true → b ≡ false
    not_true true h = absurd (true≢false (sym h))
    not_true false h = refl

pub counted-loops : (n m : ℕ) (max : Option ℕ) (greedy : Bool) (p : Pattern) → loops_take_bytes (Repeat (n + m) max greedy p) ≡ true
    → loops_take_bytes (Then (copies n p) (Repeat m (limit_less max n) greedy p)) ≡ true
counted-loops n m max greedy p e =
    both (loops_take_bytes (copies n p)) (loops_take_bytes (Repeat m (limit_less max n) greedy p)) (copies-loops n p (part-loops (n + m) max greedy p e))
    (rest max e)
  where
    rest : (max : Option ℕ) → loops_take_bytes (Repeat (n + m) max greedy p) ≡ true → loops_take_bytes (Repeat m (limit_less max n) greedy p) ≡ true
    rest None h = h
    rest (Some max) h = h
