-- The first way of a pattern leads to its first end, depends on what is wanted alone, and is the only one; patterns with the same one.
use Rattle.std.proofs.Common.{◌≡◌, ℕ, zero, suc, ◌+◌, ◌-◌, ◌<◌, ◌≤◌, ◌⊎◌, inl, inr, ⊎_elim, Bool, true, false, true≢false, List, [], ◌∷◌, refl, sym, ap, ◌∙◌, subst, arith, Option, Some, None}
use Rattle.std.proofs.lemmas.Bool.{cases_lt}
use Rattle.rsc_engine.specs.Patterns.{Pattern, Empty, Never, Class, Literal, Assertion, Then, Either, Repeat, Group, Subject, SomeTimes, IsAtMost, Goes}
use Rattle.rsc_engine.specs.FirstEnds.{HasEndIn, limit_after, MayRepeat, AreFirstTimes, IsFirstEnd}
use Rattle.rsc_engine.specs.Ways.{Point, with_record, TimesWith, GoesWith}
use Rattle.rsc_engine.specs.FirstWays.{AreFirstRounds, IsFirstWay}
use Rattle.rsc_engine.specs.LinksLayout.{copies, optional, up_to}
use Rattle.rsc_engine.proofs.PatternsLemmas.{limit_less, no_less, class-is, literal-is, up_to-is, up_to-back, counted-is, counted-back}
use Rattle.rsc_engine.proofs.FirstEndsLemmas.{IsMore, ends-more, ends-along, repeats-more, bytes-one, first-end}

-- ---- what is wanted

-- it's enough what the one and the other want
abbrev IsAlike : ((ℕ → Type 0) → Point → Point → Type 0) → Type 1
IsAlike First = (Wanted Other : ℕ → Type 0) (m n : Point) → IsMore Wanted Other → IsMore Other Wanted → First Wanted m n → First Other m n

rounds-alike : (First : (ℕ → Type 0) → Point → Point → Type 0) (R : ℕ → ℕ → Type 0) (greedy : Bool) → IsAlike First
    → (times min : ℕ) (max : Option ℕ)
    → IsAlike (AreFirstRounds First R greedy times min max)
rounds-alike First R greedy alike zero min max Wanted Other m n more less f =
    (f.0, f.1, more n.0 f.2, λ e c. f.3 e (repeats-more R min max Other Wanted less m.0 c))
rounds-alike First R greedy alike (suc times) min max Wanted Other m n more less f = (
  f.0,
  λ e none w. f.1 e none (less m.0 w),
  f.2,
  alike (HasEndIn Wanted (SomeTimes R (min - 1) (limit_after max))) (HasEndIn Other (SomeTimes R (min - 1) (limit_after max))) m f.2
      (ends-more Wanted Other (SomeTimes R (min - 1) (limit_after max)) more) (ends-more Other Wanted (SomeTimes R (min - 1) (limit_after max)) less) f.3,
  rounds-alike First R greedy alike times (min - 1) (limit_after max) Wanted Other f.2 n more less f.4,
)

pub way-alike : (x : Subject) (p : Pattern) → IsAlike (λ Wanted m n. IsFirstWay x p Wanted m n)
way-alike x Empty Wanted Other m n more less f = (f.0, more n.0 f.1)
way-alike x Never Wanted Other m n more less f = absurd f
way-alike x (Class ranges) Wanted Other m n more less f = (f.0, f.1, more n.0 f.2)
way-alike x (Literal bytes) Wanted Other m n more less f = (f.0, f.1, more n.0 f.2)
way-alike x (Assertion look) Wanted Other m n more less f = (f.0, f.1, more n.0 f.2)
way-alike x (Then a b) Wanted Other m n more less f = (
  f.0,
  way-alike x a (HasEndIn Wanted (Goes x b)) (HasEndIn Other (Goes x b)) m f.0 (ends-more Wanted Other (Goes x b) more)
      (ends-more Other Wanted (Goes x b) less) f.1,
  way-alike x b Wanted Other f.0 n more less f.2,
)
way-alike x (Either a b) Wanted Other m n more less f = ⊎_elim
    (λ (g : IsFirstWay x a Wanted m n). inl (way-alike x a Wanted Other m n more less g))
    (λ (g : (HasEndIn Wanted (Goes x a) m.0 → ⊥) × IsFirstWay x b Wanted m n).
    inr (λ e. g.0 (ends-more Other Wanted (Goes x a) less m.0 e), way-alike x b Wanted Other m n more less g.1))
    f
way-alike x (Repeat min max greedy a) Wanted Other m n more less f =
    (f.0, rounds-alike (λ Such k l. IsFirstWay x a Such k l) (Goes x a) greedy (way-alike x a) f.0 min max Wanted Other m n more less f.1)
way-alike x (Group slot a) Wanted Other m n more less f = (f.0, way-alike x a Wanted Other (with_record slot m) f.0 more less f.1, f.2)

-- ---- it leads to the first end

abbrev IsToEnd : ((ℕ → Type 0) → Point → Point → Type 0) → ((ℕ → Type 0) → ℕ → ℕ → Type 0) → Type 1
IsToEnd First End = (Wanted : ℕ → Type 0) (m n : Point) → First Wanted m n → End Wanted m.0 n.0

rounds-end : (First : (ℕ → Type 0) → Point → Point → Type 0) (End : (ℕ → Type 0) → ℕ → ℕ → Type 0)
    (R : ℕ → ℕ → Type 0) (greedy : Bool) → IsToEnd First End
    → (times min : ℕ) (max : Option ℕ) → IsToEnd (AreFirstRounds First R greedy times min max) (AreFirstTimes End R greedy times min max)
rounds-end First End R greedy end zero min max Wanted m n f = (f.0, ap (λ (k : Point). k.0) f.1, f.2, f.3)
rounds-end First End R greedy end (suc times) min max Wanted m n f = (
  f.0,
  f.1,
  f.2.0,
  end (HasEndIn Wanted (SomeTimes R (min - 1) (limit_after max))) m f.2 f.3,
  rounds-end First End R greedy end times (min - 1) (limit_after max) Wanted f.2 n f.4,
)

pub way-end : (x : Subject) (p : Pattern) → IsToEnd (λ Wanted m n. IsFirstWay x p Wanted m n) (λ Wanted i j. IsFirstEnd x p Wanted i j)
way-end x Empty Wanted m n f = (ap (λ (k : Point). k.0) f.0, f.1)
way-end x Never Wanted m n f = absurd f
way-end x (Class ranges) Wanted m n f = (f.0, f.2)
way-end x (Literal bytes) Wanted m n f = (f.0, f.2)
way-end x (Assertion look) Wanted m n f = (f.0, f.2)
way-end x (Then a b) Wanted m n f = (f.0.0, way-end x a (HasEndIn Wanted (Goes x b)) m f.0 f.1, way-end x b Wanted f.0 n f.2)
way-end x (Either a b) Wanted m n f = ⊎_elim
    (λ (g : IsFirstWay x a Wanted m n). inl (way-end x a Wanted m n g))
    (λ (g : (HasEndIn Wanted (Goes x a) m.0 → ⊥) × IsFirstWay x b Wanted m n). inr (g.0, way-end x b Wanted m n g.1))
    f
way-end x (Repeat min max greedy a) Wanted m n f = (
  f.0,
  rounds-end (λ Such k l. IsFirstWay x a Such k l) (λ Such k l. IsFirstEnd x a Such k l) (Goes x a) greedy (way-end x a) f.0 min max Wanted m n f.1,
)
way-end x (Group slot a) Wanted m n f =
    subst (λ (k : Point). IsFirstEnd x a Wanted m.0 k.0) (sym f.2) (way-end x a Wanted (with_record slot m) f.0 f.1)

-- ---- there is at most one

abbrev LeadsOn : ((ℕ → Type 0) → Point → Point → Type 0) → (ℕ → ℕ → Type 0) → Type 1
LeadsOn First R = (Wanted : ℕ → Type 0) (m n : Point) → First Wanted m n → R m.0 n.0 × Wanted n.0

way-goes : (x : Subject) (p : Pattern) → LeadsOn (λ Wanted m n. IsFirstWay x p Wanted m n) (Goes x p)
way-goes x p Wanted m n f = first-end x p Wanted m.0 n.0 (way-end x p Wanted m n f)

abbrev IsOne : ((ℕ → Type 0) → Point → Point → Type 0) → Type 1
IsOne First = (Wanted : ℕ → Type 0) (m n k : Point) → First Wanted m n → First Wanted m k → n ≡ k

same_mark : (m n : Point) → m.0 ≡ n.0 → m.1 ≡ n.1 → m ≡ n
same_mark m n a b = ap (λ (i : ℕ). (i, m.1)) a ∙ ap (λ (r : List (ℕ × ℕ)). (n.0, r)) b

-- where it comes no more it doesn't come once more
over_or_more : (First : (ℕ → Type 0) → Point → Point → Type 0) (R : ℕ → ℕ → Type 0) (greedy : Bool) → LeadsOn First R
    → (times min : ℕ) (max : Option ℕ)
    (Wanted : ℕ → Type 0) (m n k : Point) → AreFirstRounds First R greedy zero min max Wanted m n
    → AreFirstRounds First R greedy (suc times) min max Wanted m k
    → ⊥
over_or_more First R true on times min max Wanted m n k f g =
    let one = on (HasEndIn Wanted (SomeTimes R (min - 1) (limit_after max))) m g.2 g.3 in
    f.3 refl (g.0, (g.2.0, one.0, one.1))
over_or_more First R false on times min max Wanted m n k f g = g.1 refl f.0 (subst (λ (z : Point). Wanted z.0) (sym f.1) f.2)

rounds-one : (First : (ℕ → Type 0) → Point → Point → Type 0) (R : ℕ → ℕ → Type 0) (greedy : Bool) → LeadsOn First R → IsOne First
    → (s t min : ℕ)
    (max : Option ℕ) (Wanted : ℕ → Type 0) (m n k : Point) → AreFirstRounds First R greedy s min max Wanted m n
    → AreFirstRounds First R greedy t min max Wanted m k → n ≡ k
rounds-one First R greedy on one zero zero min max Wanted m n k f g = sym f.1 ∙ g.1
rounds-one First R greedy on one zero (suc t) min max Wanted m n k f g = absurd (over_or_more First R greedy on t min max Wanted m n k f g)
rounds-one First R greedy on one (suc s) zero min max Wanted m n k f g = absurd (over_or_more First R greedy on s min max Wanted m k n g f)
rounds-one First R greedy on one (suc s) (suc t) min max Wanted m n k f g =
    let same = one (HasEndIn Wanted (SomeTimes R (min - 1) (limit_after max))) m g.2 f.2 g.3 f.3 in
    rounds-one First R greedy on one s t (min - 1) (limit_after max) Wanted f.2 n k f.4
    (subst (λ (z : Point). AreFirstRounds First R greedy t (min - 1) (limit_after max) Wanted z k) same g.4)

pub way-one : (x : Subject) (p : Pattern) → IsOne (λ Wanted m n. IsFirstWay x p Wanted m n)
way-one x Empty Wanted m n k f g = sym f.0 ∙ g.0
way-one x Never Wanted m n k f g = absurd f
way-one x (Class ranges) Wanted m n k f g = same_mark n k (f.0.1 ∙ sym g.0.1) (sym f.1 ∙ g.1)
way-one x (Literal bytes) Wanted m n k f g = same_mark n k (bytes-one x.haystack bytes m.0 n.0 k.0 f.0 g.0) (sym f.1 ∙ g.1)
way-one x (Assertion look) Wanted m n k f g = same_mark n k (sym f.0.1 ∙ g.0.1) (sym f.1 ∙ g.1)
way-one x (Then a b) Wanted m n k f g =
    let same = way-one x a (HasEndIn Wanted (Goes x b)) m g.0 f.0 g.1 f.1 in
    way-one x b Wanted f.0 n k f.2 (subst (λ (z : Point). IsFirstWay x b Wanted z k) same g.2)
way-one x (Either a b) Wanted m n k (inl f) (inl g) = way-one x a Wanted m n k f g
way-one x (Either a b) Wanted m n k (inl f) (inr g) = let e = way-goes x a Wanted m n f in absurd (g.0 (n.0, e.0, e.1))
way-one x (Either a b) Wanted m n k (inr f) (inl g) = let e = way-goes x a Wanted m k g in absurd (f.0 (k.0, e.0, e.1))
way-one x (Either a b) Wanted m n k (inr f) (inr g) = way-one x b Wanted m n k f.1 g.1
way-one x (Repeat min max greedy a) Wanted m n k f g =
    rounds-one (λ Such l j. IsFirstWay x a Such l j) (Goes x a) greedy (way-goes x a) (way-one x a) f.0 g.0 min max Wanted m n k f.1 g.1
way-one x (Group slot a) Wanted m n k f g =
    f.2 ∙ (ap (λ (z : Point). with_record (slot + 1) z) (way-one x a Wanted (with_record slot m) f.0 g.0 f.1 g.1) ∙ sym g.2)

-- ---- the same ways in the same order

-- a first way of the one is one of the other
abbrev pub HasFirstWay : Pattern → Pattern → Type 1
HasFirstWay p q = (x : Subject) (Wanted : ℕ → Type 0) (m n : Point) → IsFirstWay x p Wanted m n → IsFirstWay x q Wanted m n

pub class-way : (a b : ℕ) (rest : List (ℕ × ℕ)) → HasFirstWay (Either (Class ((a, b) ∷ [])) (Class rest)) (Class ((a, b) ∷ rest))
class-way a b rest x Wanted m n f = ⊎_elim
    (λ (g : IsFirstWay x (Class ((a, b) ∷ [])) Wanted m n). (class-is a b rest x m.0 n.0 (inl g.0), g.1, g.2))
    (λ (g : (HasEndIn Wanted (Goes x (Class ((a, b) ∷ []))) m.0 → ⊥) × IsFirstWay x (Class rest) Wanted m n).
    (class-is a b rest x m.0 n.0 (inr g.1.0), g.1.1, g.1.2))
    f

pub literal-way : (b : ℕ) (rest : List ℕ) → HasFirstWay (Then (Class ((b, b) ∷ [])) (Literal rest)) (Literal (b ∷ rest))
literal-way b rest x Wanted m n f = (literal-is b rest x m.0 n.0 (f.0.0, f.1.0, f.2.0), f.1.1 ∙ f.2.1, f.2.2)

-- no byte
pub literal_none-way : HasFirstWay Empty (Literal [])
literal_none-way x Wanted m n f = (ap (λ (k : Point). k.0) f.0, ap (λ (k : Point). k.1) f.0, f.1)

-- the part once more
more : (most : ℕ) (greedy : Bool) (p : Pattern) (x : Subject) (Wanted : ℕ → Type 0) (m n : Point) → (greedy ≡ false → Wanted m.0 → ⊥)
    → HasFirstWay (up_to greedy most p) (Repeat 0 (Some most) greedy p) → IsFirstWay x (Then p (up_to greedy most p)) Wanted m n
    → IsFirstWay x (Repeat 0 (Some (suc most)) greedy p) Wanted m n
more most greedy p x Wanted m n unwanted h f =
    let rest = h x Wanted f.0 n f.2 in
    let less : suc most - 1 ≡ most = omega arith in
    let zero_less : 0 - 1 ≡ 0 = omega arith in (
      suc rest.0,
      (
        inr (omega arith),
        λ e none. unwanted e,
        f.0,
        rw (zero_less, less) (way-alike x p (HasEndIn Wanted (Goes x (up_to greedy most p))) (HasEndIn Wanted (SomeTimes (Goes x p) 0 (Some most))) m f.0
            (ends-along Wanted (Goes x (up_to greedy most p)) (SomeTimes (Goes x p) 0 (Some most)) (λ k l. up_to-is greedy most p x k l))
            (ends-along Wanted (SomeTimes (Goes x p) 0 (Some most)) (Goes x (up_to greedy most p)) (λ k l. up_to-back greedy most p x k l)) f.1),
        rw (zero_less, less) rest.1,
      ),
    )

-- at most a number of times
pub up_to-way : (greedy : Bool) (most : ℕ) (p : Pattern) → HasFirstWay (up_to greedy most p) (Repeat 0 (Some most) greedy p)
up_to-way greedy zero p x Wanted m n f = (0, (refl, f.0, f.1, λ e c. ⊎_elim (λ (l : 0 < 0). omega (arith, l)) (λ (l : 0 < 0). omega (arith, l)) c.0))
up_to-way true (suc most) p x Wanted m n f = ⊎_elim
    (λ (g : IsFirstWay x (Then p (up_to true most p)) Wanted m n).
    more most true p x Wanted m n (λ e. absurd (true≢false e)) (up_to-way true most p) g)
    (λ (g : (HasEndIn Wanted (Goes x (Then p (up_to true most p))) m.0 → ⊥) × ((m ≡ n) × Wanted n.0)). (
      0,
      (
        refl,
        g.1.0,
        g.1.1,
        λ e c.
            let less : suc most - 1 ≡ most = omega arith in
            g.0 (c.1.2.0, (c.1.0, c.1.1, up_to-back true most p x c.1.0 c.1.2.0 (rw less at c.1.2.1)), c.1.2.2),
      ),
    ))
    f
up_to-way false (suc most) p x Wanted m n f = ⊎_elim
    (λ (g : (m ≡ n) × Wanted n.0). (0, (refl, g.0, g.1, λ e. absurd (true≢false (sym e)))))
    (λ (g : (HasEndIn Wanted (Goes x Empty) m.0 → ⊥) × IsFirstWay x (Then p (up_to false most p)) Wanted m n).
    more most false p x Wanted m n (λ e w. g.0 (m.0, refl, w)) (up_to-way false most p) g.1)
    f

less_once : (max : Option ℕ) (n : ℕ) → limit_less max (suc n) ≡ limit_less (limit_after max) n
less_once None n = refl
less_once (Some max) n = let same : max - suc n ≡ max - 1 - n = omega arith in ap (λ (k : ℕ). Some k) same

-- k times, and then at least l times
pub counted-way : (k l : ℕ) (max : Option ℕ) (greedy : Bool) (p : Pattern)
    → HasFirstWay (Then (copies k p) (Repeat l (limit_less max k) greedy p)) (Repeat (k + l) max greedy p)
counted-way zero l max greedy p x Wanted m n f =
    let here : IsFirstWay x (Repeat l (limit_less max 0) greedy p) Wanted m n =
    subst (λ (z : Point). IsFirstWay x (Repeat l (limit_less max 0) greedy p) Wanted z n) (sym f.1.0) f.2 in
    let none : zero + l ≡ l = omega arith in
    rw none (rw (no_less max) at here)
counted-way (suc k) l max greedy p x Wanted m n f =
    let g : IsFirstWay x (Then (Then p (copies k p)) (Repeat l (limit_less (limit_after max) k) greedy p)) Wanted m n = rw (less_once max k) at f in
    let rest = counted-way k l (limit_after max) greedy p x Wanted g.1.0 n (g.0, g.1.2, g.2) in
    let one : suc k + l - 1 ≡ k + l = omega arith in (
      suc rest.0,
      (
        may max,
        λ e none. absurd (omega (arith, none)),
        g.1.0,
        rw one (way-alike x p (HasEndIn (HasEndIn Wanted (Goes x (Repeat l (limit_less (limit_after max) k) greedy p))) (Goes x (copies k p)))
            (HasEndIn Wanted (SomeTimes (Goes x p) (k + l) (limit_after max))) m g.1.0
            (λ i e. (e.2.0, counted-is k l (limit_after max) greedy p x i e.2.0 (e.0, e.1, e.2.1), e.2.2))
            (λ i e. let h = counted-back k l (limit_after max) greedy p x i e.0 e.1 in (h.0, h.1, (e.0, h.2, e.2))) g.1.1),
        rw one rest.1,
      ),
    )
  where
    may : (max : Option ℕ) → MayRepeat (suc k + l) max
    may None = tt
    may (Some max) = inl (omega arith)

-- ---- the same ways, in any order

TimesWith-add : (R : Point → Point → Type 0) (k l : ℕ) (m between n : Point) → TimesWith R k m between → TimesWith R l between n
    → TimesWith R (k + l) m n
TimesWith-add R zero l m between n x y =
    let same : zero + l ≡ l = omega arith in
    rw same (subst (λ (z : Point). TimesWith R l z n) (sym x) y)
TimesWith-add R (suc k) l m between n x y =
    let same : suc k + l ≡ suc (k + l) = omega arith in
    rw same (x.0, x.1, TimesWith-add R k l x.0 between n x.2 y)

copies-times_with : (x : Subject) (p : Pattern) (k : ℕ) (m n : Point) → GoesWith x (copies k p) m n → TimesWith (GoesWith x p) k m n
copies-times_with x p zero m n g = g
copies-times_with x p (suc k) m n g = (g.0, g.1, copies-times_with x p k g.0 n g.2)

optional-with : (greedy : Bool) (p : Pattern) (x : Subject) (m n : Point) → GoesWith x (optional greedy p) m n → GoesWith x p m n ⊎ (m ≡ n)
optional-with true p x m n g = g
optional-with false p x m n g = ⊎_elim (λ (h : m ≡ n). inr h) (λ (h : GoesWith x p m n). inl h) g

up_to-times_with : (x : Subject) (greedy : Bool) (p : Pattern) (most : ℕ) (m n : Point) → GoesWith x (up_to greedy most p) m n
    → (k : ℕ) × (k ≤ most) × TimesWith (GoesWith x p) k m n
up_to-times_with x greedy p zero m n g = (0, omega arith, g)
up_to-times_with x greedy p (suc most) m n g = ⊎_elim
    (λ (h : GoesWith x (Then p (up_to greedy most p)) m n).
    let r = up_to-times_with x greedy p most h.0 n h.2 in (suc r.0, omega (arith, r.1), (h.0, h.1, r.2)))
    (λ (h : m ≡ n). (0, omega arith, h))
    (optional-with greedy (Then p (up_to greedy most p)) x m n g)

-- a way of the one is one of the other
abbrev pub HasWays : Pattern → Pattern → Type 0
HasWays p q = (x : Subject) (m n : Point) → GoesWith x p m n → GoesWith x q m n

pub class-ways : (a b : ℕ) (rest : List (ℕ × ℕ)) → HasWays (Either (Class ((a, b) ∷ [])) (Class rest)) (Class ((a, b) ∷ rest))
class-ways a b rest x m n f = ⊎_elim
    (λ (g : GoesWith x (Class ((a, b) ∷ [])) m n). (class-is a b rest x m.0 n.0 (inl g.0), g.1))
    (λ (g : GoesWith x (Class rest) m n). (class-is a b rest x m.0 n.0 (inr g.0), g.1))
    f

pub literal-ways : (b : ℕ) (rest : List ℕ) → HasWays (Then (Class ((b, b) ∷ [])) (Literal rest)) (Literal (b ∷ rest))
literal-ways b rest x m n f = (literal-is b rest x m.0 n.0 (f.0.0, f.1.0, f.2.0), f.1.1 ∙ f.2.1)

pub literal_none-ways : HasWays Empty (Literal [])
literal_none-ways x m n e = (ap (λ (k : Point). k.0) e, ap (λ (k : Point). k.1) e)

pub star-ways : (greedy : Bool) (p : Pattern) → HasWays (optional greedy (Repeat 1 None greedy p)) (Repeat 0 None greedy p)
star-ways greedy p x m n g = ⊎_elim
    (λ (h : GoesWith x (Repeat 1 None greedy p) m n). (h.0, omega arith, tt, h.3))
    (λ (h : m ≡ n). (0, omega arith, tt, h))
    (optional-with greedy (Repeat 1 None greedy p) x m n g)

pub plus-ways : (greedy : Bool) (p : Pattern) → HasWays (Then p (Repeat 0 None greedy p)) (Repeat 1 None greedy p)
plus-ways greedy p x m n g = (suc g.2.0, omega arith, tt, (g.0, g.1, g.2.3))

pub up_to-ways : (greedy : Bool) (most : ℕ) (p : Pattern) → HasWays (up_to greedy most p) (Repeat 0 (Some most) greedy p)
up_to-ways greedy most p x m n g = let r = up_to-times_with x greedy p most m n g in (r.0, omega arith, inl r.1, r.2)

pub counted-ways : (k l : ℕ) (max : Option ℕ) (greedy : Bool) (p : Pattern)
    → HasWays (Then (copies k p) (Repeat l (limit_less max k) greedy p)) (Repeat (k + l) max greedy p)
counted-ways k l max greedy p x m n g =
    (k + g.2.0, omega (arith, g.2.1), most max g.2.0 g.2.2, TimesWith-add (GoesWith x p) k g.2.0 m g.0 n (copies-times_with x p k m g.0 g.1) g.2.3)
  where
    most : (max : Option ℕ) (r : ℕ) → IsAtMost l (limit_less max k) r → IsAtMost (k + l) max (k + r)
    most None r h = tt
    most (Some max) r h = ⊎_elim
        (λ (h : r ≤ max - k). ⊎_elim (λ (a : max < k). inr (omega (arith, a, h))) (λ (a : k ≤ max). inl (omega (arith, a, h))) (cases_lt max k))
        (λ (h : r ≤ l). inr (omega (arith, h)))
        h
