-- Where greedy and lazy parts end.
use Rattle.std.proofs.Common.{◌≡◌, ℕ, zero, suc, ◌+◌, ◌-◌, ◌<◌, ◌≤◌, ⊎_elim, Bool, true, false, ◌||◌, ◌&&◌, nat_le, true≢false, List, [], ◌∷◌, length, slice_get, slice_index_or, refl, sym, subst, arith, Option, Some, None}
use Rattle.std.proofs.lemmas.Bool.{cases_eq, cases_lt, le-leb}
use Rattle.std.proofs.lemmas.Option.{slice_get_within}
use Rattle.rsc_nfa.specs.Steps.{is_between}
use Rattle.rsc_engine.specs.Patterns.{Pattern, Class, Literal, Then, Repeat, Subject, Times, Goes}
use Rattle.rsc_engine.specs.FirstEnds.{HasEndIn, AreFirstTimes, IsFirstEnd}

one_of_one : (b : Bool) → (b || false) ≡ true → b ≡ true
one_of_one true h = refl
one_of_one false h = h

one_is_one : (b : Bool) → b ≡ true → (b || false) ≡ true
one_is_one true h = refl
one_is_one false h = absurd (true≢false (sym h))

-- a range of bytes
abbrev Range : ℕ → ℕ → Pattern
Range a b = Class ((a, b) ∷ [])

-- the first times of a range
abbrev AreRanges : Subject → ℕ → ℕ → Bool → ℕ → ℕ → (ℕ → Type 0) → ℕ → ℕ → Type 0
AreRanges x a b greedy n min Wanted i j =
    AreFirstTimes (λ Such k l. IsFirstEnd x (Range a b) Such k l) (Goes x (Range a b)) greedy n min None Wanted i j

there_is_one : (h : List ℕ) (a b k : ℕ) → is_between a b (slice_get h k) ≡ true → k < length h
there_is_one h a b k e = go (slice_get h k) refl e
  where
    go : (o : Option ℕ) → slice_get h k ≡ o → is_between a b o ≡ true → k < length h
    go None is e = absurd (true≢false (sym e))
    go (Some y) is e = slice_get_within h k y is

after : (i k m : ℕ) → m ≡ i + 1 → i ≤ k → ((k ≡ i) → ⊥) → m ≤ k
after i k m e from apart = ⊎_elim (λ (l : i < k). omega (arith, l, e)) (λ (l : k ≤ i). absurd (apart (omega (arith, l, from)))) (cases_lt i k)

-- each byte of the run is in the range
pub run_bytes : (x : Subject) (a b n min i j k : ℕ) (greedy : Bool) (Wanted : ℕ → Type 0) → AreRanges x a b greedy n min Wanted i j → i ≤ k
    → k < j
    → is_between a b (slice_get x.haystack k) ≡ true
run_bytes x a b zero min i j k greedy Wanted f from to = absurd (omega (arith, f.1, from, to))
run_bytes x a b (suc n) min i j k greedy Wanted f from to = ⊎_elim
    (λ (e : k ≡ i). rw e (one_of_one (is_between a b (slice_get x.haystack i)) f.3.0.0))
    (λ (apart : (k ≡ i) → ⊥). run_bytes x a b n (min - 1) f.2 j k greedy Wanted f.4 (after i k f.2 f.3.0.1 from apart) to)
    (cases_eq k i)

-- and the one after it isn't
pub run_ends : (x : Subject) (a b n min i j : ℕ) → AreRanges x a b true n min (λ k. k ≤ length x.haystack) i j
    → is_between a b (slice_get x.haystack j) ≡ true → ⊥
run_ends x a b zero min i j f e =
    f.3 refl (
      tt,
      (
        i + 1,
        (one_is_one (is_between a b (slice_get x.haystack i)) (rw f.1 e), refl),
        (i + 1, (0, zero_least f.0, tt, refl), let l = there_is_one x.haystack a b j e in omega (arith, l, f.1)),
      ),
    )
  where
    zero_least : min ≡ 0 → min - 1 ≤ 0
    zero_least z = omega (arith, z)
run_ends x a b (suc n) min i j f e = run_ends x a b n (min - 1) f.2 j f.4 e

times_forward : (x : Subject) (a b n min i j : ℕ) (greedy : Bool) (Wanted : ℕ → Type 0) → AreRanges x a b greedy n min Wanted i j → i ≤ j
times_forward x a b zero min i j greedy Wanted f = omega (arith, f.1)
times_forward x a b (suc n) min i j greedy Wanted f =
    let more = times_forward x a b n (min - 1) f.2 j greedy Wanted f.4 in omega (arith, more, f.3.0.1)

-- what comes seldom comes no more where it can be left
pub left_first : (x : Subject) (a b n i j k : ℕ) (Wanted : ℕ → Type 0) → AreRanges x a b false n 0 Wanted i j → i ≤ k → k < j → Wanted k → ⊥
left_first x a b zero i j k Wanted f from to w = absurd (omega (arith, f.1, from, to))
left_first x a b (suc n) i j k Wanted f from to w = ⊎_elim
    (λ (e : k ≡ i). f.1 refl refl (subst Wanted e w))
    (λ (apart : (k ≡ i) → ⊥). left_first x a b n f.2 j k Wanted f.4 (after i k f.2 f.3.0.1 from apart) to w)
    (cases_eq k i)

-- ---- a run, and what is quoted

pub a_run_is_in_range : (x : Subject) (a b i j k : ℕ) → IsFirstEnd x (Repeat 1 None true (Range a b)) (λ l. l ≤ length x.haystack) i j → i ≤ k
    → k < j
    → is_between a b (slice_get x.haystack k) ≡ true
a_run_is_in_range x a b i j k f from to = run_bytes x a b f.0 1 i j k true (λ l. l ≤ length x.haystack) f.1 from to

pub a_run_is_longest : (x : Subject) (a b i j : ℕ) → IsFirstEnd x (Repeat 1 None true (Range a b)) (λ l. l ≤ length x.haystack) i j
    → is_between a b (slice_get x.haystack j) ≡ true → ⊥
a_run_is_longest x a b i j f e = run_ends x a b f.0 1 i j f.1 e

pub a_run_has_a_byte : (x : Subject) (a b i j : ℕ) → IsFirstEnd x (Repeat 1 None true (Range a b)) (λ l. l ≤ length x.haystack) i j → i < j
a_run_has_a_byte x a b i j f = go f.0 f.1
  where
    go : (n : ℕ) → AreRanges x a b true n 1 (λ l. l ≤ length x.haystack) i j → i < j
    go zero g = absurd (omega (arith, g.0))
    go (suc n) g =
        let more = times_forward x a b n (1 - 1) g.2 j true (λ l. l ≤ length x.haystack) g.4 in omega (arith, more, g.3.0.1)

-- a byte of the range is a run, and within the haystack
pub one_is_a_run : (x : Subject) (a b k : ℕ) → is_between a b (slice_get x.haystack k) ≡ true
    → Goes x (Repeat 1 None true (Range a b)) k (k + 1) × (k < length x.haystack)
one_is_a_run x a b k e =
    ((1, omega arith, tt, (k + 1, (one_is_one (is_between a b (slice_get x.haystack k)) e, refl), refl)), there_is_one x.haystack a b k e)

abbrev Mark : Pattern
Mark = Literal (34 ∷ [])

abbrev pub Quoted : Pattern
Quoted = Then Mark (Then (Repeat 0 None false (Range 0 255)) Mark)

pub quoted_opens : (x : Subject) (i j : ℕ) → IsFirstEnd x Quoted (λ l. l ≤ length x.haystack) i j → slice_get x.haystack i ≡ Some 34
quoted_opens x i j f = f.1.0.0

pub quoted_closes : (x : Subject) (i j : ℕ) → IsFirstEnd x Quoted (λ l. l ≤ length x.haystack) i j
    → (at : ℕ) × (i < at) × (slice_get x.haystack at ≡ Some 34) × (j ≡ at + 1)
    × ((k : ℕ) → i < k → k < at → slice_get x.haystack k ≡ Some 34 → ⊥)
quoted_closes x i j f =
    let opened : i + 1 ≡ f.0 = f.1.0.1 in
    let times = f.2.1.1 in
    let forward = times_forward x 0 255 f.2.1.0 0 f.0 f.2.0 false (HasEndIn (λ l. l ≤ length x.haystack) (Goes x Mark)) times in (
      f.2.0,
      omega (arith, opened, forward),
      f.2.2.0.0,
      sym f.2.2.0.1,
      λ k from to mark.
          left_first x 0 255 f.2.1.0 f.0 f.2.0 k (HasEndIn (λ l. l ≤ length x.haystack) (Goes x Mark)) times (omega (arith, opened, from)) to
          (k + 1, (mark, refl), let l = slice_get_within x.haystack k 34 mark in omega (arith, l)),
    )

-- ---- what is quoted, wherever two marks are

there : (h : List ℕ) (k : ℕ) → k < length h → slice_get h k ≡ Some (slice_index_or h k 0)
there [] k l = absurd (omega (arith, l))
there (y ∷ rest) zero l = refl
there (y ∷ rest) (suc k) l = there rest k (omega (arith, l))

-- a byte is in the range of all bytes
is_byte : (o : Option ℕ) (y : ℕ) → o ≡ Some y → y ≤ 255 → is_between 0 255 o ≡ true
is_byte o y e l = rw e (both (nat_le 0 y) (nat_le y 255) (le-leb 0 y (omega arith)) (le-leb y 255 l))
  where
    both : (p q : Bool) → p ≡ true → q ≡ true → (p && q) ≡ true
    both true q e f = f
    both false q e f = absurd (true≢false (sym e))

all_bytes : (x : Subject) (n k : ℕ) → ((m : ℕ) → slice_index_or x.haystack m 0 ≤ 255) → k + n ≤ length x.haystack
    → Times (Goes x (Range 0 255)) n k (k + n)
all_bytes x zero k fits l = omega arith
all_bytes x (suc n) k fits l =
    let later : k + 1 + n ≡ k + suc n = omega arith in (
      k + 1,
      (
        one_is_one (is_between 0 255 (slice_get x.haystack k))
            (is_byte (slice_get x.haystack k) (slice_index_or x.haystack k 0) (there x.haystack k (omega (arith, l))) (fits k)),
        refl,
      ),
      subst (λ (j : ℕ). Times (Goes x (Range 0 255)) n (k + 1) j) later (all_bytes x n (k + 1) fits (omega (arith, l))),
    )

pub marks_quote : (x : Subject) (i j : ℕ) → ((m : ℕ) → slice_index_or x.haystack m 0 ≤ 255) → i < j → slice_get x.haystack i ≡ Some 34
    → slice_get x.haystack j ≡ Some 34 → Goes x Quoted i (j + 1) × (j < length x.haystack)
marks_quote x i j fits l one other =
    let within = slice_get_within x.haystack j 34 other in
    let all : i + 1 + (j - (i + 1)) ≡ j = omega (arith, l) in (
      (
        i + 1,
        (one, refl),
        (
          j,
          (
            j - (i + 1),
            omega arith,
            tt,
            subst (λ (k : ℕ). Times (Goes x (Range 0 255)) (j - (i + 1)) (i + 1) k) all
                (all_bytes x (j - (i + 1)) (i + 1) fits (omega (arith, all, within))),
          ),
          (other, refl),
        ),
      ),
      within,
    )
