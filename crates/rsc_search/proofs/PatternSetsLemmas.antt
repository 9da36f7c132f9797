-- The numbers of a range that pass a test, and the test of membership.
use Rattle.std.proofs.Common.{◌≡◌, ◌≢◌, ℕ, zero, suc, ◌+◌, ◌-◌, ◌<◌, ◌≤◌, Bool, true, false, cond, ◌||◌, List, [], ◌∷◌, ◌++◌, length, refl, ap, ◌∙◌, arith, append-nil, eqb, leb, ltb, inl, inr, ◌&&◌, ◌↔◌, get_or, sym, All}
use Rattle.std.proofs.Math.Bool.{and-true}
use Rattle.std.proofs.lemmas.Bool.{cases_eq, cases_lt, eqb-true, le-leb, lt-ltb, cases_Bool, eq-eqb, ne_eqb}
use Rattle.std.proofs.lemmas.Bool.Decides.{nat_tests, Decides-eqb}
use Rattle.std.proofs.lemmas.Map.Views.{any-filter_same, Contains-from_any}
use Rattle.std.proofs.lemmas.List.Elements.{filter-append, All-cons, All-head, All-tail, All-weaker}
use Rattle.std.proofs.lemmas.List.FromFn.{length-range_with_len}
use Rattle.std.proofs.lemmas.List.Sums.{count_by-le-length, length-filter}
use Rattle.std.specs.List.{filter, range_with_len, AllPairs, Contains}
use Rattle.rsc_primitives.specs.RangesLaws.{range_append, range_filter_none, range_filter_same}
use Rattle.rsc_search.specs.PatternSets.{has_member, PatternSetParts, IsPatternSet, numbers_below, with_member}
use Rattle.std.proofs.lemmas.List.Folds.{list_any_at}
use Rattle.std.proofs.lemmas.List.Kept.{AllPairs-from_increasing}
use Rattle.std.specs.List.Sorted.{IsStrictlyIncreasing}

-- ---- the numbers of a range that pass a test

range_longer : (a n q : ℕ) → (eqb a q || (leb (a + 1) q && ltb q (a + 1 + n))) ≡ (leb a q && ltb q (a + suc n))
range_longer a n q = grind (arith, nat_tests)

in_range : (a n q : ℕ) → has_member (range_with_len a n) q ≡ (leb a q && ltb q (a + n))
in_range a zero q = grind (arith, nat_tests)
in_range a (suc n) q = rw (in_range (a + 1) n q) (range_longer a n q)

module _ (t : ℕ → Bool) where
  -- a number is among the passing ones exactly if it passes and is in the range
  pub member_is : (a n q : ℕ) → has_member (filter t (range_with_len a n)) q ≡ (t q && (leb a q && ltb q (a + n)))
  member_is a n q =
      any-filter_same (λ p. eqb p q) t (t q) (λ p same. ap t (eqb-true p q same)) (range_with_len a n) ∙ ap (λ b. t q && b) (in_range a n q)

  -- a number of the range is listed exactly if it passes
  pub member_in : (a n q : ℕ) → a ≤ q → q < a + n → has_member (filter t (range_with_len a n)) q ≡ t q
  member_in a n q from below = member_is a n q ∙ rw (le-leb a q from, lt-ltb q (a + n) below) (and-true (t q))

  cut_at : (a c b : ℕ) → a ≤ c → c ≤ b
      → filter t (range_with_len a (b - a)) ≡ filter t (range_with_len a (c - a)) ++ filter t (range_with_len c (b - c))
  cut_at a c b from to =
      let parts : b - a ≡ (c - a) + (b - c) = omega arith in
      let there : a + (c - a) ≡ c = omega arith in
      rw parts (ap (filter t) (range_append a (c - a) (b - c)) ∙ filter-append t (range_with_len a (c - a)) (range_with_len (a + (c - a)) (b - c))
      ∙ rw there refl)

  -- from a on and below b: nothing between a and c passes, so it may begin at c
  pub skip_front : (a c b : ℕ) → a ≤ c → ((q : ℕ) → a ≤ q → q < c → t q ≡ false)
      → filter t (range_with_len a (b - a)) ≡ filter t (range_with_len c (b - c))
  skip_front a c b order fails =
      elim (cases_lt b c) [
        | inl short ↦
            let none : b - c ≡ 0 = omega arith in
            rw none (range_filter_none t a (b - a) (λ q from below. fails q from (omega arith)))
        | inr long ↦ cut_at a c b order long ∙ rw (range_filter_none t a (c - a) (λ q from below. fails q from (omega arith))) refl
      ]

  -- nothing between c and b passes, so it may end at c
  pub skip_back : (a c b : ℕ) → c ≤ b → ((q : ℕ) → c ≤ q → q < b → t q ≡ false)
      → filter t (range_with_len a (b - a)) ≡ filter t (range_with_len a (c - a))
  skip_back a c b order fails =
      elim (cases_lt c a) [
        | inl short ↦
            let none : c - a ≡ 0 = omega arith in
            rw none (range_filter_none t a (b - a) (λ q from below. fails q (omega arith) (omega arith)))
        | inr long ↦ cut_at a c b long order ∙ rw (range_filter_none t c (b - c) (λ q from below. fails q from (omega arith)), append-nil) refl
      ]

  -- the first and the last of the numbers that pass
  pub first_passes : (a b : ℕ) → a < b → t a ≡ true → filter t (range_with_len a (b - a)) ≡ a ∷ filter t (range_with_len (a + 1) (b - (a + 1)))
  first_passes a b lt is = let more : b - a ≡ suc (b - (a + 1)) = omega arith in rw (more, is) refl

  -- the last number of a range passes
  pub last_passes : (a p : ℕ) → a ≤ p → t p ≡ true → filter t (range_with_len a ((p + 1) - a)) ≡ filter t (range_with_len a (p - a)) ++ p ∷ []
  last_passes a p le is = let one : (p + 1) - p ≡ 1 = omega arith in cut_at a p (p + 1) le (omega arith) ∙ rw (one, is) refl

module _ (t u : ℕ → Bool) where
  -- one more number passes
  pub length_one_more : (a n p : ℕ) → a ≤ p → p < a + n → t p ≡ false → u p ≡ true → ((q : ℕ) → q ≢ p → t q ≡ u q)
      → length (filter u (range_with_len a n)) ≡ length (filter t (range_with_len a n)) + 1
  length_one_more a zero p from below out in_set others = absurd (omega arith)
  length_one_more a (suc n) p from below out in_set others =
      elim (cases_eq a p) [
        | inl here ↦
            rw (ap t here ∙ out, ap u here ∙ in_set, range_filter_same t u (a + 1) n (λ q from below. others q (λ e. absurd (omega arith)))) (omega arith)
        | inr other ↦
            let rest : length (filter u (range_with_len (a + 1) n)) ≡ length (filter t (range_with_len (a + 1) n)) + 1 =
            length_one_more (a + 1) n p (omega arith) (omega arith) out in_set others in
            rw (others a other) (elim (u a) as (λ b. length (cond b (a ∷ filter u (range_with_len (a + 1) n)) (filter u (range_with_len (a + 1) n))) ≡
            length (cond b (a ∷ filter t (range_with_len (a + 1) n)) (filter t (range_with_len (a + 1) n))) + 1) [ true ↦ omega arith | false ↦ rest ])
      ]

-- no more pass than there are
pub length_filter_le : (t : ℕ → Bool) (a n : ℕ) → length (filter t (range_with_len a n)) ≤ n
length_filter_le t a n =
    omega (arith, length-filter t (range_with_len a n), count_by-le-length t (range_with_len a n), length-range_with_len a n)

-- ---- the test of membership, as std says it

to_contains : (members : List ℕ) (p : ℕ) → has_member members p ≡ true → Contains members p
to_contains members p h = Contains-from_any {eq = λ q r. eqb r q} (λ q r e. sym (eqb-true r q e)) p members h

from_contains : (members : List ℕ) (p : ℕ) → Contains members p → has_member members p ≡ true
from_contains members p there = list_any_at (λ q. eqb q p) members there.0 p there.1 ((Decides-eqb (get_or members there.0 p) p).1 there.2)

-- the test of membership tells what the list contains
pub is_contained : (members : List ℕ) (p : ℕ) → (has_member members p ≡ true) ↔ Contains members p
is_contained members p = (to_contains members p, from_contains members p)

-- the first of ascending members is the least
pub first_is_least : (members rest : List ℕ) (first p : ℕ) → members ≡ first ∷ rest → IsStrictlyIncreasing members
    → has_member members p ≡ true → first ≤ p
first_is_least members rest first p parts ascends is =
    let there : Contains members p = to_contains members p is in
    let head : get_or members 0 p ≡ first = ap (λ ms. get_or ms 0 p) parts in
    elim (cases_lt 0 there.0) [
      | inl later ↦ omega (arith, head, there.2, AllPairs-from_increasing members ascends 0 there.0 p later there.1)
      | inr here ↦ let none : there.0 ≡ 0 = omega (arith, here) in omega (arith, head, rw none at there.2)
    ]

-- each member of a list is one of its members
pub all_members : (members : List ℕ) → All (λ p. has_member members p ≡ true) members
all_members members k d lt = list_any_at (λ q. eqb q (get_or members k d)) members k d lt ((Decides-eqb (get_or members k d) (get_or members k d)).1 refl)

-- ---- the members of a set are the numbers below its capacity that are members
no_member : (ms : List ℕ) (a : ℕ) → All (λ p. a < p) ms → has_member ms a ≡ false
no_member [] a above = refl
no_member (m ∷ ms) a above =
    let first : a < m = All-head (λ p. a < p) m ms above in
    rw (ne_eqb m a (λ e. omega (arith, e, first))) (no_member ms a (All-tail (λ p. a < p) m ms above))

filtered : (ms : List ℕ) (a n : ℕ) → AllPairs (λ x y. x < y) ms → All (λ p. a ≤ p) ms → All (λ p. p < a + n) ms
    → filter (has_member ms) (range_with_len a n) ≡ ms
filtered [] a n pairs low high = range_filter_none (has_member []) a n (λ q from below. refl)
filtered (m ∷ ms) a zero pairs low high = absurd (omega (arith, All-head (λ p. a ≤ p) m ms low, All-head (λ p. p < a + zero) m ms high))
filtered (m ∷ ms) a (suc n) pairs low high =
    let index : a + suc n ≡ (a + 1) + n = omega arith in
    let later : All (λ p. m < p) ms = λ k d lt. pairs zero (suc k) d (omega arith) (omega (arith, lt)) in
    let rest : AllPairs (λ x y. x < y) ms = λ i j d order lt. pairs (suc i) (suc j) d (omega (arith, order)) (omega (arith, lt)) in
    let within : All (λ p. p < (a + 1) + n) (m ∷ ms) = rw index at high in
    elim (cases_eq m a) [
      | inl here ↦
          let above : All (λ p. a + 1 ≤ p) ms = All-weaker (λ p. m < p) (λ p. a + 1 ≤ p) (λ p lt. omega (arith, here, lt)) ms later in
          let same : filter (has_member (m ∷ ms)) (range_with_len (a + 1) n) ≡ filter (has_member ms) (range_with_len (a + 1) n) =
          range_filter_same (has_member (m ∷ ms)) (has_member ms) (a + 1) n (λ q from below. rw (ne_eqb m q (λ e. omega (arith, e, here, from))) refl) in
          rw (eq-eqb m a here) (ap (λ (ps : List ℕ). a ∷ ps) (same ∙ filtered ms (a + 1) n rest above (All-tail (λ p. p < (a + 1) + n) m ms within))
          ∙ ap (λ x. x ∷ ms) (sym here))
      | inr other ↦
          let first : a ≤ m = All-head (λ p. a ≤ p) m ms low in
          let above : All (λ p. a < p) (m ∷ ms) =
          All-cons (λ p. a < p) m ms (omega (arith, other, first)) (All-weaker (λ p. m < p) (λ p. a < p) (λ p lt. omega (arith, first, lt)) ms later) in
          rw (no_member (m ∷ ms) a above) (filtered (m ∷ ms) (a + 1) n pairs
          (All-weaker (λ p. a < p) (λ p. a + 1 ≤ p) (λ p lt. omega (arith, lt)) (m ∷ ms) above) within)
    ]

-- an insertion makes at most one member more
pub one_more : (s : PatternSetParts) (p : ℕ) → IsPatternSet s → p < s.capacity
    → length (with_member s p).members ≡ cond (has_member s.members p) (length s.members) (length s.members + 1)
one_more s p is_set below =
    let within : All (λ q. q < 0 + s.capacity) s.members = λ k d lt. omega (arith, is_set.below k d lt) in
    let all : numbers_below s.capacity (has_member s.members) ≡ s.members =
    filtered s.members 0 s.capacity (AllPairs-from_increasing s.members is_set.ascending) (λ k d lt. omega arith) within in
    elim (cases_Bool (has_member s.members p)) [
      | inl is ↦ rw is
          (ap length (range_filter_same (λ q. eqb q p || has_member s.members q) (has_member s.members) 0 s.capacity (λ q from lt. had is q) ∙
          all))
      | inr out ↦ rw out (length_one_more (has_member s.members) (λ q. eqb q p || has_member s.members q) 0 s.capacity p (omega arith)
          (omega (arith, below)) out (rw (eq-eqb p p refl) refl) (λ q ne. rw (ne_eqb q p ne) refl) ∙ ap (λ (ms : List ℕ). length ms + 1) all)
    ]
  where
    had : has_member s.members p ≡ true → (q : ℕ) → (eqb q p || has_member s.members q) ≡ has_member s.members q
    had is q = elim (cases_eq q p) [ inl e ↦ rw (e, eq-eqb p p refl, is) refl | inr ne ↦ rw (ne_eqb q p ne) refl ]
