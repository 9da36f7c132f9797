-- Lists of consecutive numbers: their parts, and what a test finds in them.
use Rattle.std.proofs.Common.{◌≡◌, ℕ, zero, suc, ◌+◌, ◌<◌, ◌≤◌, Bool, true, false, [], ◌∷◌, ◌++◌, filter, cond, refl, ap, ◌∙◌, arith, nat_eq, ◌||◌}
use Rattle.std.specs.List.{range_with_len, list_any}
use Rattle.std.proofs.lemmas.Bool.Decides.{nat_tests}

-- a range in two parts
pub range_append : (a n m : ℕ) → range_with_len a (n + m) ≡ range_with_len a n ++ range_with_len (a + n) m
range_append a zero m = let e : zero + m ≡ m = omega arith in let f : a + zero ≡ a = omega arith in rw (e, f)
range_append a (suc n) m =
    let e : suc n + m ≡ suc (n + m) = omega arith in
    let f : a + 1 + n ≡ a + suc n = omega arith in
    rw e (ap (λ t. a ∷ t) (range_append (a + 1) n m ∙ ap (λ x. range_with_len (a + 1) n ++ range_with_len x m) f))

-- a test that a number of a range passes is passed by one of the range
pub range_any : (p : ℕ → Bool) (a n k : ℕ) → a ≤ k → k < a + n → p k ≡ true → list_any p (range_with_len a n) ≡ true
range_any p a zero k low high h = absurd (omega arith)
range_any p a (suc n) k low high h =
    elim (nat_eq a k) as (λ v. nat_eq a k ≡ v → list_any p (range_with_len a (suc n)) ≡ true) [
      | true ↦ λ e. let same : a ≡ k = grind (arith, nat_tests) in rw same (rw h)
      | false ↦ λ e. let later : list_any p (range_with_len (a + 1) n) ≡ true = range_any p (a + 1) n k (grind (arith, nat_tests)) (omega arith) h in
          elim (p a) as (λ v. (v || list_any p (range_with_len (a + 1) n)) ≡ true) [ true ↦ refl | false ↦ later ]
    ] refl

-- a test that fails at each number of a range keeps none of them
pub range_filter_none : (p : ℕ → Bool) (a n : ℕ) → ((k : ℕ) → a ≤ k → k < a + n → p k ≡ false) → filter p (range_with_len a n) ≡ []
range_filter_none p a zero each = refl
range_filter_none p a (suc n) each = rw (each a (omega arith) (omega arith)) (range_filter_none p (a + 1) n (λ k l h. each k (omega arith) (omega arith)))

-- two tests that agree on a range keep the same
pub range_filter_same : (p q : ℕ → Bool) (a n : ℕ) → ((k : ℕ) → a ≤ k → k < a + n → p k ≡ q k)
    → filter p (range_with_len a n) ≡ filter q (range_with_len a n)
range_filter_same p q a zero each = refl
range_filter_same p q a (suc n) each =
    rw (each a (omega arith) (omega arith))
    (ap (λ t. cond (q a) (a ∷ t) t) (range_filter_same p q (a + 1) n (λ k l h. each k (omega arith) (omega arith))))
