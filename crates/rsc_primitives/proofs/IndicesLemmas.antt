-- The iterator over the first indices: what is left of it after some.
use Rattle.std.proofs.Common.{◌≡◌, ℕ, suc, ◌+◌, ◌-◌, ◌≤◌, ◌<◌, [], ◌∷◌, refl, arith}
use Rattle.std.specs.List.{All, range_with_len}
use Rattle.std.proofs.lemmas.List.FromFn.{length-range_with_len, get_or-range_with_len}
use Rattle.std.proofs.lemmas.List.Elements.{All-from_get_or}

range_first : (a n m : ℕ) → n ≡ suc m → range_with_len a n ≡ a ∷ range_with_len (a + 1) m
range_first a n m e = rw e refl

-- the first index of a range that isn't empty, and the rest
pub range_left_first : (a b : ℕ) → a < b → range_with_len a (b - a) ≡ a ∷ range_with_len (a + 1) (b - (a + 1))
range_left_first a b h = range_first a (b - a) (b - (a + 1)) (omega (arith, h))

-- an empty range
pub range_left_none : (a b : ℕ) → b ≤ a → range_with_len a (b - a) ≡ []
range_left_none a b h = let e : b - a ≡ 0 = omega (arith, h) in rw e refl

-- each index that is left is below the length
pub indices_below : (a n : ℕ) → All (λ k. k < n) (range_with_len a (n - a))
indices_below a n =
    All-from_get_or (λ k. k < n) (range_with_len a (n - a)) 0 (λ i l.
    let small : i < n - a = rw (length-range_with_len a (n - a)) at l in
    let is = get_or-range_with_len a (n - a) i 0 small in
    rw is (omega (arith, small)))
