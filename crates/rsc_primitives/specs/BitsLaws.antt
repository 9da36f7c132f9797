-- A number of n bits is made of them.
use Rattle.std.proofs.Common.{◌≡◌, ℕ, zero, suc, ◌+◌, ◌-◌, ◌*◌, ◌^◌, ◌<◌, ◌≤◌, Bool, true, false, cond, refl, ap, ◌∙◌, arith, nat_eq, ⊎_elim}
use Rattle.std.specs.Int.{bit_at}
use Rattle.std.proofs.lemmas.Bool.{cases_lt}
use Rattle.std.proofs.lemmas.Nat.Bits.{bit_at-lt, bit_at_cat_low, bit_at_cat_high, same_from_bits_below}
use Rattle.std.proofs.Math.Nat.{pow-suc}
use Rattle.rsc_primitives.specs.Bits.{has_bit, mask_of}

-- it fits in n bits
pub mask_of-lt : (p : ℕ → Bool) (n : ℕ) → mask_of p n < 2 ^ n
unfolding mask_of
mask_of-lt p zero = omega arith
mask_of-lt p (suc n) = rw (pow-suc 2 n) (fits (cond (p n) 1 0) (2 ^ n) (mask_of p n) (digit-lt (p n)) (mask_of-lt p n))
  where
    digit-lt : (b : Bool) → cond b 1 0 < 2
    digit-lt true = omega arith
    digit-lt false = omega arith

    fits : (d w r : ℕ) → d < 2 → r < w → d * w + r < w * 2
    fits zero w r l h = omega arith
    fits (suc zero) w r l h = omega arith
    fits (suc (suc d)) w r l h = absurd (omega arith)

-- each of its n lowest bits is what the test says
pub has_bit-mask_of : (p : ℕ → Bool) (n i : ℕ) → i < n → has_bit (mask_of p n) i ≡ p i
unfolding mask_of
has_bit-mask_of p zero i l = absurd (omega arith)
has_bit-mask_of p (suc n) i l =
    ⊎_elim
    (λ (h : i < n). ap (λ x. nat_eq x 1) (bit_at_cat_low (cond (p n) 1 0) n (mask_of p n) i h) ∙ has_bit-mask_of p n i h)
    (λ (h : n ≤ i). let e : i ≡ n = omega arith in let z : n - n ≡ 0 = omega arith in
    rw e (ap (λ x. nat_eq x 1) (bit_at_cat_high (cond (p n) 1 0) n (mask_of p n) n (mask_of-lt p n) (omega arith) ∙ ap (bit_at (cond (p n) 1 0)) z)
    ∙ top (p n)))
    (cases_lt i n)
  where
    top : (b : Bool) → nat_eq (bit_at (cond b 1 0) 0) 1 ≡ b
    top true = refl
    top false = refl

-- two bits are equal if both or neither is 1
pub same_digit : (x y : ℕ) → x < 2 → y < 2 → nat_eq x 1 ≡ nat_eq y 1 → x ≡ y
same_digit zero zero lx ly e = refl
same_digit zero (suc zero) lx ly e = cc
same_digit (suc zero) zero lx ly e = cc
same_digit (suc zero) (suc zero) lx ly e = refl
same_digit (suc (suc x)) y lx ly e = absurd (omega arith)
same_digit x (suc (suc y)) lx ly e = absurd (omega arith)

-- a number of n bits is made of its bits
pub mask_of_bits : (mask n : ℕ) (p : ℕ → Bool) → mask < 2 ^ n → ((i : ℕ) → i < n → p i ≡ has_bit mask i) → mask_of p n ≡ mask
mask_of_bits mask n p fits same =
    same_from_bits_below n (mask_of p n) mask (mask_of-lt p n) fits (λ i l.
    same_digit (bit_at (mask_of p n) i) (bit_at mask i) (bit_at-lt _ i) (bit_at-lt mask i) (has_bit-mask_of p n i l ∙ same i l))
