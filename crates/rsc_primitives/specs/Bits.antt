-- Numbers by their bits.
use Rattle.std.specs.Prelude.{ℕ, zero, suc, ◌+◌, ◌*◌, ◌^◌, ◌==◌, Bool, if◌then◌else◌}
use Rattle.std.specs.Int.{bit_at}

-- bit i of n is 1
abbrev pub has_bit : ℕ → ℕ → Bool
has_bit n i = bit_at n i == 1

-- the number whose n lowest bits are 1 where the test gives true
unfoldable pub mask_of : (ℕ → Bool) → ℕ → ℕ
mask_of p zero = 0
mask_of p (suc n) = (if p n then 1 else 0) * 2 ^ n + mask_of p n
