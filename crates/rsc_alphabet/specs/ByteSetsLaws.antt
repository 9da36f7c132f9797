-- What two numbers of 128 bits say of a set of bytes.
use Rattle.std.proofs.Common.{◌≡◌, ℕ, ◌+◌, ◌-◌, ◌^◌, ◌<◌, ◌≤◌, Bool, false, ◌&&◌, filter, refl, ap, ◌∙◌, arith, nat_eq, ⊎_elim}
use Rattle.std.specs.List.{list_any}
use Rattle.std.specs.FinSet as sets
use Rattle.std.specs.FinSet.{contains-from_list_nat}
use Rattle.std.proofs.lemmas.Bool.{cases_lt, eq-eqb, lt-ltb, le-ltb, eqb-true}
use Rattle.std.proofs.lemmas.Nat.Bits.{bit_at_above}
use Rattle.std.proofs.Math.Bool.{and-true}
use Rattle.std.proofs.lemmas.Map.Views.{any-filter_same}
use Rattle.rsc_alphabet.specs.Bytes.{from_to, bytes}
use Rattle.rsc_primitives.specs.Bits.{has_bit, mask_of}
use Rattle.rsc_primitives.specs.BitsLaws.{mask_of_bits}
use Rattle.rsc_alphabet.specs.ByteSetLayout.{is_masked, masked}
use Rattle.rsc_alphabet.specs.BytesLaws.{any_from_to}

-- the numbers of a range at which p gives true have q among them exactly if p gives true at q
pub any_kept : (p : ℕ → Bool) (high q : ℕ) → (high ≤ q → p q ≡ false) → list_any (λ y. nat_eq y q) (filter p (from_to 0 high)) ≡ p q
any_kept p high q past =
    any-filter_same (λ y. nat_eq y q) p (p q) (λ y same. ap p (eqb-true y q same)) (from_to 0 high) ∙ ⊎_elim
    (λ (inside : q < high). ap (λ b. p q && b) (any_from_to (λ y. nat_eq y q) 0 high q (omega arith) inside (eq-eqb q q refl)) ∙ and-true (p q))
    (λ (h : high ≤ q). rw (past h) refl)
    (cases_lt q high)

-- ---- the bytes whose bit is 1

pub is_masked-low : (low high b : ℕ) → b < 128 → is_masked low high b ≡ has_bit low b
is_masked-low low high b l = rw (lt-ltb b 128 l) refl

pub is_masked-high : (low high b : ℕ) → 128 ≤ b → is_masked low high b ≡ has_bit high (b - 128)
is_masked-high low high b l = rw (le-ltb b 128 l) refl

pub is_masked-past : (low high b : ℕ) → high < 2 ^ 128 → 256 ≤ b → is_masked low high b ≡ false
is_masked-past low high b fits l = is_masked-high low high b (omega arith) ∙ rw (bit_at_above high 128 (b - 128) fits (omega arith)) refl

pub contains-masked : (low high : ℕ) → high < 2 ^ 128 → (q : ℕ) → sets.contains (masked low high) q ≡ is_masked low high q
contains-masked low high fits q =
    contains-from_list_nat (filter (is_masked low high) bytes) q ∙ any_kept (is_masked low high) 256 q (λ l. is_masked-past low high q fits l)

-- ---- from a set back to its numbers

pub low_again : (low high : ℕ) → low < 2 ^ 128 → high < 2 ^ 128 → mask_of (sets.contains (masked low high)) 128 ≡ low
low_again low high fl fh =
    mask_of_bits low 128 (sets.contains (masked low high)) fl (λ i l. contains-masked low high fh i ∙ is_masked-low low high i l)

pub high_again : (low high : ℕ) → high < 2 ^ 128 → mask_of (λ b. sets.contains (masked low high) (b + 128)) 128 ≡ high
high_again low high fh =
    mask_of_bits high 128 (λ b. sets.contains (masked low high) (b + 128)) fh (λ i l.
    let e : i + 128 - 128 ≡ i = omega arith in
    contains-masked low high fh (i + 128) ∙ is_masked-high low high (i + 128) (omega arith) ∙ ap (has_bit high) e)
