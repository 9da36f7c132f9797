use Rattle.std.proofs.Common.{◌≡◌, ◌+◌, ◌%◌, refl, ap, arith, ◌∙◌, nat_eq, ne_eqb}
use Rattle.std.proofs.lemmas.Nat.Bits.{bit_at-zero}
use Rattle.rsc_alphabet.proofs.ByteSetLayoutLemmas.{has_bit_halves, has_bit_one, eqb_shifted}
use Rattle.rsc_alphabet.proofs.masks.one_bit.Goals as goal

pub returns-then-bit-lt64 : goal.returns-then-bit-lt64
returns-then-bit-lt64 c =
    let e : c.args.bit % 64 ≡ c.args.bit = omega arith in
    has_bit_halves (λ i. nat_eq i c.args.bit) _ _ _ c.joined.ensures.below c.joined.ensures.above
    (λ i l. has_bit_one (c.args.bit % 64) 64 i (omega arith) ∙ ap (nat_eq i) e)
    (λ i. rw (bit_at-zero i, ne_eqb (64 + i) c.args.bit (λ e. omega arith)) refl)

pub returns-else-bit-lt64 : goal.returns-else-bit-lt64
returns-else-bit-lt64 c =
    let joined = c.joined-else-bit-lt64.ensures in
    let e : 64 + c.args.bit % 64 ≡ c.args.bit = omega (arith, c.requires) in
    has_bit_halves (λ i. nat_eq i c.args.bit) _ _ _ joined.below joined.above
    (λ i l. rw (bit_at-zero i, ne_eqb i c.args.bit (λ e. omega arith)) refl)
    (λ i. has_bit_one (c.args.bit % 64) 64 i (omega arith) ∙ eqb_shifted i (c.args.bit % 64) 64 c.args.bit e)
