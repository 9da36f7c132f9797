use Rattle.std.proofs.Common.{nat_eq, ap, ◌∙◌, arith}
use Rattle.std.proofs.lemmas.Nat.Bits.{bit_at-lt, bit_at_and, bit_at_ones}
use Rattle.rsc_alphabet.proofs.masks.lower_block.Goals as goal

pub returns : goal.returns
returns c = λ i l. ap (λ x. nat_eq x 1) (bit_at_and c.args.mask _ i ∙ rw (bit_at_ones 64 i l) (omega (arith, bit_at-lt c.args.mask i)))
