use Rattle.std.proofs.Common.{nat_eq, ap}
use Rattle.rsc_alphabet.proofs.ByteSetLayoutLemmas.{bit_at_shr}
use Rattle.rsc_alphabet.proofs.masks.upper_block.Goals as goal

pub returns : goal.returns
returns c = λ i l. ap (λ x. nat_eq x 1) (bit_at_shr c.args.mask 64 i)
