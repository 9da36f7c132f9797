use Rattle.std.proofs.Common.{nat_eq, ap}
use Rattle.rsc_alphabet.proofs.ByteSetLayoutLemmas.{bit_at_shl}
use Rattle.rsc_alphabet.proofs.masks.block_shifted_left.Goals as goal

pub returns-clause-others : goal.returns-clause-others
returns-clause-others c = λ i low high. ap (λ x. nat_eq x 1) (bit_at_shl c.args.block 1 64 i low high)
