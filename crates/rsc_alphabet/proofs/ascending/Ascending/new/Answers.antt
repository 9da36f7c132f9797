use Rattle.std.proofs.Common.{arith}
use Rattle.rsc_alphabet.proofs.ByteSetLayoutLemmas.{whole_block, whole_block_fits}
use Rattle.rsc_alphabet.proofs.ascending.Ascending.new.Goals as goal

pub invariant_of-result : goal.invariant_of-result
invariant_of-result c = (omega arith, whole_block_fits 0 c.block.result (omega arith) (omega (arith, c.block.type_inv)))

pub returns : goal.returns
returns c = whole_block c.args.set 0 c.block.result (omega arith) c.block.ensures.bits
