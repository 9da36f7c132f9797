use Rattle.std.proofs.Common.{arith, w64}
use Rattle.std.specs.Int.{leading_zeros}
use Rattle.rsc_search.proofs.BlockLayoutLemmas.{length_some, bit_by_xor}
use Rattle.rsc_search.proofs.blocks.highest.Goals as goal

pub returns : goal.returns
returns c = bit_by_xor (leading_zeros w64 c.args.block) (omega (arith, length_some c.args.block c.requires c.ranges.block.fits))
