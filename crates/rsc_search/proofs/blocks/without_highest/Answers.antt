use Rattle.std.proofs.Common.{arith}
use Rattle.rsc_search.specs.BlockLayout.{highest_bit}
use Rattle.rsc_search.proofs.BlockLayoutLemmas.{bit_taken, highest_set, length_some}
use Rattle.rsc_search.proofs.blocks.without_highest.Goals as goal

pub returns : goal.returns
returns c =
    rw c.highest.ensures
    (bit_taken c.args.block (highest_bit c.args.block) (omega arith)
    (highest_set c.args.block c.ranges.block.fits (omega (arith, length_some c.args.block c.requires c.ranges.block.fits))))
