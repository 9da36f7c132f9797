use Rattle.std.proofs.Common.{◌<◌, ◌^◌, ◌+◌, refl}
use Rattle.rsc_search.specs.BlockLayout.{block_of}
use Rattle.rsc_search.proofs.BlockLayoutLemmas.{whole_from, order_from, clear_from}
use Rattle.rsc_search.proofs.blocks.first_from.Goals as goal

pub loop-block-preserved : goal.loop-block-preserved
loop-block-preserved c =
    let fits : block_of c.args.blocks.now (c.loop-block.found + 1) < 2 ^ 64 = (c.type_inv.blocks (c.loop-block.found + 1)).fits in
    record {
      fits = fits;
      is_rest = whole_from c.args.blocks.now (c.loop-block.found + 1) _ refl;
      order = order_from c.args.blocks.now c.args.index c.args.rest c.loop-block.found _ fits (rw c.loop-block-test.true at c.loop-block.invariant.order);
      clear = clear_from c.args.blocks.now c.args.index c.args.rest c.loop-block.found _ fits refl (rw c.loop-block-test.true at c.loop-block.invariant.clear);
    }
