use Rattle.std.proofs.Common.{◌-◌}
use Rattle.rsc_search.proofs.BlockLayoutLemmas.{whole_to, order_to, clear_to}
use Rattle.rsc_search.proofs.blocks.last_until.Goals as goal

pub loop-block-preserved : goal.loop-block-preserved
loop-block-preserved c = record {
  fits = c.block_at-block.type_inv;
  is_rest = whole_to c.args.blocks.now (c.loop-block.found - 1) c.block_at-block.result c.block_at-block.ensures;
  order = order_to c.args.blocks.now c.args.index c.args.rest c.loop-block.found c.block_at-block.result c.block_at-block.type_inv c.if-found-gt0.true
      (rw c.loop-block-test.true at c.loop-block.invariant.order);
  clear = clear_to c.args.blocks.now c.args.index c.args.rest c.loop-block.found c.block_at-block.result c.block_at-block.type_inv c.if-found-gt0.true
      c.block_at-block.ensures (rw c.loop-block-test.true at c.loop-block.invariant.clear);
}
