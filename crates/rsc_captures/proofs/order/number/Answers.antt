use Rattle.std.proofs.Common.{◌+◌, ◌<◌, ◌++◌, ◌∷◌, [], length, ap, sym, ◌∙◌, arith}
use Rattle.std.proofs.lemmas.List.{length-set, take_more_set}
use Rattle.rsc_captures.proofs.OrderLayoutLemmas.{counted_more}
use Rattle.rsc_captures.proofs.order.number.Goals as goal

pub loop-i-preserved : goal.loop-i-preserved
loop-i-preserved c =
    let lt : c.loop-i.i < length c.loop-i.order = omega (arith, c.loop-i.invariant.count) in
    record {
      so_far = take_more_set c.loop-i.order c.loop-i.i (c.args.from + c.loop-i.i) lt
          ∙ ap (λ numbers. numbers ++ (c.args.from + c.loop-i.i) ∷ []) c.loop-i.invariant.so_far
          ∙ sym (counted_more c.args.from c.loop-i.i);
      count = length-set c.loop-i.order c.loop-i.i (c.args.from + c.loop-i.i) ∙ c.loop-i.invariant.count;
    }
