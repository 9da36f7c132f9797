use Rattle.std.proofs.Common.{◌+◌, length, option_copied, ap, sym, ◌∙◌, arith}
use Rattle.std.proofs.lemmas.List.{length-append, length-map}
use Rattle.std.proofs.Math.Seq.{drop-append_seam}
use Rattle.rsc_captures.proofs.OrderLayoutLemmas.{part_written}
use Rattle.rsc_captures.proofs.order.add_order.Goals as goal

pub returns-clause-len : goal.returns-clause-len
returns-clause-len g c =
    let left = part_written c.args.order.now.items c.put_in_order.new.order c.resize.new.self.items (length c.args.groups.now) _ _ _ _
    (c.len-first.ensures ∙ c.args.order.now.ok.0) c.args.order.now.ok.0 (c.as_mut_slice.ensures.value ∙ c.in_ok-resize.ensures.items)
    (c.resize.new.self.ok.0 ∙ ap length (sym c.as_mut_slice.ensures.value)) c.put_in_order.ensures.len in
    ap length left.1 ∙ length-append c.args.order.now.items c.put_in_order.new.order ∙ ap (λ n. length c.args.order.now.items + n) left.0

pub returns-clause-order : goal.returns-clause-order
returns-clause-order g c =
    let left = part_written c.args.order.now.items c.put_in_order.new.order c.resize.new.self.items (length c.args.groups.now) _ _ _ _
    (c.len-first.ensures ∙ c.args.order.now.ok.0) c.args.order.now.ok.0 (c.as_mut_slice.ensures.value ∙ c.in_ok-resize.ensures.items)
    (c.resize.new.self.ok.0 ∙ ap length (sym c.as_mut_slice.ensures.value)) c.put_in_order.ensures.len in
    rw (left.1, drop-append_seam c.args.order.now.items c.put_in_order.new.order) (record {
      complete = rw (length-map c.args.groups.now option_copied) (λ h lt. c.put_in_order.ensures.complete h (omega arith)
          (omega (arith, lt, left.0, c.put_in_order.ensures.len)));
      sorted = c.put_in_order.ensures.sorted;
    })
