use Rattle.std.proofs.Common.{le-ltb, get_or, sym, ◌∙◌}
use Rattle.rsc_captures.proofs.RepeatsLayoutLemmas.{differ_past_all, differ_not_lesser}
use Rattle.rsc_captures.proofs.repeats.is_repeat_of.Goals as goal

pub returns-then-first-order : goal.returns-then-first-order
returns-then-first-order c =
    differ_past_all c.args.groups.now c.args.order.now c.args.g c.requires c.in-Some.name c.first_not_less-first.result c.first_not_less-first.ensures
    (sym c.name_at.ensures ∙ c.in-Some.is) c.if-first-order.true

pub returns-else-order-first : goal.returns-else-order-first
returns-else-order-first c =
    rw (le-ltb (get_or c.args.order.now c.first_not_less-first.result 0) c.args.g c.if-order-first.false)
    (differ_not_lesser c.args.groups.now c.args.order.now c.args.g c.requires c.in-Some.name c.first_not_less-first.result c.first_not_less-first.ensures
    (sym c.name_at.ensures ∙ c.in-Some.is) c.if-order-first.false)
