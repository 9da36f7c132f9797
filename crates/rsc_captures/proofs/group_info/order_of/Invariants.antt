use Rattle.rsc_captures.proofs.Prelude.{lists_in, AreOrdered, HasNoRepeatBefore}
use Rattle.rsc_captures.proofs.group_info.order_of.Given as goal

-- the order has the groups of the patterns so far, none of which repeats a name
abbrev pub invariant-loop-p : goal.invariant-loop-p
invariant-loop-p g l = record { ordered : AreOrdered l.order.items (lists_in l.lists) l.p; none : HasNoRepeatBefore (lists_in l.lists) l.p 0 }
