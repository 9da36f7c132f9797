use Rattle.std.proofs.Common.{◌≡◌, ◌<◌, ◌≤◌, length, inl, arith}
use Rattle.rsc_captures.proofs.Prelude.{group_count, lists_in, Fault, Duplicate, slots_end, IsFirstRepeatBefore}
use Rattle.rsc_captures.proofs.FaultsLemmas.{pattern_clear, before_more}
use Rattle.rsc_captures.proofs.FaultsLayoutLemmas.{MatchOption-some_weaker}
use Rattle.rsc_captures.proofs.GroupsLemmas.{length-lists_in, in_lists, groups_of_in, group_count_in}
use Rattle.rsc_captures.proofs.SharedListsLayoutLemmas.{ordered_more}
use Rattle.rsc_captures.proofs.RepeatsLayoutLemmas.{repeat_of_pattern, none_more}
use Rattle.rsc_captures.proofs.group_info.order_of.Goals as goal

pub add_order-requires : goal.add_order-requires
add_order-requires g c =
    let lt = in_lists c.args.lists.now c.loop-p.p (omega arith) in
    let within : slots_end (lists_in c.args.lists.now) c.loop-p.p ≤ 2147483646 = c.requires.slots c.loop-p.p lt in
    omega (arith, within, before_more (lists_in c.args.lists.now) c.loop-p.p lt, group_count_in c.args.lists.now c.loop-p.p (omega arith), lt)

pub repeated-requires-clause-number : goal.repeated-requires-clause-number
repeated-requires-clause-number g c =
    (pattern_clear (lists_in c.args.lists.now) c.loop-p.p (c.requires.groups.patterns c.loop-p.p (rw length-lists_in (omega arith)))).0

pub returns-then-g-groups-clause-refused : goal.returns-then-g-groups-clause-refused
returns-then-g-groups-clause-refused g c =
    let lt : c.loop-p.p < length c.args.lists.now = omega arith in
    let found = repeat_of_pattern _ _ _ (length c.args.lists.now) 0 _ c.loop-p.invariant.none (rw (group_count_in _ _ lt) c.if-g-groups.true)
    (rw (groups_of_in _ _ lt) (c.repeat_in_order-g.ensures.repeat c.if-g-groups.true)) (rw (groups_of_in _ _ lt) c.repeat_in_order-g.ensures.distinct)
    c.repeated.ensures.name (inl lt) in
    MatchOption-some_weaker c.duplicate.result _ _ (IsFirstRepeatBefore (lists_in c.args.lists.now) (length c.args.lists.now) 0)
    (λ (f : Fault) (same : f ≡ Duplicate c.repeated.result.0 c.repeated.result.1.now).
    rw (same, c.repeated.ensures.pattern) found) c.duplicate.ensures

pub loop-p-preserved : goal.loop-p-preserved
loop-p-preserved g c =
    let lt : c.loop-p.p < length c.args.lists.now = omega arith in
    let all : c.repeat_in_order-g.result ≡ group_count (lists_in c.args.lists.now) c.loop-p.p =
    omega (arith, c.repeat_in_order-g.ensures.within, group_count_in _ _ lt) in
    record {
      ordered = ordered_more _ c.loop-p.invariant.ordered (in_lists _ _ lt) c.in_ok-add_order.ensures.kept
          (rw (group_count_in _ _ lt) c.in_ok-add_order.ensures.len) (rw (groups_of_in _ _ lt) c.in_ok-add_order.ensures.order);
      none = none_more _ _ c.loop-p.invariant.none (rw (← all, groups_of_in _ _ lt) c.repeat_in_order-g.ensures.distinct);
    }

pub returns-clause-ok : goal.returns-clause-ok
returns-clause-ok g c = let at_end : c.loop-p.p ≡ length c.args.lists.now = omega arith in rw at_end at c.loop-p.invariant.ordered
