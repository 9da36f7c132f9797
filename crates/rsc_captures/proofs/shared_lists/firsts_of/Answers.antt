use Rattle.std.proofs.Common.{◌≤◌, ◌+◌, arith}
use Rattle.rsc_captures.proofs.Prelude.{lists_in, slots_end}
use Rattle.rsc_captures.proofs.FaultsLemmas.{pattern_clear}
use Rattle.rsc_captures.proofs.GroupsLemmas.{in_lists}
use Rattle.rsc_captures.proofs.NamesLayoutLemmas.{firsts_push, first_more, groups_so_far}
use Rattle.rsc_captures.proofs.shared_lists.firsts_of.Goals as goal

pub overflow_add-first : goal.overflow_add-first
overflow_add-first g c =
    let p = c.loop-groups.groups-index in
    let within : slots_end (lists_in c.args.lists.now) p ≤ 2147483646 = c.requires.slots p (in_lists c.args.lists.now p (omega arith)) in
    let so_far = groups_so_far (lists_in c.args.lists.now) (p + 1) (omega (arith, in_lists c.args.lists.now p (omega arith)))
    (λ q in_q. (pattern_clear (lists_in c.args.lists.now) q (c.requires.groups.patterns q in_q)).1) in
    omega (
      arith,
      within,
      so_far,
      in_lists c.args.lists.now p (omega arith),
      first_more c.args.lists.now p c.loop-groups.first (omega arith) c.loop-groups.invariant.first,
    )

pub loop-groups-preserved : goal.loop-groups-preserved
loop-groups-preserved g c =
    let first = first_more c.args.lists.now c.loop-groups.groups-index c.loop-groups.first (omega arith) c.loop-groups.invariant.first in
    record {
      first = first;
      firsts = rw c.in_ok-push-2.ensures.items
          (firsts_push c.loop-groups.firsts.items (lists_in c.args.lists.now) c.loop-groups.groups-index _ c.loop-groups.invariant.firsts first);
    }
