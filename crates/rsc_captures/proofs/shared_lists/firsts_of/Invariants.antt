use Rattle.std.proofs.Common.{◌≡◌}
use Rattle.rsc_captures.proofs.Prelude.{lists_in, groups_before, AreFirsts}
use Rattle.rsc_captures.proofs.shared_lists.firsts_of.Given as goal

abbrev pub invariant-loop-groups : goal.invariant-loop-groups
invariant-loop-groups g l = record {
  first : l.first ≡ groups_before (lists_in l.lists) l.groups-index;
  firsts : AreFirsts l.firsts.items (lists_in l.lists) l.groups-index;
}
