use Rattle.std.proofs.Common.{◌≡◌, sym, arith}
use Rattle.rsc_captures.specs.Groups.{groups_of, group_count}
use Rattle.rsc_captures.proofs.GroupsLemmas.{index_of_none}
use Rattle.rsc_captures.proofs.shared_lists.SharedLists.find_by_scan.Goals as goal

pub returns : goal.returns
returns g c =
    let at_end : c.loop-group.group ≡ group_count c.args.self.now c.args.p = omega arith in
    sym (index_of_none (groups_of c.args.self.now c.args.p) c.args.name.now c.loop-group.group at_end c.loop-group.invariant)
