use Rattle.std.proofs.Common.{◌≡◌, false, take}
use Rattle.std.specs.List.{list_any}
use Rattle.rsc_captures.specs.Groups.{groups_of, has_name}
use Rattle.rsc_captures.proofs.shared_lists.SharedLists.find_by_scan.Given as goal

-- none of the groups so far has the name
abbrev pub invariant-loop-group : goal.invariant-loop-group
invariant-loop-group g l = list_any (has_name l.name) (take l.group (groups_of l.self l.p)) ≡ false
