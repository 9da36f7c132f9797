use Rattle.std.proofs.Common.{◌≡◌, map, take}
use Rattle.rsc_notation.proofs.groups.slices_of.Given as goal

abbrev pub invariant-loop-groups : goal.invariant-loop-groups
invariant-loop-groups g l = map (λ groups. groups.now) l.slices.items ≡ map (λ groups. groups.items) (take l.groups-index l.patterns)
