use Rattle.std.proofs.Common.{◌≡◌, map, take, Some}
use Rattle.std.specs.Option.{option_map}
use Rattle.rsc_notation.specs.GroupTexts.{all_there, group_of}
use Rattle.rsc_notation.proofs.groups.parse_groups.Given as goal

abbrev pub invariant-loop-part : goal.invariant-loop-part
invariant-loop-part g l = all_there (map (λ part. group_of part.now) (take l.part-index l.part-items))
    ≡ Some (map (option_map (λ name. name.now)) l.groups.items)
