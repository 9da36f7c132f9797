use Rattle.std.proofs.Common.{◌≡◌, map, take, Some}
use Rattle.std.specs.Option.{option_map}
use Rattle.rsc_notation.specs.GroupTexts.{all_there, groups_in_text}
use Rattle.rsc_notation.proofs.groups.parse_patterns.Given as goal

abbrev pub invariant-loop-part : goal.invariant-loop-part
invariant-loop-part g l = all_there (map (λ part. groups_in_text part.now) (take l.part-index l.part-items))
    ≡ Some (map (λ groups. map (option_map (λ name. name.now)) groups.items) l.patterns.items)
