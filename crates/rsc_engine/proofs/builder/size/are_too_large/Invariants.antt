use Rattle.std.proofs.Common.{◌≡◌, ◌-◌, ◌+◌, ◌^◌, min, map, take, length, sum_by}
use Rattle.rsc_engine.specs.Parts.{pattern_of, groups_as_pattern}
use Rattle.rsc_captures.specs.Groups.{all_group_count}
use Rattle.rsc_engine.specs.Sizes.{size_of}
use Rattle.rsc_engine.proofs.builder.size.are_too_large.Given as goal

abbrev pub invariant-loop-part : goal.invariant-loop-part
invariant-loop-part l = record {
  states : l.states ≡ min (sum_by (λ p. size_of p + 3) (map pattern_of (take l.part-index l.patterns)) + l.part-index + size_of (pattern_of l.last) + 3)
      (2 ^ 64 - 1);
  groups : l.groups ≡ min (all_group_count (map groups_as_pattern (take l.part-index l.patterns)) + length (groups_as_pattern l.last)) (2 ^ 64 - 1);
}
