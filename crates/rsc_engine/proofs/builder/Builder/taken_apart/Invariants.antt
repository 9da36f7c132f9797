use Rattle.std.proofs.Common.{◌≡◌, ◌+◌, ◌++◌, map, flat_map, length}
use Rattle.rsc_captures.specs.Groups.{groups_in}
use Rattle.std.specs.Vec.Iter.{into_iter_items, into_iter_len}
use Rattle.rsc_engine.specs.Patterns.{sequence}
use Rattle.rsc_engine.specs.GroupNumbers.{group_count_in}
use Rattle.rsc_engine.specs.Trees.{pattern_in}
use Rattle.rsc_engine.specs.Parts.{pattern_of, groups_of_part}
use Rattle.rsc_engine.proofs.builder.Builder.taken_apart.Given as goal

abbrev pub invariant-loop-part : goal.invariant-loop-part
invariant-loop-part l =
    (map pattern_in l.trees.items ++ map pattern_of (into_iter_items l.part-iterator) ≡ map pattern_of l.fn.parts.items)
    × (groups_in l.names.items ++ flat_map groups_of_part (into_iter_items l.part-iterator) ≡ flat_map groups_of_part l.fn.parts.items)
    × (length l.names.items + group_count_in (sequence (map pattern_of (into_iter_items l.part-iterator)))
    ≡ group_count_in (sequence (map pattern_of l.fn.parts.items)))
    × (into_iter_len l.part-iterator ≡ length (into_iter_items l.part-iterator))
