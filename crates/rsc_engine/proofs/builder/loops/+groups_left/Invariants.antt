use Rattle.std.proofs.Common.{◌≡◌, ◌-◌, map, drop}
use Rattle.rsc_engine.specs.Patterns.{sequence}
use Rattle.rsc_engine.specs.Trees.{pattern_in}
use Rattle.rsc_engine.specs.GroupNumbers.{group_count_in}
use Rattle.rsc_engine.proofs.builder.loops.+groups_left.Given as goal

abbrev pub invariant-groups_left_by_all-loop-index : goal.invariant-groups_left_by_all-loop-index
invariant-groups_left_by_all-loop-index l = l.now ≡ l.fn.left - group_count_in (sequence (map pattern_in (drop l.index l.parts)))
