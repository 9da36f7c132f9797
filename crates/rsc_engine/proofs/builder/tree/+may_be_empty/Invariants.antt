use Rattle.std.proofs.Common.{◌≡◌, map, drop}
use Rattle.rsc_engine.specs.Patterns.{sequence, one_of, may_be_empty}
use Rattle.rsc_engine.specs.Trees.{pattern_in}
use Rattle.rsc_engine.proofs.builder.tree.+may_be_empty.Given as goal

abbrev pub invariant-all_may_be_empty-loop-index : goal.invariant-all_may_be_empty-loop-index
invariant-all_may_be_empty-loop-index l = l.all ≡ may_be_empty (sequence (map pattern_in (drop l.index l.parts)))

abbrev pub invariant-one_may_be_empty-loop-index : goal.invariant-one_may_be_empty-loop-index
invariant-one_may_be_empty-loop-index l = l.some ≡ may_be_empty (one_of (map pattern_in (drop l.index l.parts)))
