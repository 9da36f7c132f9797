use Rattle.std.proofs.Common.{◌≡◌, ◌-◌, ◌^◌, min, map, drop}
use Rattle.rsc_engine.specs.Patterns.{sequence, one_of}
use Rattle.rsc_engine.specs.Trees.{pattern_in}
use Rattle.rsc_engine.specs.Sizes.{size_of}
use Rattle.rsc_engine.proofs.builder.size.+size.Given as goal

abbrev pub invariant-size_of_all-loop-index : goal.invariant-size_of_all-loop-index
invariant-size_of_all-loop-index l = l.all ≡ min (size_of (sequence (map pattern_in (drop l.index l.parts)))) (2 ^ 64 - 1)

abbrev pub invariant-size_of_one-loop-index : goal.invariant-size_of_one-loop-index
invariant-size_of_one-loop-index l = l.all ≡ min (size_of (one_of (map pattern_in (drop l.index l.parts)))) (2 ^ 64 - 1)
