use Rattle.std.proofs.Common.{◌≡◌, map, take}
use Rattle.rsc_engine.specs.Patterns.{sequence, may_be_empty}
use Rattle.rsc_engine.specs.FirstEnds.{loops_take_bytes}
use Rattle.rsc_engine.specs.Parts.{pattern_of}
use Rattle.rsc_engine.proofs.builder.Builder.concat.Given as goal

abbrev pub invariant-loop-part : goal.invariant-loop-part
invariant-loop-part l =
    (l.may_be_empty ≡ may_be_empty (sequence (map pattern_of (take l.part-index l.part-items))))
    × (l.loops_take_bytes ≡ loops_take_bytes (sequence (map pattern_of (take l.part-index l.part-items))))
