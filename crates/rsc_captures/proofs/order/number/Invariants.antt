use Rattle.std.proofs.Common.{◌≡◌, length, take}
use Rattle.std.specs.List.{range_with_len}
use Rattle.rsc_captures.proofs.order.number.Given as goal

-- the numbers so far
abbrev pub invariant-loop-i : goal.invariant-loop-i
invariant-loop-i l = record {
  so_far : take l.i l.order ≡ range_with_len l.from l.i;
  count : length l.order ≡ length l.initial.order;
}
