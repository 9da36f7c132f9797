use Rattle.std.proofs.Common.{◌≡◌, length, take, replicate, None}
use Rattle.rsc_captures.proofs.captures.unset_all.Given as goal

-- the slots so far are empty
abbrev pub invariant-loop-slot : goal.invariant-loop-slot
invariant-loop-slot l = record {
  so_far : take l.slot l.slots ≡ replicate l.slot None;
  count : length l.slots ≡ length l.initial.slots;
}
