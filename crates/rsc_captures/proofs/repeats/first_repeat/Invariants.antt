use Rattle.std.proofs.Common.{◌≡◌, ◌-◌, ◌<◌, ◌≤◌, true}
use Rattle.rsc_captures.proofs.Prelude.{groups_in, is_repeat}
use Rattle.rsc_captures.proofs.RepeatsLayoutLemmas.{DifferBelow}
use Rattle.rsc_captures.proofs.repeats.first_repeat.Given as goal

-- no group of the batches so far has the name of a greater one before the least repeat so far
abbrev pub invariant-loop-from : goal.invariant-loop-from
invariant-loop-from l = record {
  within : l.least ≤ l.end;
  differ : DifferBelow (groups_in l.groups) l.from l.least;
  repeat : l.least < l.end → is_repeat (groups_in l.groups) l.least ≡ true;
}

abbrev pub decreases-loop-from : goal.decreases-loop-from
decreases-loop-from l = l.end - l.from
