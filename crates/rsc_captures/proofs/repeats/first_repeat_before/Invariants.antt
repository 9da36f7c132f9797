use Rattle.rsc_captures.specs.Groups.{lists_in}
use Rattle.rsc_captures.proofs.RepeatsLayoutLemmas.{NoneSoFar}
use Rattle.rsc_captures.proofs.repeats.first_repeat_before.Given as goal

abbrev pub invariant-loop-p : goal.invariant-loop-p
invariant-loop-p l = NoneSoFar (lists_in l.lists) l.p l.group.0 l.group.1
