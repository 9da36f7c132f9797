use Rattle.rsc_captures.proofs.Prelude.{groups_in}
use Rattle.rsc_captures.proofs.RepeatsLayoutLemmas.{DifferInOrder}
use Rattle.rsc_captures.proofs.repeats.repeat_of_batch.Given as goal

abbrev pub invariant-loop-g : goal.invariant-loop-g
invariant-loop-g l = DifferInOrder (groups_in l.groups) l.order l.from l.g
