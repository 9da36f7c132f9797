use Rattle.std.proofs.Common.{arith}
use Rattle.rsc_captures.proofs.SlotOwnersLemmas.{explicit_slot}
use Rattle.rsc_captures.proofs.shared_lists.SharedLists.slot.Goals as goal

pub overflow_add-result : goal.overflow_add-result
overflow_add-result g c =
    omega (arith, (explicit_slot _ _ c.args.group _ c.first.ensures.faultless c.first.ensures.value (omega arith) (omega arith)).1)

pub overflow_add-result-else-group-eq0 : goal.overflow_add-result-else-group-eq0
overflow_add-result-else-group-eq0 g c =
    omega (arith, (explicit_slot _ _ c.args.group _ c.first.ensures.faultless c.first.ensures.value (omega arith) (omega arith)).1)

pub overflow_mul-result-else-group-eq0 : goal.overflow_mul-result-else-group-eq0
overflow_mul-result-else-group-eq0 g c =
    omega (arith, (explicit_slot _ _ c.args.group _ c.first.ensures.faultless c.first.ensures.value (omega arith) (omega arith)).1)

pub returns-else-group-eq0-clause-value : goal.returns-else-group-eq0-clause-value
returns-else-group-eq0-clause-value g c =
    rw c.len.ensures.value (explicit_slot _ _ c.args.group _ c.first.ensures.faultless c.first.ensures.value (omega arith) (omega arith)).0
