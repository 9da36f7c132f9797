use Rattle.rsc_captures.proofs.SlotOwnersLemmas.{slot_among_all}
use Rattle.rsc_captures.proofs.group_info.GroupInfo.slot.Goals as goal

pub returns-clause-within : goal.returns-clause-within
returns-clause-within g c = rw (c.slot.ensures.value, ← c.lists.ensures) (slot_among_all c.lists.result.now c.slot.ensures.faultless _ c.args.group_index)
