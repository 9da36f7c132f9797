use Rattle.std.proofs.Common.{arith}
use Rattle.rsc_captures.proofs.NameIteratorsLemmas.{names_counted}
use Rattle.rsc_captures.proofs.SlotOwnersLemmas.{slots_within_limit}
use Rattle.rsc_captures.proofs.group_info.GroupInfo.all_names.Goals as goal

pub returns-clause-most : goal.returns-clause-most
returns-clause-most g c =
    rw c.new.ensures.value (omega (arith, names_counted c.lists.result.now, slots_within_limit c.lists.result.now c.new.ensures.faultless))
