use Rattle.std.proofs.Common.{arith}
use Rattle.rsc_captures.proofs.NamesLayoutLemmas.{all_before}
use Rattle.rsc_captures.proofs.SlotOwnersLemmas.{slots_within_limit}
use Rattle.rsc_captures.proofs.shared_lists.SharedLists.all_group_len.Goals as goal

pub returns-clause-limit : goal.returns-clause-limit
returns-clause-limit g c =
    rw (c.first.ensures.value, c.len.ensures.value, all_before) (omega (arith, slots_within_limit c.args.self.now c.first.ensures.faultless))
