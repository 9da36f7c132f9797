use Rattle.rsc_captures.proofs.SlotOwnersLemmas.{one_owner}
use Rattle.rsc_captures.proofs.group_info.GroupInfo.slot_len.Goals as goal

pub returns-clause-one_owner : goal.returns-clause-one_owner
returns-clause-one_owner g c = one_owner c.args.self.now
