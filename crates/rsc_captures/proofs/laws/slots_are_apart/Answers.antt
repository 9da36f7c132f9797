use Rattle.rsc_captures.proofs.SlotOwnersLemmas.{one_owner}
use Rattle.rsc_captures.proofs.laws.slots_are_apart.Goals as goal

pub returns-clause-one_owner : goal.returns-clause-one_owner
returns-clause-one_owner c = one_owner
