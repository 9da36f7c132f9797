use Rattle.rsc_alphabet.proofs.PartitionsLemmas.{ends_joined, joined_by_boundaries}
use Rattle.rsc_alphabet.proofs.byte_class_set.ByteClassSet.union.Goals as goal

pub returns-clause-members : goal.returns-clause-members
returns-clause-members c =
    rw (← c.self.view_is, ← c.other.view_is)
    (ends_joined c.self.inside.ends c.other.inside.ends c.union-self-inside.result c.union-self-inside.ensures.members)

pub returns-clause-value : goal.returns-clause-value
returns-clause-value c = joined_by_boundaries _ _ _ (returns-clause-members c)
