use Rattle.rsc_nfa.proofs.LawsLemmas.{records-ordered}
use Rattle.rsc_nfa.proofs.laws.records_are_in_order.Goals as goal

pub returns : goal.returns
returns c = records-ordered
