use Rattle.rsc_engine.proofs.NextMatchesLemmas.{one_next, next_not_over}
use Rattle.rsc_engine.proofs.laws.at_most_one_next_match.Goals as goal

pub returns-clause-next : goal.returns-clause-next
returns-clause-next g = one_next

pub returns-clause-over : goal.returns-clause-over
returns-clause-over g = next_not_over
