use Rattle.rsc_engine.proofs.PatternMatchesLemmas.{one_first_of, one_next_of, not_over_of}
use Rattle.rsc_engine.proofs.laws.at_most_one_match_of_patterns.Goals as goal

pub returns-clause-first : goal.returns-clause-first
returns-clause-first g = one_first_of

pub returns-clause-next : goal.returns-clause-next
returns-clause-next g = one_next_of

pub returns-clause-over : goal.returns-clause-over
returns-clause-over g = not_over_of
