use Rattle.rsc_engine.proofs.PatternMatchesLemmas.{first_of_runs, next_of_runs}
use Rattle.rsc_engine.proofs.laws.at_most_one_match_with_captures.Goals as goal

pub returns-clause-first : goal.returns-clause-first
returns-clause-first g = first_of_runs

pub returns-clause-next : goal.returns-clause-next
returns-clause-next g = next_of_runs
