use Rattle.rsc_nfa.specs.Steps.{place}
use Rattle.rsc_engine.proofs.NextMatchesLemmas.{one_first}
use Rattle.rsc_engine.proofs.PreferredLemmas.{one_preferred}
use Rattle.rsc_engine.proofs.laws.at_most_one_first_match.Goals as goal

pub returns-clause-preferred : goal.returns-clause-preferred
returns-clause-preferred g = one_preferred

pub returns-clause-first : goal.returns-clause-first
returns-clause-first g = one_first

pub returns-clause-none : goal.returns-clause-none
returns-clause-none g = λ e run none f. none (place run 0).1 f.begins run f.preferred.is_match
