use Rattle.rsc_engine.proofs.NextMatchesLemmas.{fewer-left}
use Rattle.rsc_engine.proofs.laws.an_iteration_ends.Goals as goal

pub returns : goal.returns
returns c = fewer-left
