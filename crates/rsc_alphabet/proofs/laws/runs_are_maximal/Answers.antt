use Rattle.rsc_alphabet.proofs.ByteSetsLemmas.{runs_exactly, runs_apart}
use Rattle.rsc_alphabet.proofs.laws.runs_are_maximal.Goals as goal

pub returns : goal.returns
returns c = record { exactly = runs_exactly; apart = runs_apart }
