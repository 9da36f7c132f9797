use Rattle.rsc_nfa.proofs.LawsLemmas.{run-one, run-more, positions-rise}
use Rattle.rsc_nfa.proofs.laws.runs_grow.Goals as goal

pub returns : goal.returns
returns c = record { single = run-one; grown = run-more; order = positions-rise }
