use Rattle.rsc_nfa.proofs.LawsLemmas.{step-kept}
use Rattle.rsc_nfa.proofs.laws.a_step_is_kept.Goals as goal

pub returns : goal.returns
returns c = step-kept
