use Rattle.rsc_nfa.proofs.NfaLemmas.{finer_keeps}
use Rattle.rsc_nfa.proofs.laws.finer_classes_keep_runs.Goals as goal

pub returns : goal.returns
returns c = finer_keeps
