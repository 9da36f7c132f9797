use Rattle.rsc_nfa.proofs.StateFaultsLemmas.{faultless-names}
use Rattle.rsc_nfa.proofs.LawsLemmas.{step-from, step-position, step-to}
use Rattle.rsc_nfa.proofs.laws.where_a_step_leads.Goals as goal

pub returns : goal.returns
returns c = record { from = step-from; position = step-position; within = faultless-names; to = step-to }
