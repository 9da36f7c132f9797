use Rattle.rsc_nfa.proofs.LawsLemmas.{IsStep-stays, IsStep-advances}
use Rattle.rsc_nfa.proofs.laws.a_step_is_local.Goals as goal

pub returns : goal.returns
returns c = record { stays = IsStep-stays; advances = IsStep-advances }
