use Rattle.rsc_look.proofs.LawsLemmas.{Keeps-finer, IsCoarsest-both}
use Rattle.rsc_look.proofs.laws.coarsest_lists_are_joined.Goals as goal

pub returns : goal.returns
returns c = record { finer_keeps = Keeps-finer; both = IsCoarsest-both }
