use Rattle.rsc_look.proofs.LawsLemmas.{Keeps-both}
use Rattle.rsc_look.proofs.laws.kept_lists_are_joined.Goals as goal

pub returns-clause-both : goal.returns-clause-both
returns-clause-both c = Keeps-both
