use Rattle.rsc_look.proofs.Prelude.{same_from, same_to, look_cmp_total, look_cmp-IsAntisymmetric}
use Rattle.rsc_look.proofs.laws.equality_is_of_the_value.Goals as goal

pub returns-clause-set : goal.returns-clause-set
returns-clause-set c = λ s u. (same_from look_cmp_total look_cmp-IsAntisymmetric s u, same_to look_cmp_total look_cmp-IsAntisymmetric s u)
