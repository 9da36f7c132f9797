use Rattle.rsc_alphabet.proofs.PartitionsLemmas.{together_alike}
use Rattle.rsc_alphabet.proofs.laws.together_is_alike.Goals as goal

pub returns : goal.returns
returns c = together_alike
