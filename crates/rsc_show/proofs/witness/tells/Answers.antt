use Rattle.rsc_show.proofs.ChosenLemmas.{differ_if}
use Rattle.rsc_show.proofs.witness.tells.Goals as goal

pub returns : goal.returns
returns c = differ_if c.matches.result c.matches-2.result _ _ c.matches.ensures.value c.matches-2.ensures.value
