use Rattle.rsc_uses.proofs.ReplacedLemmas.{same_text}
use Rattle.rsc_uses.proofs.captures.replacing_by_the_same_changes_nothing.Goals as goal

pub returns : goal.returns
returns c = λ haystack replacement spans within same. same_text haystack replacement 0 spans within same
