use Rattle.rsc_replace.proofs.TemplatesLemmas.{plain}
use Rattle.rsc_replace.proofs.laws.a_template_without_dollars_is_itself.Goals as goal

pub returns : goal.returns
returns c = plain
