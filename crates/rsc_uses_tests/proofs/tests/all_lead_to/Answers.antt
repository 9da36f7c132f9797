use Rattle.std.proofs.lemmas.List.{get_or-replicate}
use Rattle.rsc_uses_tests.proofs.tests.all_lead_to.Goals as goal

pub returns : goal.returns
returns c = λ b l. get_or-replicate 256 b c.args.state 0 l
