use Rattle.rsc_primitives.specs.Utf8Laws.{BeginsAt-same}
use Rattle.rsc_primitives.proofs.laws.at_most_one_begins.Goals as goal

pub returns : goal.returns
returns c = BeginsAt-same
