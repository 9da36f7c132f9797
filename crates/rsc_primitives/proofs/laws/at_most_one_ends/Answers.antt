use Rattle.rsc_primitives.specs.Utf8Laws.{EndsAt-same}
use Rattle.rsc_primitives.proofs.laws.at_most_one_ends.Goals as goal

pub returns : goal.returns
returns c = EndsAt-same
