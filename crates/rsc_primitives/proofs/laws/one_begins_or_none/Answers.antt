use Rattle.rsc_primitives.specs.DecodingLaws.{BeginsAt-decided}
use Rattle.rsc_primitives.proofs.laws.one_begins_or_none.Goals as goal

pub returns : goal.returns
returns c = BeginsAt-decided
