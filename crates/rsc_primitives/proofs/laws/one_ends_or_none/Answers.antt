use Rattle.rsc_primitives.specs.DecodingLaws.{EndsAt-decided}
use Rattle.rsc_primitives.proofs.laws.one_ends_or_none.Goals as goal

pub returns : goal.returns
returns c = EndsAt-decided
