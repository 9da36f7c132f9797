use Rattle.rsc_primitives.specs.Utf8Laws.{IsInside-begins, IsInside-ends}
use Rattle.rsc_primitives.proofs.laws.none_begins_or_ends_inside.Goals as goal

pub returns-clause-begins : goal.returns-clause-begins
returns-clause-begins c = IsInside-begins

pub returns-clause-ends : goal.returns-clause-ends
returns-clause-ends c = IsInside-ends
