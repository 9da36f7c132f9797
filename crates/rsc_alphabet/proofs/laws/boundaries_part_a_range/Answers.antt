use Rattle.rsc_alphabet.specs.PartitionsLaws.{contains-boundaries}
use Rattle.rsc_alphabet.proofs.PartitionsLemmas.{boundary_is, boundaries_together}
use Rattle.rsc_alphabet.proofs.laws.boundaries_part_a_range.Goals as goal

pub returns : goal.returns
returns c = record { members = contains-boundaries; boundary = boundary_is; together = boundaries_together }
