use Rattle.rsc_look.proofs.HoldsLemmas.{has_before, has_after, IsBefore-same, IsAfter-same}
use Rattle.rsc_look.proofs.laws.each_position_has_two_sides.Goals as goal

pub returns : goal.returns
returns c = record { before = has_before; one_before = IsBefore-same; after = has_after; one_after = IsAfter-same }
