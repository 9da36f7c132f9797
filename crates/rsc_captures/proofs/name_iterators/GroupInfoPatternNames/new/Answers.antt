use Rattle.std.proofs.Common.{arith}
use Rattle.rsc_captures.proofs.SharedListsLayoutLemmas.{range_is}
use Rattle.rsc_captures.proofs.name_iterators.GroupInfoPatternNames.new.Goals as goal

pub invariant_of-result-2 : goal.invariant_of-result-2
invariant_of-result-2 g c =
    (range_is _ _ _ _ c.lists.view_is c.lists.invariant c.args.p _ _ (omega arith) c.first.ensures.value c.first-2.ensures.value).0

pub returns : goal.returns
returns g c = (range_is _ _ _ _ c.lists.view_is c.lists.invariant c.args.p _ _ (omega arith) c.first.ensures.value c.first-2.ensures.value).1
