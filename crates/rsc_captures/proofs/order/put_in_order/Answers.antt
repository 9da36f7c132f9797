use Rattle.std.proofs.lemmas.List.Sorted.{Contains-permutation}
use Rattle.rsc_captures.proofs.OrderLayoutLemmas.{has_counted}
use Rattle.rsc_captures.proofs.order.put_in_order.Goals as goal

pub returns-clause-complete : goal.returns-clause-complete
returns-clause-complete c =
    λ g ge lt. Contains-permutation _ _ g (rw c.number.ensures at c.sort_by_name.ensures.permutation) (has_counted c.args.from _ g ge lt)
