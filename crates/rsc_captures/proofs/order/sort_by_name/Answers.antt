use Rattle.std.proofs.Common.{get_or, None, rules}
use Rattle.std.proofs.lemmas.Fn.{always_returns_same}
use Rattle.rsc_captures.proofs.OrderLayoutLemmas.{sorted_in}
use Rattle.rsc_captures.proofs.order.sort_by_name.Goals as goal

-- the closure answers a group's name and the group, so the sort is by both
pub returns-clause-sorted : goal.returns-clause-sorted
returns-clause-sorted c =
    sorted_in c.args.groups.now c.sort_unstable_by_key.new.self
    (c.sort_unstable_by_key.ensures.sorted (λ g. (get_or c.args.groups.now g None, g)) (always_returns_same _ _ _ (λ a r f' k. search rules)))
