use Rattle.std.proofs.Common.{◌∙◌}
use Rattle.rsc_captures.proofs.GroupsLemmas.{length-lists_in}
use Rattle.rsc_captures.proofs.SharedListsLayoutLemmas.{held_are, layout_is}
use Rattle.rsc_captures.proofs.group_info.build.Goals as goal

pub invariant_of-inner : goal.invariant_of-inner
invariant_of-inner g c =
    layout_is c.in_ok-firsts.ensures c.in_ok-names.ensures (length-lists_in c.args.lists.now) c.requires c.in_ok-order.ensures.distinct
    c.in_ok-order.ensures.ok

pub returns-clause-ok : goal.returns-clause-ok
returns-clause-ok g c = c.in_ok-new.ensures.ok ∙ held_are c.in_ok-firsts.ensures c.in_ok-names.ensures (length-lists_in c.args.lists.now)
