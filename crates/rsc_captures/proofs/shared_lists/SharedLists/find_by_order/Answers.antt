use Rattle.std.proofs.Common.{sym, rules, Some, Ok, Err}
use Rattle.std.proofs.lemmas.Fn.{always_returns_same}
use Rattle.rsc_captures.proofs.Prelude.{groups_of, name_of, name_cmp}
use Rattle.rsc_captures.proofs.OrderLayoutLemmas.{index_from_search}
use Rattle.rsc_captures.proofs.SharedListsLayoutLemmas.{distinct_in, part_ordered}
use Rattle.rsc_captures.proofs.shared_lists.SharedLists.find_by_order.Goals as goal

pub slice_bounds-order-end : goal.slice_bounds-order-end
slice_bounds-order-end g c =
    (part_ordered _ _ _ _ c.self.view_is c.self.invariant _ _ _ _ c.requires c.deref.ensures.value c.first-first.ensures.value c.group_len.ensures.value).0

-- the closure answers how a group's name compares with the name
pub returns-in-Ok : goal.returns-in-Ok
returns-in-Ok g c =
    let part = part_ordered _ _ _ _ c.self.view_is c.self.invariant _ _ _ _ c.requires c.deref.ensures.value c.first-first.ensures.value
    c.group_len.ensures.value in
    let found = c.in-Ok.ensures.position (λ h. name_cmp (name_of c.args.self.now c.args.p h) (Some c.args.name.now))
    (always_returns_same _ _ _ (λ a r f' k. search rules)) in
    sym (index_from_search (groups_of c.args.self.now c.args.p) _ part.1 (distinct_in c.args.self.now c.group_len.ensures.faultless c.args.p)
    c.args.name.now (Ok c.in-Ok.group) found)

pub returns-in-Err : goal.returns-in-Err
returns-in-Err g c =
    let part = part_ordered _ _ _ _ c.self.view_is c.self.invariant _ _ _ _ c.requires c.deref.ensures.value c.first-first.ensures.value
    c.group_len.ensures.value in
    let split = c.in-Err.ensures.position (λ h. name_cmp (name_of c.args.self.now c.args.p h) (Some c.args.name.now))
    (always_returns_same _ _ _ (λ a r f' k. search rules)) in
    sym (index_from_search (groups_of c.args.self.now c.args.p) _ part.1 (distinct_in c.args.self.now c.group_len.ensures.faultless c.args.p)
    c.args.name.now (Err c.in-Err.field-0) split)
