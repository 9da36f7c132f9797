use Rattle.std.proofs.Common.{◌≡◌, true, ap, sym, ◌∙◌}
use Rattle.rsc_captures.proofs.Prelude.{groups_of, group_count, name_of, has_name, AreDistinctBelow}
use Rattle.rsc_captures.proofs.GroupsLemmas.{index_of-is, has_name-is}
use Rattle.rsc_captures.proofs.SharedListsLayoutLemmas.{distinct_in}
use Rattle.rsc_captures.proofs.shared_lists.SharedLists.find_by_hash.Goals as goal

-- no name is repeated, so a group that has the name is the first that has it
pub returns-then-has_name : goal.returns-then-has_name
returns-then-has_name g c =
    let distinct : AreDistinctBelow (groups_of c.args.self.now c.args.p) (group_count c.args.self.now c.args.p) =
    distinct_in c.args.self.now c.group_len-count.ensures.faultless c.args.p in
    let named : has_name c.args.name.now (name_of c.args.self.now c.args.p c.in_ok-group.field-0.now) ≡ true =
    ap (has_name c.args.name.now) (sym c.name_within.ensures) ∙ sym c.if-has_name.ensures in
    (index_of-is (groups_of c.args.self.now c.args.p) c.args.name.now distinct _).1 (has_name-is c.args.name.now _ named)
