use Rattle.std.proofs.Common.{length, arith}
use Rattle.std.proofs.lemmas.Result.{IfErr-weaker}
use Rattle.rsc_captures.specs.Groups.{lists_in}
use Rattle.rsc_captures.proofs.FaultsLemmas.{pattern_clear}
use Rattle.rsc_captures.proofs.FaultsLayoutLemmas.{pattern_before, limit_before, repeat_first, refuses_from, refuses_first, refuses_repeat}
use Rattle.rsc_captures.proofs.GroupsLemmas.{length-lists_in}
use Rattle.rsc_captures.proofs.group_info.GroupInfo.new_limited.Goals as goal

pub returns-in_default-clause-refused : goal.returns-in_default-clause-refused
returns-in_default-clause-refused g c =
    IfErr-weaker c.build.result _ _ (refuses_from c.in_default.ensures (length c.args.lists.now) (length-lists_in c.args.lists.now)) c.build.ensures.refused

-- a pattern with a group before the group of another fault has a number
pub first_repeat_before-requires-clause-patterns : goal.first_repeat_before-requires-clause-patterns
first_repeat_before-requires-clause-patterns g c = λ p before.
    (pattern_clear (lists_in c.args.lists.now) p (pattern_before c.in-Some.ensures.before p 0 before)).0

-- the number of a group before it is within the limit
pub first_repeat_before-requires-clause-groups : goal.first_repeat_before-requires-clause-groups
first_repeat_before-requires-clause-groups g c = λ p h group before.
    let within = limit_before c.in-Some.ensures.before p h group before in omega (arith, within, c.requires)

pub returns-in-Some-first_repeat_before-clause-refused : goal.returns-in-Some-first_repeat_before-clause-refused
returns-in-Some-first_repeat_before-clause-refused g c =
    let first = repeat_first c.in-Some.ensures.before _ c.in-Some-first_repeat_before.ensures in
    refuses_repeat first c.duplicate.result c.duplicate.ensures

pub returns-in-None-clause-refused : goal.returns-in-None-clause-refused
returns-in-None-clause-refused g c = refuses_first _ _ c.in-Some.other (c.in-Some.ensures.first c.in-None.ensures)
