use Rattle.std.proofs.Common.{◌<◌, length, rules}
use Rattle.std.proofs.lemmas.List.{get_or_read}
use Rattle.rsc_engine.proofs.RetreatLemmas.{marked-first, marked-next, marked-last}
use Rattle.rsc_engine.proofs.dfa.retreat.marked.Goals as goal

pub list-init : goal.list-init
list-init c = marked-first _ _ _ (c.in_ok-marks.ensures.items_if_clones_equal (λ y e. e))

pub list-preserved : goal.list-preserved
list-preserved c =
    let l : c.list.sid-index < length c.args.list.now = search rules in
    rw c.as_usize.ensures.value (marked-next _ _ _ _ _ c.list.invariant l (get_or_read _ _ _ l c.sid-item.is 0) c.requires)

pub returns-clause-gathers : goal.returns-clause-gathers
returns-clause-gathers c = marked-last _ _ _ c.list.sid-index c.list.invariant (search rules) c.requires
