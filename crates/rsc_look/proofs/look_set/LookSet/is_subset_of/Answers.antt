use Rattle.rsc_look.proofs.LookSetsLemmas.{empty_rest}
use Rattle.rsc_look.proofs.look_set.LookSet.is_subset_of.Goals as goal

pub returns : goal.returns
returns c =
    let rest = empty_rest c.args.self c.args.other c.subtract.result c.subtract.ensures.members in
    ((λ is. rest.0 (c.is_empty.ensures.0 is)), (λ within. c.is_empty.ensures.1 (rest.1 within)))
