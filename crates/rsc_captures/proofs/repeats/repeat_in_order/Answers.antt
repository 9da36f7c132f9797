use Rattle.rsc_captures.proofs.RepeatsLayoutLemmas.{distinct_in_order}
use Rattle.rsc_captures.proofs.repeats.repeat_in_order.Goals as goal

pub returns-clause-distinct : goal.returns-clause-distinct
returns-clause-distinct c =
    distinct_in_order c.args.groups.now c.args.order.now c.repeat_of_batch.result c.requires c.repeat_of_batch.ensures.within c.repeat_of_batch.ensures.differ
