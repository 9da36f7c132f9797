use Rattle.std.proofs.Common.{◌∙◌, ◌^◌, arith}
use Rattle.rsc_uses.proofs.SearchLemmas.{these_left, one_more, none_left}
use Rattle.rsc_uses.proofs.search.sum_of_members.Goals as goal

pub loop-pid-init : goal.loop-pid-init
loop-pid-init c = (
  tt,
  tt,
  these_left c.args.table.now c.args.set.now.members (2 ^ 64) (c.into_iter-pid-iterator.ensures.into_iter_gives ∙ c.iter-pid-items.ensures.value),
)

pub loop-pid-preserved : goal.loop-pid-preserved
loop-pid-preserved c = (
  tt,
  tt,
  one_more c.args.table.now c.loop-pid.sum (2 ^ 64) c.as_usize.ensures.value c.in-Some.ensures.steps ∙ c.loop-pid.invariant.2,
)

pub returns : goal.returns
returns c = none_left c.args.table.now (2 ^ 64) c.in-None.ensures.steps.0 (omega (arith, c.loop-pid.auto.sum-fits)) c.loop-pid.invariant.2
