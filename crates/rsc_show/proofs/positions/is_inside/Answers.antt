use Rattle.std.proofs.Common.{arith}
use Rattle.rsc_show.proofs.SidesLemmas.{not_inside}
use Rattle.rsc_show.proofs.positions.is_inside.Goals as goal

pub returns : goal.returns
returns c = (
  λ f. cc,
  λ inside. absurd (not_inside c.encoding_is_that_of_std.ensures c.args.haystack.now c.args.at
      (λ s low high. c.loop-start.invariant s low (omega (arith, high, c.loop-start-test.false))) inside),
)
