use Rattle.std.proofs.Common.{◌∙◌, ◌^◌, arith}
use Rattle.rsc_uses.proofs.SearchLemmas.{one_more_of_range}
use Rattle.rsc_uses.proofs.search.sum_of_bytes.Goals as goal

pub loop-at-preserved : goal.loop-at-preserved
loop-at-preserved c =
    let s = c.in-Some.ensures.steps in let i = c.loop-at.at-iterator in (
      tt,
      tt,
      omega (arith, s, c.loop-at.invariant.2),
      rw (c.from-sum.ensures, s.0, s.1.1, s.1.2) (
          one_more_of_range c.haystack-haystack.result.now i.start i.end c.loop-at.sum (2 ^ 64) (omega (arith, s)) ∙ c.loop-at.invariant.3
          ),
    )
