use Rattle.std.proofs.Common.{arith, rules}
use Rattle.rsc_uses.proofs.PrimitivesLemmas.{more, all_read}
use Rattle.rsc_uses.proofs.primitives.count_characters.Goals as goal

pub loop-at-init : goal.loop-at-init
loop-at-init c = record { within = omega arith; count = omega arith; chars = λ cs h. (cs, (h, omega arith)) }

pub loop-at-preserved : goal.loop-at-preserved
loop-at-preserved c = record {
  within = grind rules;
  count = grind rules;
  chars = λ cs h.
      let left = c.loop-at.invariant.chars cs h in
      let next = more c.encoding_is_that_of_std.ensures c.args.bytes.now c.loop-at.at c.first_width-at.result c.loop-at-test.true
      c.first_width-at.ensures.width left.0 left.1.0 in
      (next.0, (next.1.0, omega (arith, left.1.1, next.1.1)));
}

pub returns : goal.returns
returns c = λ cs h.
    let all = c.loop-at.invariant.chars cs h in
    let none = all_read c.args.bytes.now c.loop-at.at c.loop-at-test.false all.0 all.1.0 in
    omega (arith, all.1.1, none)
