use Rattle.std.proofs.Common.{arith, rules}
use Rattle.std.proofs.Math.Seq.{take-length}
use Rattle.rsc_uses.proofs.PrimitivesLemmas.{more_before, none_before}
use Rattle.rsc_uses.proofs.primitives.count_characters_from_back.Goals as goal

pub loop-end-init : goal.loop-end-init
loop-end-init c = record { within = omega arith; count = omega arith; chars = λ cs h. (cs, (rw take-length h, omega arith)) }

pub loop-end-preserved : goal.loop-end-preserved
loop-end-preserved c = record {
  within = grind rules;
  count = grind rules;
  chars = λ cs h.
      let left = c.loop-end.invariant.chars cs h in
      let next = more_before c.encoding_is_that_of_std.ensures c.args.bytes.now c.loop-end.end c.last_width-end.result c.loop-end-test.true
      c.loop-end.invariant.within c.last_width-end.ensures.width left.0 left.1.0 in
      (next.0, (next.1.0, omega (arith, left.1.1, next.1.1)));
}

pub returns : goal.returns
returns c = λ cs h.
    let all = c.loop-end.invariant.chars cs h in
    let none = none_before c.args.bytes.now c.loop-end.end (omega (arith, c.loop-end-test.false)) all.0 all.1.0 in
    omega (arith, all.1.1, none)
