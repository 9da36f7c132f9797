use Rattle.std.proofs.Common.{◌∙◌, arith}
use Rattle.rsc_alphabet.proofs.PartitionsLemmas.{class_of_low, class_of_high}
use Rattle.rsc_alphabet.proofs.byte_set.ByteSet.count_below.Goals as goal

pub returns-then-byte-lt128-clause-value : goal.returns-then-byte-lt128-clause-value
returns-then-byte-lt128-clause-value c =
    let s = c.self.inside in
    rw (← c.self.view_is) (c.ones_below.ensures.value ∙ class_of_low s.low s.high c.args.byte c.self.invariant.1 (omega arith))

pub returns-else-byte-lt128-clause-value : goal.returns-else-byte-lt128-clause-value
returns-else-byte-lt128-clause-value c =
    let s = c.self.inside in
    let halves = class_of_high s.low s.high c.args.byte c.self.invariant.1 (omega arith) in
    rw (← c.self.view_is) (omega (arith, c.ones.ensures.value, c.ones_below-else-byte-lt128.ensures.value, halves))
