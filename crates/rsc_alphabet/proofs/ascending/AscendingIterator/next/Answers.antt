use Rattle.std.proofs.Common.{◌≡◌, ◌+◌, [], ◌∷◌, sym, ap, ◌∙◌, arith, rules}
use Rattle.rsc_alphabet.specs.ByteSetLayout.{members_left}
use Rattle.rsc_alphabet.proofs.ByteSetLayoutLemmas.{none_left, next_block, whole_block_fits, lowest_left, first_left}
use Rattle.rsc_alphabet.proofs.ascending.AscendingIterator.next.Goals as goal

pub returns-then-self-eq1 : goal.returns-then-self-eq1
returns-then-self-eq1 c =
    let s = c.self.inside in
    let steps : c.args.self.now ≡ s.byte ∷ members_left s.set s.number (s.byte + 1) c.block_shifted_right-self-inside.result =
    sym c.self.view_is ∙ first_left s.set s.number s.byte s.block c.block_shifted_right-self-inside.result (omega (arith, c.self.ranges)) c.if-self-eq1.true
    c.block_shifted_right-self-inside.ensures in
    record { steps = steps; goes = search rules }

pub returns-then-self-eq3-clause-steps : goal.returns-then-self-eq3-clause-steps
returns-then-self-eq3-clause-steps c =
    let s = c.loop-self.self-inside in
    let none : members_left s.set s.number s.byte s.block ≡ [] =
    ap (members_left s.set s.number s.byte) c.loop-self-test.true ∙ none_left s.set s.number s.byte c.if-self-eq3.true in
    (sym c.loop-self.invariant.2 ∙ none, none)

pub loop-self-preserved : goal.loop-self-preserved
loop-self-preserved c =
    let s = c.loop-self.self-inside in
    rw c.from.ensures (
      omega (arith, c.loop-self.invariant.0),
      whole_block_fits (s.number + 1) c.block-self-inside.result (omega (arith, c.loop-self.invariant.0)) (omega (arith, c.block-self-inside.type_inv)),
      next_block s.set s.number s.byte c.block-self-inside.result (omega (arith, c.loop-self.invariant.0)) c.block-self-inside.ensures.bits
          ∙ sym (ap (members_left s.set s.number s.byte) c.loop-self-test.true) ∙ c.loop-self.invariant.2,
    )

pub returns : goal.returns
returns c =
    let s = c.loop-self.self-inside in
    let low = c.lowest_bit-gap.ensures in
    let steps : c.args.self.now ≡ (s.byte + c.from-2.result) ∷ members_left s.set s.number (s.byte + c.from-2.result + 1)
    c.block_shifted_right-self-inside-2.result = rw c.from-2.ensures (
    sym c.loop-self.invariant.2
    ∙ lowest_left s.set s.number s.byte s.block c.block_shifted_right-self-inside-2.result c.lowest_bit-gap.result (omega arith) low.fits low.here low.below
    (λ i. c.block_shifted_right-self-inside-2.ensures i ∙ c.block_shifted_right.ensures (1 + i))) in
    record { steps = steps; goes = search rules }
