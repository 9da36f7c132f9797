use Rattle.std.proofs.Common.{◌≡◌, ◌+◌, ◌*◌, ◌/◌, ◌%◌, ◌^◌, refl, ◌∙◌, arith}
use Rattle.std.proofs.Math.Bool.{or-false}
use Rattle.std.proofs.lemmas.Nat.Bits.{bit_at_above}
use Rattle.rsc_primitives.specs.Bits.{has_bit}
use Rattle.rsc_alphabet.proofs.ByteSetLayoutLemmas.{bit_at_shl, bit_at_shl_below, bit_at_shr, has_bit_either}
use Rattle.rsc_alphabet.proofs.masks.shifted_right.Goals as goal

pub returns : goal.returns
returns c = record {
  last =
      let none = bit_at_above c.args.mask 128 128 c.ranges.mask.fits (omega arith) in
      has_bit_either (c.args.mask / 2 ^ 1) (c.args.above * 2 ^ 127 % 2 ^ 128) 127
      ∙ rw (bit_at_shr c.args.mask 1 127, none, bit_at_shl c.args.above 127 128 127 (omega arith) (omega arith)) refl;
  others = λ i l.
      let e : 1 + i ≡ i + 1 = omega arith in
      has_bit_either (c.args.mask / 2 ^ 1) (c.args.above * 2 ^ 127 % 2 ^ 128) i
      ∙ rw (bit_at_shr c.args.mask 1 i, e, bit_at_shl_below c.args.above 127 128 i l (omega arith)) (or-false (has_bit c.args.mask (i + 1)));
}
