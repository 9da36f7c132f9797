use Rattle.std.proofs.Common.{◌+◌, ◌-◌, ◌*◌, ◌/◌, ◌%◌, ◌^◌, refl, ◌∙◌, arith}
use Rattle.std.proofs.Math.Bool.{or-false}
use Rattle.std.proofs.lemmas.Nat.Bits.{bit_at_above}
use Rattle.rsc_primitives.specs.Bits.{has_bit}
use Rattle.rsc_alphabet.proofs.ByteSetLayoutLemmas.{bit_at_shl, bit_at_shl_below, bit_at_shr, has_bit_either}
use Rattle.rsc_alphabet.proofs.masks.shifted_left.Goals as goal

pub returns : goal.returns
returns c = record {
  first = has_bit_either (c.args.mask * 2 ^ 1 % 2 ^ 128) (c.args.below / 2 ^ 127) 0
      ∙ rw (bit_at_shl_below c.args.mask 1 128 0 (omega arith) (omega arith), bit_at_shr c.args.below 127 0) refl;
  others = λ i low high.
      let none = bit_at_above c.args.below 128 (127 + i) c.ranges.below.fits (omega arith) in
      has_bit_either (c.args.mask * 2 ^ 1 % 2 ^ 128) (c.args.below / 2 ^ 127) i
      ∙ rw (bit_at_shl c.args.mask 1 128 i low high, bit_at_shr c.args.below 127 i, none) (or-false (has_bit c.args.mask (i - 1)));
}
