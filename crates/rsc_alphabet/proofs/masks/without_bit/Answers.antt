use Rattle.std.proofs.Common.{◌*◌, ◌%◌, ◌^◌, refl, ◌∙◌, arith}
use Rattle.std.specs.Int.{w128, bit_not}
use Rattle.rsc_alphabet.proofs.ByteSetLayoutLemmas.{has_bit_both, has_bit_not, has_bit_one}
use Rattle.rsc_alphabet.proofs.masks.without_bit.Goals as goal

pub returns : goal.returns
returns c = λ i l.
    has_bit_both (bit_not w128 (1 * 2 ^ c.args.bit % 2 ^ 128)) c.args.mask i
    ∙ rw (has_bit_not (1 * 2 ^ c.args.bit % 2 ^ 128) i (omega arith) l, has_bit_one c.args.bit 128 i c.requires) refl
