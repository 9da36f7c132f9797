use Rattle.std.specs.Int.{w64}
use Rattle.std.proofs.lemmas.Nat.Bits.{bit_at-trailing_zeros}
use Rattle.rsc_alphabet.proofs.masks.lowest_bit.Goals as goal

pub returns : goal.returns
returns c = let lowest = bit_at-trailing_zeros w64 c.args.block c.requires c.ranges.block.fits in
    record { fits = lowest.0; here = lowest.1; below = lowest.2 }
