use Rattle.std.proofs.lemmas.Bool.{eq-eqb, eqb-true}
use Rattle.rsc_alphabet.proofs.ByteSetLayoutLemmas.{run_within}
use Rattle.rsc_alphabet.proofs.masks.has_bits.Goals as goal

pub returns : goal.returns
returns c =
    let within = run_within c.run_of_bits.result c.args.mask c.args.start c.args.end c.ranges.mask.fits c.requires.1 c.run_of_bits.ensures in
    (λ h. within.0 (eqb-true _ _ h), λ all. eq-eqb _ _ (within.1 all))
