use Rattle.std.proofs.Common.{◌-◌, arith}
use Rattle.std.proofs.lemmas.Bool.Decides.{nat_tests}
use Rattle.rsc_alphabet.proofs.ByteSetLayoutLemmas.{contains_masked}
use Rattle.rsc_alphabet.proofs.byte_set.ByteSet.between.Goals as goal

pub returns : goal.returns
returns c = λ b. grind (arith, nat_tests, contains_masked, c.within-2.ensures b, c.within-3.ensures (b - 128))
