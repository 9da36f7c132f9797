use Rattle.std.proofs.Common.{◌≡◌, ◌+◌, ◌-◌, arith}
use Rattle.std.proofs.lemmas.Bool.Decides.{nat_tests}
use Rattle.rsc_alphabet.proofs.ByteSetLayoutLemmas.{contains_masked}
use Rattle.rsc_alphabet.proofs.byte_set.ByteSet.from_blocks.Goals as goal

pub returns-clause-third : goal.returns-clause-third
returns-clause-third c = λ i l. grind (arith, nat_tests, contains_masked, c.joined-2.ensures.below i)

pub returns-clause-fourth : goal.returns-clause-fourth
returns-clause-fourth c = λ i l. let e : 192 + i - 128 ≡ 64 + i = omega arith in grind (arith, nat_tests, contains_masked, c.joined-2.ensures.above i)
