use Rattle.std.proofs.Common.{arith}
use Rattle.std.proofs.lemmas.Bool.Decides.{nat_tests}
use Rattle.rsc_alphabet.proofs.ByteSetLayoutLemmas.{contains_masked, removed}
use Rattle.rsc_alphabet.proofs.byte_set.ByteSet.remove.Goals as goal

pub returns-then-byte-lt128-clause-value : goal.returns-then-byte-lt128-clause-value
returns-then-byte-lt128-clause-value c = removed _ _ c.args.byte (λ b. grind (arith, nat_tests, contains_masked))

pub returns-else-byte-lt128-clause-value : goal.returns-else-byte-lt128-clause-value
returns-else-byte-lt128-clause-value c = removed _ _ c.args.byte (grind (arith, nat_tests, contains_masked))
