use Rattle.std.proofs.Common.{arith}
use Rattle.std.proofs.lemmas.Grind.{common_steps}
use Rattle.rsc_alphabet.proofs.IteratorsLemmas.{is_bytes}
use Rattle.rsc_alphabet.proofs.byte_classes.ByteClasses.singletons.Goals as goal

pub returns-2-clause-value : goal.returns-2-clause-value
returns-2-clause-value c = is_bytes _ (grind (arith, common_steps)) (λ k l. grind (arith, common_steps, c.loop-byte.invariant.1 k))
