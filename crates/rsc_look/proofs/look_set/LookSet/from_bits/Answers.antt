use Rattle.std.proofs.Common.{arith}
use Rattle.rsc_look.proofs.LookSetLayoutLemmas.{none_exact}
use Rattle.rsc_look.proofs.look_set.LookSet.from_bits.Goals as goal

pub returns-else-bits-le-ALL_BITS-clause-value : goal.returns-else-bits-le-ALL_BITS-clause-value
returns-else-bits-le-ALL_BITS-clause-value c = λ set. none_exact c.args.bits set (omega arith)
