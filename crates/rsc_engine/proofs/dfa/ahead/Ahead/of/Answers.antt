use Rattle.std.proofs.Common.{refl}
use Rattle.rsc_engine.proofs.dfa.ahead.Ahead.of.Goals as goal

pub invariant_of-result : goal.invariant_of-result
invariant_of-result g c = rw c.new-plan.ensures.program at (c.in_ok-go_back.ensures.whole refl)
