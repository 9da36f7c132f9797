use Rattle.std.proofs.Common.{refl}
use Rattle.rsc_engine.proofs.dfa.Dfa.earliest_end.Goals as goal

pub returns-in-Some-clause-found : goal.returns-in-Some-clause-found
returns-in-Some-clause-found g c = rw c.in-Some.is at (c.in_ok-end_of.ensures.earliest refl)
