use Rattle.std.proofs.Common.{refl}
use Rattle.rsc_engine.proofs.ForwardLemmas.{leftmost-end}
use Rattle.rsc_engine.proofs.dfa.Dfa.leftmost_end.Goals as goal

pub returns-in-Some-clause-found : goal.returns-in-Some-clause-found
returns-in-Some-clause-found g c = leftmost-end _ _ _ (rw c.in-Some.is at (c.in_ok-end_of.ensures.some refl))
