use Rattle.rsc_engine.proofs.PatternsLemmas.{goes-takes}
use Rattle.rsc_engine.proofs.laws.nonempty_patterns_take_bytes.Goals as goal

pub returns : goal.returns
returns g = λ x p i j none goes. goes-takes x p i j none goes
