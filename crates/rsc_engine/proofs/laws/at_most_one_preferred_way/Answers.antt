use Rattle.std.proofs.Common.{◌≤◌}
use Rattle.rsc_engine.proofs.PreferredWaysLemmas.{one_way}
use Rattle.rsc_engine.proofs.laws.at_most_one_preferred_way.Goals as goal

pub returns-clause-end : goal.returns-clause-end
returns-clause-end g = λ x p most i j k one other f h. (one_way x p (λ m. m ≤ most) i j k one other f h).0

pub returns-clause-records : goal.returns-clause-records
returns-clause-records g = λ x p most i j k one other f h. (one_way x p (λ m. m ≤ most) i j k one other f h).1
