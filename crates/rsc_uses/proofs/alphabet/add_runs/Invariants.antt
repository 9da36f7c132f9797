use Rattle.std.proofs.Common.{◌≡◌}
use Rattle.std.specs.FinSet as sets
use Rattle.rsc_alphabet.specs.ByteSets.{runs}
use Rattle.rsc_alphabet.specs.Partitions.{boundaries_of_ranges}
use Rattle.rsc_uses.proofs.alphabet.add_runs.Given as goal

abbrev pub invariant-loop-start : goal.invariant-loop-start
invariant-loop-start l =
    (goal.iterator-loop-start).can_next l.start-iterator
    × (goal.iterator-loop-start).is_finite l.start-iterator
    × (sets.union l.partition (boundaries_of_ranges l.start-iterator) ≡ sets.union l.fn.partition (boundaries_of_ranges (runs l.set)))
