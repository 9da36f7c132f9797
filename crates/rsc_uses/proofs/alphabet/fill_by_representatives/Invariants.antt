use Rattle.std.proofs.Common.{◌≡◌, length}
use Rattle.std.specs.declared.ops.Bound.TheVariants.{Unbounded}
use Rattle.rsc_alphabet.specs.Iterators.{class_at, representatives_of}
use Rattle.rsc_uses.specs.Leads.{lead_of}
use Rattle.rsc_uses.proofs.AlphabetLemmas.{Awaits}
use Rattle.rsc_uses.proofs.alphabet.fill_by_representatives.Given as goal

-- each representative is still to come, or the entry of its class has where it leads
abbrev pub invariant-loop-unit : goal.invariant-loop-unit
invariant-loop-unit l =
    (goal.iterator-loop-unit).can_next l.unit-iterator × (goal.iterator-loop-unit).is_finite l.unit-iterator
    × (length l.row ≡ length l.fn.row)
    × Awaits (class_at l.map) (lead_of l.leads l.end) l.row l.unit-iterator (representatives_of l.map Unbounded Unbounded)
