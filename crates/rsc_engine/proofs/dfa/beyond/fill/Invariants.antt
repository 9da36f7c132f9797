use Rattle.std.proofs.Common.{◌≡◌, ℕ, ◌-◌, length, slice_index_or, None}
use Rattle.rsc_engine.proofs.dfa.beyond.fill.Given as goal

abbrev pub invariant-places : goal.invariant-places
invariant-places l = record { same : (i : ℕ) → slice_index_or l.steps.items i None ≡ slice_index_or l.initial.steps.items i None }

abbrev pub decreases-places : goal.decreases-places
decreases-places l = 4096 - length l.steps.items
