use Rattle.std.proofs.Common.{◌≡◌, ℕ, ◌≤◌, ◌-◌, length, slice_index_or}
use Rattle.rsc_engine.specs.declared.dfa.entries.Lead.TheVariants.{Unknown}
use Rattle.rsc_engine.proofs.dfa.entries.widen.Given as goal

abbrev pub invariant-entries : goal.invariant-entries
invariant-entries l = record {
  same : (i : ℕ) → slice_index_or l.leads.items i Unknown ≡ slice_index_or l.initial.leads.items i Unknown;
  longer : length l.initial.leads.items ≤ length l.leads.items;
}

abbrev pub decreases-entries : goal.decreases-entries
decreases-entries l = l.len - length l.leads.items
