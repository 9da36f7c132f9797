use Rattle.std.proofs.Common.{◌≡◌, ℕ, ◌<◌, ◌≤◌}
use Rattle.rsc_captures.proofs.Prelude.{lists_in, explicit_before, slots_end, HasNoOtherBefore}
use Rattle.rsc_captures.proofs.faults.first_other_fault.Given as goal

-- there is no other fault before the pattern, and `within` is the first whose slots pass the limit, if there is one
abbrev pub invariant-loop-p : goal.invariant-loop-p
invariant-loop-p g l = record {
  before : l.before ≡ explicit_before (lists_in l.lists) l.p;
  groups : HasNoOtherBefore l.limit (lists_in l.lists) l.p 0;
  least : (q : ℕ) → q < l.within → slots_end (lists_in l.lists) q ≤ l.limit;
  count : l.within ≤ l.p;
  past : l.within < l.p → l.limit < slots_end (lists_in l.lists) l.within;
}
