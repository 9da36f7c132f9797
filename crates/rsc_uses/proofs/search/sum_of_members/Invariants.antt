use Rattle.std.proofs.Common.{◌≡◌, ◌+◌, ◌%◌, ◌^◌, slice_index, sum_by}
use Rattle.rsc_uses.proofs.search.sum_of_members.Given as goal

-- the members' entries so far and what is left are all members' entries
abbrev pub invariant-loop-pid : goal.invariant-loop-pid
invariant-loop-pid l =
    (goal.iterator-loop-pid).can_next l.pid-iterator × (goal.iterator-loop-pid).is_finite l.pid-iterator
    × ((l.sum + sum_by (slice_index l.table) l.pid-iterator) % 2 ^ 64 ≡ sum_by (slice_index l.table) l.set.members % 2 ^ 64)
