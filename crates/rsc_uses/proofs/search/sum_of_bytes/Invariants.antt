use Rattle.std.proofs.Common.{◌≡◌, ◌+◌, ◌-◌, ◌%◌, ◌^◌, ◌≤◌, length, slice_index, sum_by}
use Rattle.std.specs.List.{range_with_len}
use Rattle.rsc_uses.proofs.search.sum_of_bytes.Given as goal

-- the bytes so far and what is left are all bytes of the range
abbrev pub invariant-loop-at : goal.invariant-loop-at
invariant-loop-at l =
    (goal.iterator-loop-at).can_next l.at-iterator × (goal.iterator-loop-at).is_finite l.at-iterator × (l.at-iterator.end ≤ length l.haystack)
    × ((l.sum + sum_by (slice_index l.haystack) (range_with_len l.at-iterator.start (l.at-iterator.end - l.at-iterator.start))) % 2 ^ 64
    ≡ sum_by (slice_index l.input.haystack) (range_with_len l.input.span.start (l.input.span.end - l.input.span.start)) % 2 ^ 64)
