use Rattle.std.proofs.Common.{◌≡◌, ◌+◌, ◌-◌, ◌≤◌, length}
use Rattle.rsc_example.proofs.search.Search.search_block.Given as goal

abbrev pub invariant-loop-lines : goal.invariant-loop-lines
invariant-loop-lines g l = record {
  haystack : l.lines.haystack ≡ l.text;
  from : l.from ≤ l.lines.from;
  within : l.from ≤ length l.text;
}

abbrev pub decreases-loop-lines : goal.decreases-loop-lines
decreases-loop-lines g l = length l.text + 1 - l.lines.from
