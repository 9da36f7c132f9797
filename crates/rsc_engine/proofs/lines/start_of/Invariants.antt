use Rattle.std.proofs.Common.{◌≢◌, ◌-◌, ◌<◌, ◌≤◌, ℕ, slice_index}
use Rattle.rsc_look.specs.Looks.{line_feed}
use Rattle.rsc_engine.proofs.lines.start_of.Given as goal

-- no line feed is between
abbrev pub invariant-loop-start : goal.invariant-loop-start
invariant-loop-start l = record {
  from : l.from ≤ l.start;
  before : l.start ≤ l.at;
  inner : (i : ℕ) → l.start ≤ i → i < l.at → slice_index l.haystack i ≢ line_feed;
}

abbrev pub decreases-loop-start : goal.decreases-loop-start
decreases-loop-start l = l.start - l.from
