use Rattle.std.proofs.Common.{◌≢◌, ◌<◌, ◌≤◌, ℕ, slice_index}
use Rattle.rsc_look.specs.Looks.{line_feed}
use Rattle.rsc_engine.proofs.lines.end_of.Given as goal

-- no line feed is between
abbrev pub invariant-loop-end : goal.invariant-loop-end
invariant-loop-end l = (i : ℕ) → l.at ≤ i → i < l.end → slice_index l.haystack i ≢ line_feed
