use Rattle.std.proofs.Common.{◌≤◌, ◌<◌, ◌-◌, ℕ}
use Rattle.rsc_show.specs.Sides.{ReachesPast}
use Rattle.rsc_show.proofs.positions.is_inside.Given as goal

-- no character that begins in the bytes so far reaches past the position
abbrev pub invariant-loop-start : goal.invariant-loop-start
invariant-loop-start l = (s : ℕ) → l.at - 3 ≤ s → s < l.start → ¬ (ReachesPast l.haystack s l.at)
