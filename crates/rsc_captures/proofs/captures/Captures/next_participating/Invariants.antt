use Rattle.std.proofs.Common.{◌≡◌}
use Rattle.rsc_captures.specs.CapturedLayout.{participating_from}
use Rattle.rsc_captures.proofs.captures.Captures.next_participating.Given as goal

-- no group before the index participates
abbrev pub invariant-loop-index : goal.invariant-loop-index
invariant-loop-index g l = participating_from l.self l.from ≡ participating_from l.self l.index
