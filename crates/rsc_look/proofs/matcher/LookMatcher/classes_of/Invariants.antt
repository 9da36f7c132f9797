use Rattle.std.proofs.Common.{take}
use Rattle.rsc_look.proofs.BoundariesLemmas.{AreGathered}
use Rattle.rsc_look.proofs.matcher.LookMatcher.classes_of.Given as goal

-- the set has the boundaries of the members so far
abbrev pub invariant-loop-look : goal.invariant-loop-look
invariant-loop-look g l = AreGathered l.set (take l.look-index l.looks) l.self.0
