use Rattle.std.proofs.Common.{◌≡◌, ◌≤◌}
use Rattle.rsc_alphabet.specs.Partitions.{class_of}
use Rattle.rsc_show.specs.Shares.{exceeds}
use Rattle.rsc_show.proofs.shares.boundaries_beyond.Given as goal

-- the boundaries before the byte are counted
abbrev pub invariant-loop-byte : goal.invariant-loop-byte
invariant-loop-byte l = (l.count ≡ class_of (exceeds l.classes l.others) l.byte) × (l.count ≤ l.byte)
