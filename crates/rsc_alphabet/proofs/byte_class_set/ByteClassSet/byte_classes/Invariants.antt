use Rattle.std.proofs.Common.{◌≡◌, ◌<◌, ℕ, length, slice_index}
use Rattle.std.specs.FinSet as sets
use Rattle.rsc_alphabet.specs.Partitions.{class_of}
use Rattle.rsc_alphabet.proofs.byte_class_set.ByteClassSet.byte_classes.Given as goal

-- the bytes so far have their classes
abbrev pub invariant-loop-byte : goal.invariant-loop-byte
invariant-loop-byte l = (length l.classes ≡ 256) × ((k : ℕ) → k < l.byte → slice_index l.classes k ≡ class_of (sets.contains l.self-inside.ends) k)
