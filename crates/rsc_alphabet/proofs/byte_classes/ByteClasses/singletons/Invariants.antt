use Rattle.std.proofs.Common.{◌≡◌, ◌<◌, ℕ, length, slice_index}
use Rattle.rsc_alphabet.proofs.byte_classes.ByteClasses.singletons.Given as goal

-- the bytes so far have their own classes
abbrev pub invariant-loop-byte : goal.invariant-loop-byte
invariant-loop-byte l = (length l.classes ≡ 256) × ((k : ℕ) → k < l.byte → slice_index l.classes k ≡ k)
