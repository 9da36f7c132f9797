use Rattle.std.proofs.Common.{length, take, ◌≡◌, ◌+◌, ◌≤◌, ℕ, List}
use Rattle.rsc_primitives.specs.Utf8.{EncodesAll}
use Rattle.rsc_uses.proofs.primitives.count_characters_from_back.Given as goal

-- the characters that are left, and those so far
abbrev pub invariant-loop-end : goal.invariant-loop-end
invariant-loop-end l = record {
  within : l.end ≤ length l.bytes;
  count : l.count + l.end ≤ length l.bytes;
  chars : (cs : List ℕ) → EncodesAll l.bytes cs → (rest : List ℕ) × (EncodesAll (take l.end l.bytes) rest × (l.count + length rest ≡ length cs));
}

abbrev pub decreases-loop-end : goal.decreases-loop-end
decreases-loop-end l = l.end
