use Rattle.std.proofs.Common.{length, drop, ◌-◌, ◌≡◌, ◌+◌, ◌≤◌, ℕ, List}
use Rattle.rsc_primitives.specs.Utf8.{EncodesAll}
use Rattle.rsc_uses.proofs.primitives.count_characters.Given as goal

-- the characters so far, and what is left
abbrev pub invariant-loop-at : goal.invariant-loop-at
invariant-loop-at l = record {
  within : l.at ≤ length l.bytes;
  count : l.count ≤ l.at;
  chars : (cs : List ℕ) → EncodesAll l.bytes cs → (rest : List ℕ) × (EncodesAll (drop l.at l.bytes) rest × (l.count + length rest ≡ length cs));
}

abbrev pub decreases-loop-at : goal.decreases-loop-at
decreases-loop-at l = length l.bytes - l.at
