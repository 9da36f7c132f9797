use Rattle.std.proofs.Common.{◌≡◌, ℕ, ◌+◌, ◌-◌, ◌<◌}
use Rattle.std.specs.Int.{bit_at}
use Rattle.rsc_alphabet.specs.ByteSetLayout.{members_left}
use Rattle.rsc_alphabet.proofs.ascending.AscendingIterator.next.Given as goal

-- no member was passed over
abbrev pub invariant-loop-self : goal.invariant-loop-self
invariant-loop-self l =
    let s = l.self-inside in
    (s.number < 4) × ((i : ℕ) → bit_at s.block i ≡ 1 → s.byte + i < 256) × (members_left s.set s.number s.byte s.block ≡ l.fn.self)

abbrev pub decreases-loop-self : goal.decreases-loop-self
decreases-loop-self l = 3 - l.self-inside.number
