use Rattle.std.proofs.Common.{◌≡◌, ℕ, ◌-◌, ◌<◌, ◌≤◌, true, false, slice_index}
use Rattle.rsc_engine.specs.NeededLayout.{is_in}
use Rattle.rsc_engine.proofs.dfa.needed.Needed.stand_before.Given as goal

-- no second byte so far is after a first one
abbrev pub invariant-bytes : goal.invariant-bytes
invariant-bytes l = l.found ≡ false → (i : ℕ) → l.from ≤ i → i < l.i
    → ¬ ((is_in l.self.first (slice_index l.haystack (i - 1)) ≡ true) × (is_in l.self.second (slice_index l.haystack i) ≡ true))
