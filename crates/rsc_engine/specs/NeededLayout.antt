-- Two bytes that stand side by side in every match. These serve the proof of `dfa`, whose public contracts cite `Ends`, `Preferred` and `Searches` alone.
use Rattle.std.specs.Prelude.{◌≡◌, ℕ, ◌+◌, ◌-◌, ◌*◌, ◌<◌, ◌≤◌, ◌&&◌, nat_le, Bool, true, false, List, length, slice_get, slice_index, Some, if◌then◌else◌}
use Rattle.rsc_nfa.specs.declared.state.State.{State}
use Rattle.rsc_nfa.specs.declared.state.State.TheVariants.{ByteRange, Assert, Fork, Capture, Accept}
use Rattle.rsc_engine.specs.RowsLayout.{Machine, IsMarked}

-- the byte is of the range
abbrev pub is_in : ℕ × ℕ → ℕ → Bool
is_in range x = nat_le range.0 x && nat_le x range.1

-- no byte of the second range is directly after one of the first, both in the span
abbrev pub HasNoPair : ℕ × ℕ → ℕ × ℕ → List ℕ → ℕ → ℕ → Type 0
HasNoPair a b haystack start end = (i : ℕ) → start < i → i < end →
    ¬ ((is_in a (slice_index haystack (i - 1)) ≡ true) × (is_in b (slice_index haystack i) ≡ true))

-- a state has two marks: where the byte before is of the first range, and where it isn't
abbrev pub mark_of : ℕ → Bool → ℕ
mark_of s after = 2 * s + (if after then 1 else 0)

-- each state that it leads to is marked, except over bytes of the second range directly after one of the first; and it's no match
abbrev pub PassesMarksOn : ℕ × ℕ → ℕ × ℕ → List Bool → Bool → State → Type 0
PassesMarksOn a b marks after (ByteRange low high next) =
    (x : ℕ) → low ≤ x → x ≤ high → (after ≡ true → ¬ (is_in b x ≡ true)) → IsMarked marks (mark_of next (is_in a x))
PassesMarksOn a b marks after (Assert l next) = IsMarked marks (mark_of next after)
PassesMarksOn a b marks after (Fork s t) = IsMarked marks (mark_of s after) × IsMarked marks (mark_of t after)
PassesMarksOn a b marks after (Capture slot next) = IsMarked marks (mark_of next after)
PassesMarksOn a b marks after (Accept p) = false ≡ true

-- the last n states are passed, where they are marked
abbrev pub PassMarksOn : ℕ → List State → ℕ × ℕ → ℕ × ℕ → List Bool → Type 0
PassMarksOn n states a b marks = (s : ℕ) (after : Bool) (state : State) → length states ≤ s + n → slice_get states s ≡ Some state
    → IsMarked marks (mark_of s after) → PassesMarksOn a b marks after state

-- each match has a byte of the second range directly after one of the first: without such bytes no marked state accepts
pub record NeedsPair (m : Machine) (a b : ℕ × ℕ) : Type 0 where
  pub marks : List Bool
  pub first : (after : Bool) → IsMarked marks (mark_of m.start_state after)
  pub passed : (s : ℕ) (after : Bool) (state : State) → slice_get m.states s ≡ Some state → IsMarked marks (mark_of s after)
      → PassesMarksOn a b marks after state
