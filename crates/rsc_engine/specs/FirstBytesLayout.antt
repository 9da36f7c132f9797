-- With which bytes matches begin. These serve the proof of `dfa`, whose public contracts cite `Ends`, `Preferred` and `Searches` alone.
use Rattle.std.specs.Prelude.{◌≡◌, ℕ, ◌+◌, ◌<◌, ◌≤◌, Bool, true, false, List, slice_get, slice_index, Some}
use Rattle.rsc_nfa.specs.declared.state.State.{State}
use Rattle.rsc_nfa.specs.declared.state.State.TheVariants.{ByteRange, Assert, Fork, Capture, Accept}
use Rattle.rsc_engine.specs.RowsLayout.{Machine, IsMarked}
use Rattle.rsc_engine.specs.NeededLayout.{is_in}

-- each state to which it leads with no byte is marked, it leads over bytes of the range alone, and it's no match
abbrev pub BeginsIn : ℕ × ℕ → List Bool → State → Type 0
BeginsIn range marks (ByteRange low high next) = (range.0 ≤ low) × (high ≤ range.1)
BeginsIn range marks (Assert l next) = IsMarked marks next
BeginsIn range marks (Fork s t) = IsMarked marks s × IsMarked marks t
BeginsIn range marks (Capture slot next) = IsMarked marks next
BeginsIn range marks (Accept p) = false ≡ true

-- the first n states do so, where they are marked
abbrev pub BeginIn : ℕ → List State → ℕ × ℕ → List Bool → Type 0
BeginIn n states range marks = (s : ℕ) (state : State) → s < n → slice_get states s ≡ Some state → IsMarked marks s → BeginsIn range marks state

-- each match begins with a byte of the range: all states before its first byte are marked
pub record HasFirst (m : Machine) (range : ℕ × ℕ) : Type 0 where
  pub marks : List Bool
  pub first : IsMarked marks m.start_state
  pub begins : (s : ℕ) (state : State) → slice_get m.states s ≡ Some state → IsMarked marks s → BeginsIn range marks state

-- from one position up to another no byte is of the range
abbrev pub LacksFirst : ℕ × ℕ → List ℕ → ℕ → ℕ → Type 0
LacksFirst range haystack start end = (i : ℕ) → start ≤ i → i < end → ¬ (is_in range (slice_index haystack i) ≡ true)
