-- Where the states of a part lead, and in which slots they record.
use Rattle.std.specs.Prelude.{◌≡◌, ℕ, ◌<◌, ◌≤◌, ◌⊎◌, List, slice_get, Some}
use Rattle.rsc_nfa.specs.declared.state.State.{State}
use Rattle.rsc_nfa.specs.declared.state.State.TheVariants.{ByteRange, Assert, Fork, Capture, Accept}

-- the state is one from low on and below high, or the next one
abbrev pub IsOnWay : ℕ → ℕ → ℕ → ℕ → Type 0
IsOnWay low high next s = ((low ≤ s) × (s < high)) ⊎ (s ≡ next)

-- the state leads only to such states, accepts nothing, and records only in slots after the given one
abbrev pub StaysOnWay : (ℕ → Type 0) → ℕ → State → Type 0
StaysOnWay IsSuch slot (ByteRange a b next) = IsSuch next
StaysOnWay IsSuch slot (Assert l next) = IsSuch next
StaysOnWay IsSuch slot (Fork a b) = IsSuch a × IsSuch b
StaysOnWay IsSuch slot (Capture c next) = (slot < c) × IsSuch next
StaysOnWay IsSuch slot (Accept p) = ⊥

-- the states from low to high are entered at `first` and left to `next` alone, and they record only in slots after the given one
pub record Encloses (slot low high first next : ℕ) (states : List State) : Type 0 where
  pub begins : IsOnWay low high next first
  pub stays : (k : ℕ) (state : State) → low ≤ k → k < high → slice_get states k ≡ Some state
      → StaysOnWay (λ s. IsOnWay low high next s) slot state
