-- What is wrong with a list of states.
use Rattle.std.specs.Prelude.{◌≡◌, ℕ, ◌*◌, ◌<◌, ◌≤◌, nat_lt, List, length, slice_get, Option, Some, None, if◌then◌else◌}
use Rattle.rsc_captures.specs.Groups.{GroupLists, all_group_count}
use Rattle.rsc_nfa.specs.declared.state.State.{State}
use Rattle.rsc_nfa.specs.declared.state.State.TheVariants.{ByteRange, Assert, Fork, Capture, Accept}
use Rattle.rsc_nfa.specs.declared.error.BuildError.{BuildError}
use Rattle.rsc_nfa.specs.declared.error.BuildError.TheVariants.{EmptyRange, UnknownState, UnknownSlot, UnknownPattern}

-- the first of two that is there
abbrev pub or_else : Option BuildError → Option BuildError → Option BuildError
or_else (Some e) other = Some e
or_else None other = other

-- the state s names a state that isn't below n
abbrev pub target_fault : ℕ → ℕ → ℕ → Option BuildError
target_fault n s target = if nat_lt target n then None else Some (UnknownState s target)

-- the fault of the state numbered s, among n states
abbrev pub fault_of_state : GroupLists → ℕ → ℕ → State → Option BuildError
fault_of_state groups n s (ByteRange a b next) = if nat_lt b a then Some (EmptyRange s) else target_fault n s next
fault_of_state groups n s (Assert l next) = target_fault n s next
fault_of_state groups n s (Fork a b) = or_else (target_fault n s a) (target_fault n s b)
fault_of_state groups n s (Capture slot next) =
    or_else (target_fault n s next) (if nat_lt slot (2 * all_group_count groups) then None else Some (UnknownSlot s slot))
fault_of_state groups n s (Accept p) = if nat_lt p (length groups) then None else Some (UnknownPattern s p)

-- the fault of a state that may be there, numbered s among n states
abbrev pub fault_in : GroupLists → ℕ → ℕ → Option State → Option BuildError
fault_in groups n s None = None
fault_in groups n s (Some state) = fault_of_state groups n s state

-- the fault of the state at s, if there is one there
abbrev pub fault_at : GroupLists → List State → ℕ → Option BuildError
fault_at groups states s = fault_in groups (length states) s (slice_get states s)

-- no state has a fault
abbrev pub AreFaultless : GroupLists → List State → Type 0
AreFaultless groups states = (s : ℕ) → s < length states → fault_at groups states s ≡ None

-- the fault of a state before which no state has one
pub record IsFirstFaultOfStates (groups : GroupLists) (states : List State) (e : BuildError) : Type 0 where
  pub state : ℕ
  pub there : state < length states
  pub fault : fault_at groups states state ≡ Some e
  pub none_before : (s : ℕ) → s < state → fault_at groups states s ≡ None

-- what a state names is there, among n states, and its range isn't empty
abbrev pub IsStateWithin : GroupLists → ℕ → State → Type 0
IsStateWithin groups n (ByteRange a b next) = (a ≤ b) × (next < n)
IsStateWithin groups n (Assert l next) = next < n
IsStateWithin groups n (Fork a b) = (a < n) × (b < n)
IsStateWithin groups n (Capture slot next) = (next < n) × (slot < 2 * all_group_count groups)
IsStateWithin groups n (Accept p) = p < length groups
