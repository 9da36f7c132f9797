-- How a run's records are written one after the other.
use Rattle.std.specs.Prelude.{ℕ, nat_lt, List, length, slice_set, Option, Some, None, if◌then◌else◌}
use Rattle.rsc_nfa.specs.declared.state.State.{State}
use Rattle.rsc_nfa.specs.declared.state.State.TheVariants.{Capture}

-- the slot in which a state records, if it records
abbrev pub slot_recorded : Option State → Option ℕ
slot_recorded (Some (Capture slot next)) = Some slot
slot_recorded _ = None

-- the offsets with one in a slot, if there is a slot to write and it is there
abbrev pub put_offset : List (Option ℕ) → Option ℕ → ℕ → List (Option ℕ)
put_offset offsets None at = offsets
put_offset offsets (Some slot) at = if nat_lt slot (length offsets) then slice_set offsets slot (Some at) else offsets
