-- States from which a match records nothing but its end. These serve the proof of `dfa`; no public contract cites them.
use Rattle.std.specs.Prelude.{◌≡◌, ℕ, ◌+◌, ◌*◌, ◌==◌, Bool, true, false, List, slice_get, slice_index_or, Option, Some, None, MatchOption, if◌then◌else◌}
use Rattle.rsc_nfa.specs.declared.state.State.{State}
use Rattle.rsc_nfa.specs.declared.state.State.TheVariants.{ByteRange, Assert, Fork, Capture, Accept}

-- the state isn't marked as loud
abbrev pub IsQuiet : List Bool → ℕ → Type 0
IsQuiet loud s = slice_index_or loud s true ≡ false

-- the state leads to quiet ones alone, and records nothing; or it records the end of a match, to which it leads at once
abbrev pub LeadsQuietly : List State → List Bool → State → Type 0
LeadsQuietly states loud (ByteRange a b next) = IsQuiet loud next
LeadsQuietly states loud (Assert look next) = IsQuiet loud next
LeadsQuietly states loud (Fork a b) = IsQuiet loud a × IsQuiet loud b
LeadsQuietly states loud (Capture slot next) = (p : ℕ) × (slot ≡ 2 * p + 1) × (slice_get states next ≡ Some (Accept p))
LeadsQuietly states loud (Accept p) = ⊥

-- each state that isn't marked as loud does so
abbrev pub AreQuiet : List State → List Bool → Type 0
AreQuiet states loud = (s : ℕ) → IsQuiet loud s → MatchOption (slice_get states s) ⊥ (LeadsQuietly states loud)

-- the end of a match of pattern p, for the slot in which it is recorded
abbrev pub closing : ℕ → ℕ → ℕ → Option ℕ
closing p j slot = if 2 * p + 1 == slot then Some j else None
