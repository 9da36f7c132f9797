-- What the code knows of the faults of a list as it reads it.
use Rattle.std.specs.Prelude.{◌≡◌, ℕ, ◌+◌, ◌-◌, ◌*◌, ◌<◌, ◌≤◌, length, Option, None, MatchOption}
use Rattle.rsc_captures.specs.Groups.{GroupLists, explicit_before}
use Rattle.rsc_captures.specs.Faults.{Fault, pattern_fault, slots_end, IsFirstFault}
use Rattle.rsc_captures.specs.RepeatsLayout.{HasNoRepeatBefore}

-- no group before group g of pattern p has another fault than a repeated name
pub record HasNoOtherBefore (limit : ℕ) (lists : GroupLists) (p g : ℕ) : Type 0 where
  pub patterns : (q : ℕ) → q < p → pattern_fault lists q ≡ None
  pub first : 0 < g → pattern_fault lists p ≡ None
  pub within : 2 * (explicit_before lists p + (g - 1)) ≤ limit

-- the list has no other fault than repeated names
pub record HasNoOtherFault (limit : ℕ) (lists : GroupLists) : Type 0 where
  pub groups : HasNoOtherBefore limit lists (length lists) 0
  pub slots : (p : ℕ) → p < length lists → slots_end lists p ≤ limit

-- a refusal for the first other fault, which is at group g of pattern p: it is for the first fault where no name is repeated before it
pub record IsFirstOther (limit : ℕ) (lists : GroupLists) (p g : ℕ) (refusal : Option Fault) : Type 0 where
  pub before : HasNoOtherBefore limit lists p g
  pub first : HasNoRepeatBefore lists p g → MatchOption refusal ⊥ (IsFirstFault limit lists)
