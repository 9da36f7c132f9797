-- Which group a slot belongs to.
use Rattle.std.specs.Prelude.{◌≡◌, ◌⊎◌, ℕ, ◌+◌, Some}
use Rattle.rsc_captures.specs.Groups.{GroupLists, slot_of}

-- s is one of the two slots of group g of pattern p
abbrev pub IsSlotOf : GroupLists → ℕ → ℕ → ℕ → Type 0
IsSlotOf lists p g s = (slot : ℕ) × ((slot_of lists p g ≡ Some slot) × ((s ≡ slot) ⊎ (s ≡ slot + 1)))

-- s is a slot of some group
abbrev pub IsOwned : GroupLists → ℕ → Type 0
IsOwned lists s = (p : ℕ) × (g : ℕ) × IsSlotOf lists p g s
