-- Repeated names, as the code looks for them.
use Rattle.std.specs.Prelude.{◌≡◌, ℕ, ◌<◌, Bool, true, false, List, Some}
use Rattle.std.specs.List.Sorted.{IsPartitionPoint}
use Rattle.std.specs.Option.{option_map_or}
use Rattle.std.specs.Ordering.{is_lt}
use Rattle.rsc_captures.specs.Groups.{Groups, GroupLists, groups_of, group_count, name_of, stands_before}
use Rattle.rsc_captures.specs.Faults.{Fault, Duplicate, ComesBefore}
use Rattle.rsc_captures.specs.OrderLayout.{name_at, name_cmp}

-- group g repeats a name: a lesser group has it
abbrev pub is_repeat : Groups → ℕ → Bool
is_repeat groups g = option_map_or (stands_before groups g) (name_at groups g) false

-- none of the first n groups repeats a name
abbrev pub AreDistinctBelow : Groups → ℕ → Type 0
AreDistinctBelow groups n = (g : ℕ) → g < n → is_repeat groups g ≡ false

-- no name is that of both groups
abbrev pub HaveDifferentNames : Groups → ℕ → ℕ → Type 0
HaveDifferentNames groups g h = (name : List ℕ) → name_at groups g ≡ Some name → name_at groups h ≡ Some name → ⊥

-- at this index of the order begin the groups whose names aren't less than the name
abbrev pub IsFirstNotLess : Groups → List ℕ → List ℕ → ℕ → Type 0
IsFirstNotLess groups order name =
    IsPartitionPoint (λ g. is_lt (name_cmp (name_at groups g) (Some name)) ≡ true) (λ g. is_lt (name_cmp (name_at groups g) (Some name)) ≡ false) order

-- no group before group g of pattern p repeats a name
abbrev pub HasNoRepeatBefore : GroupLists → ℕ → ℕ → Type 0
HasNoRepeatBefore lists p g = (q h : ℕ) → h < group_count lists q → ComesBefore q h p g → is_repeat (groups_of lists q) h ≡ false

-- f is the fault of the first group before group g of pattern p that repeats a name
pub record IsFirstRepeatBefore (lists : GroupLists) (p g : ℕ) (f : Fault) : Type 0 where
  pub q : ℕ
  pub h : ℕ
  pub name : List ℕ
  pub before : ComesBefore q h p g
  pub group : h < group_count lists q
  pub repeats : is_repeat (groups_of lists q) h ≡ true
  pub least : HasNoRepeatBefore lists q h
  pub named : name_of lists q h ≡ Some name
  pub fault : f ≡ Duplicate q name
