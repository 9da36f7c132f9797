-- The groups of a pattern in the order of their names.
use Rattle.std.specs.Prelude.{◌<◌, ℕ, List, length, slice_index_or, Option, None}
use Rattle.std.specs.Option.{option_cmp}
use Rattle.std.specs.Ordering.{nat_cmp, ordering_then}
use Rattle.std.specs.declared.cmp.Ordering.{Ordering}
use Rattle.std.specs.Cmp.Lexicographic.{slice_cmp}
use Rattle.std.specs.List.{Contains}
use Rattle.std.specs.List.Sorted.{IsSortedByKey}
use Rattle.rsc_captures.specs.Groups.{Groups}

-- the name of group g, if there is such a group and it has one
abbrev pub name_at : Groups → ℕ → Option (List ℕ)
name_at groups g = slice_index_or groups g None

-- names are ordered by their bytes, and a group without one comes first
abbrev pub name_cmp : Option (List ℕ) → Option (List ℕ) → Ordering
name_cmp = option_cmp (slice_cmp nat_cmp)

-- groups are ordered by their names, and those of one name by their numbers
abbrev pub named_cmp : Option (List ℕ) × ℕ → Option (List ℕ) × ℕ → Ordering
named_cmp x y = ordering_then (name_cmp x.0 y.0) (nat_cmp x.1 y.1)

-- a group, as it is ordered
abbrev pub group_with_name : Groups → ℕ → Option (List ℕ) × ℕ
group_with_name groups g = (name_at groups g, g)

-- the groups are sorted by their names, and those of one name by their numbers
abbrev pub IsSortedByName : List ℕ → Groups → Type 0
IsSortedByName order groups = IsSortedByKey (group_with_name groups) named_cmp order

-- the list has the groups, in the order of their names
pub record IsOrder (order : List ℕ) (groups : Groups) : Type 0 where
  pub complete : (g : ℕ) → g < length groups → Contains order g
  pub sorted : IsSortedByName order groups
