-- The iterators over the names of the groups: of one pattern, and of all patterns with the numbers of pattern and group.
use Rattle.std.specs.Prelude.{ℕ, ◌+◌, List, [], ◌∷◌, ◌++◌, drop, Option}
use Rattle.std.specs.Borrow.{Bor}
use Rattle.std.specs.Option.{option_copied}
use Rattle.rsc_captures.specs.Groups.{Groups, GroupLists, groups_of}

-- a pattern, a group and its name, if it has one
abbrev pub NamedGroup : Type 0
NamedGroup = ℕ × ℕ × Option (List ℕ)

-- the groups of pattern p from group g on
abbrev pub groups_from : ℕ → ℕ → Groups → List NamedGroup
groups_from p g [] = []
groups_from p g (name ∷ rest) = (p, g, name) ∷ groups_from p (g + 1) rest

-- the groups of the patterns from p on, by pattern and then by group
abbrev pub patterns_from : ℕ → GroupLists → List NamedGroup
patterns_from p [] = []
patterns_from p (groups ∷ rest) = groups_from p 0 groups ++ patterns_from (p + 1) rest

-- all groups of all patterns
abbrev pub all_names_of : GroupLists → List NamedGroup
all_names_of lists = patterns_from 0 lists

-- what an iterator over all groups has left at group g of pattern p
abbrev pub names_left : GroupLists → ℕ → ℕ → List NamedGroup
names_left lists p g = groups_from p g (drop g (groups_of lists p)) ++ patterns_from (p + 1) (drop (p + 1) lists)

-- an iterator's item, with the name that it lends
abbrev pub named_group : ℕ × ℕ × Option (Bor (List ℕ)) → NamedGroup
named_group item = (item.0, item.1, option_copied item.2)
