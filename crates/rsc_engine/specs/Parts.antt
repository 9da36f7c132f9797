-- Which pattern a part is, and which groups it has; and what a builder has of them.
use Rattle.std.specs.Prelude.{ℕ, List, ◌∷◌, map, min, None}
use Rattle.rsc_captures.specs.Groups.{Groups, GroupLists, groups_in}
use Rattle.rsc_engine.specs.Patterns.{Pattern}
use Rattle.rsc_engine.specs.Trees.{pattern_in}
use Rattle.rsc_engine.specs.Sizes.{most_states}
use Rattle.rsc_engine.specs.declared.builder.part.Part.{Part}
use Rattle.rsc_engine.specs.declared.builder.Builder.{Builder}

-- the pattern that a part is
abbrev pub pattern_of : Part → Pattern
pattern_of part = pattern_in part.tree

-- the patterns that a builder has finished
abbrev pub patterns_of : Builder → List Pattern
patterns_of builder = map pattern_of builder.patterns.items

-- the groups of a part, in the order in which they open
abbrev pub groups_of_part : Part → Groups
groups_of_part part = groups_in part.names.items

-- the groups of a pattern: that of the whole match, which has no name, and those of its part
abbrev pub groups_as_pattern : Part → Groups
groups_as_pattern part = None ∷ groups_of_part part

-- the groups of each pattern that a builder has finished
abbrev pub group_lists_of : Builder → GroupLists
group_lists_of builder = map groups_as_pattern builder.patterns.items

-- how many states a program of a builder may have
abbrev pub limit_of : Builder → ℕ
limit_of builder = min builder.limit most_states
