use Rattle.std.proofs.Common.{map}
use Rattle.rsc_engine.specs.Trees.{pattern_in}
use Rattle.rsc_engine.proofs.PartsLemmas.{one_of_groups}
use Rattle.rsc_engine.proofs.TreesLemmas.{pattern-one_of}
use Rattle.rsc_engine.proofs.builder.loops.+groups_left.Goals as goal

pub groups_left-returns-in-OneOf : goal.groups_left-returns-in-OneOf
groups_left-returns-in-OneOf t c =
    rw (c.in-OneOf.is, pattern-one_of, one_of_groups (map pattern_in c.in-OneOf.parts.items), ← c.deref-in-OneOf.ensures.value)
    c.groups_left_by_all-in-OneOf.ensures
