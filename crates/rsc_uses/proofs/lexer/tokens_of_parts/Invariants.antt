use Rattle.std.proofs.Common.{◌≡◌, ◌++◌, false, map, length}
use Rattle.std.specs.List.{list_any}
use Rattle.std.specs.Vec.Iter.{into_iter_items, into_iter_len}
use Rattle.rsc_engine.specs.Patterns.{may_be_empty}
use Rattle.rsc_engine.specs.Parts.{pattern_of, patterns_of, groups_as_pattern, group_lists_of}
use Rattle.rsc_uses.proofs.lexer.tokens_of_parts.Given as goal

-- the patterns so far, and those of the parts that are left, are those of all parts, and so are their groups; and none so far may be empty
abbrev pub invariant-loop-part : goal.invariant-loop-part
invariant-loop-part g l = record {
  patterns : patterns_of l.builder ++ map pattern_of (into_iter_items l.part-iterator) ≡ map pattern_of l.fn.parts.items;
  groups : group_lists_of l.builder ++ map groups_as_pattern (into_iter_items l.part-iterator) ≡ map groups_as_pattern l.fn.parts.items;
  some : list_any may_be_empty (patterns_of l.builder) ≡ false;
  left : into_iter_len l.part-iterator ≡ length (into_iter_items l.part-iterator);
}
