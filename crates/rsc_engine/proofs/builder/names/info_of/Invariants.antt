use Rattle.std.proofs.Common.{◌≡◌, map, take}
use Rattle.rsc_captures.specs.Groups.{groups_in, lists_in}
use Rattle.rsc_engine.specs.Parts.{groups_as_pattern}
use Rattle.rsc_engine.proofs.builder.names.info_of.Given as goal

abbrev pub invariant-loop-part : goal.invariant-loop-part
invariant-loop-part l = map (λ names. groups_in names.items) l.all.items ≡ map groups_as_pattern (take l.part-index l.patterns)

abbrev pub invariant-loop-names : goal.invariant-loop-names
invariant-loop-names l = lists_in l.lists.items ≡ map (λ names. groups_in names.items) (take l.names-index l.names-items)
