use Rattle.std.proofs.Common.{Some, is_lt, rules}
use Rattle.std.proofs.lemmas.List.Sorted.{IsPartitionPoint-from_clause}
use Rattle.rsc_captures.proofs.Prelude.{groups_in, name_at, name_cmp}
use Rattle.rsc_captures.proofs.OrderLayoutLemmas.{names_parted}
use Rattle.rsc_captures.proofs.repeats.first_not_less.Goals as goal

-- the closure answers whether a group's name is less
pub returns : goal.returns
returns c =
    IsPartitionPoint-from_clause (λ g. is_lt (name_cmp (name_at (groups_in c.args.groups.now) g) (Some c.args.name.now))) _ _
    c.partition_point.ensures.partitioned (names_parted (groups_in c.args.groups.now) c.args.order.now c.requires (Some c.args.name.now))
    (λ a r q k. search rules)
