use Rattle.std.proofs.Common.{◌+◌, ◌*◌, ◌^◌, ◌/◌, ◌<◌, ◌≤◌, ◌≡◌, ◌∙◌, ap, subst, length, arith, rules, le-div_iff_mul-le}
use Rattle.std.specs.FinSet as sets
use Rattle.rsc_alphabet.specs.Partitions.{class_map}
use Rattle.rsc_alphabet.specs.Iterators.{stride2_of}
use Rattle.rsc_uses.proofs.alphabet.transition_of_partition.Goals as goal

-- the row is there, so the table doesn't end before it does
pub returns-then-row-table-clause-none : goal.returns-then-row-table-clause-none
returns-then-row-table-clause-none c =
    let width = 2 ^ c.stride2.result in
    let some : 0 < width = omega (arith, c.stride2.ensures.enough) in
    let row : c.args.row + 1 ≤ length c.args.table.now / width = omega (arith, c.if-row-table.true) in
    let same : c.stride2.result ≡ stride2_of (class_map (sets.contains c.args.partition.now)) =
    c.stride2.ensures.value ∙ ap stride2_of c.byte_classes-map.ensures.value in
    let whole = subst (λ s. (c.args.row + 1) * 2 ^ s ≤ length c.args.table.now) same ((le-div_iff_mul-le some).0 row) in
    (λ f. search rules, λ short. absurd (omega (arith, whole, short)))
