-- The order of the symbols is a total order, and equality is its ties.
use Rattle.std.specs.Cmp.{IsTotalOrder, IsEquivalence, IsPartialEquivalence, IsPartialOrder, nat_cmp_total, on_total, then_total, eq_by_cmp_equiv, partial_equiv_from_equiv, partial_order_from_total}
use Rattle.std.specs.Ordering.{eq_by_cmp, as_partial_cmp}
use Rattle.rsc_alphabet.specs.Symbols.{rank_of, number_of, symbol_cmp}

pub symbol_total : IsTotalOrder symbol_cmp
symbol_total = then_total (on_total rank_of nat_cmp_total) (on_total number_of nat_cmp_total)

pub symbol_equivalence : IsEquivalence (eq_by_cmp symbol_cmp)
symbol_equivalence = eq_by_cmp_equiv symbol_total

pub symbol_partial_equivalence : IsPartialEquivalence (eq_by_cmp symbol_cmp)
symbol_partial_equivalence = partial_equiv_from_equiv symbol_equivalence

pub symbol_partial_order : IsPartialOrder (eq_by_cmp symbol_cmp) (as_partial_cmp symbol_cmp)
symbol_partial_order = partial_order_from_total symbol_total
