-- Equality of spans is an equivalence.
use Rattle.std.specs.Cmp.{IsPartialEquivalence, IsEquivalence, partial_equiv_from_equiv, on_equiv, and_equiv, nat_eq_equiv}
use Rattle.rsc_search.specs.declared.span.Span.{Span}
use Rattle.rsc_search.specs.Spans.{same_span}

pub same_span_equiv : IsEquivalence same_span
same_span_equiv = and_equiv (on_equiv (λ (s : Span). s.start) nat_eq_equiv) (on_equiv (λ (s : Span). s.end) nat_eq_equiv)

pub same_span_partial : IsPartialEquivalence same_span
same_span_partial = partial_equiv_from_equiv same_span_equiv
