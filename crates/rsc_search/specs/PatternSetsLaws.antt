-- Equality of pattern sets is an equivalence.
use Rattle.std.specs.Cmp.{IsPartialEquivalence, IsEquivalence, partial_equiv_from_equiv, on_equiv, and_equiv, nat_eq_equiv}
use Rattle.std.specs.Cmp.Lexicographic.{nat_list_eq_equiv}
use Rattle.rsc_search.specs.PatternSets.{PatternSetParts, same_patterns}

pub same_patterns_equiv : IsEquivalence same_patterns
same_patterns_equiv = and_equiv (on_equiv (λ (s : PatternSetParts). s.capacity) nat_eq_equiv) (on_equiv (λ (s : PatternSetParts). s.members) nat_list_eq_equiv)

pub same_patterns_partial : IsPartialEquivalence same_patterns
same_patterns_partial = partial_equiv_from_equiv same_patterns_equiv
