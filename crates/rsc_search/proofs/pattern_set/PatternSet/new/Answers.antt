use Rattle.std.proofs.Common.{refl}
use Rattle.rsc_search.proofs.PatternSetLayoutLemmas.{no_members, zeros_packed}
use Rattle.rsc_search.proofs.pattern_set.PatternSet.new.Goals as goal

pub invariant_of-result : goal.invariant_of-result
invariant_of-result g c =
    rw (c.in_ok-vec.ensures.items_if_clones_equal (λ y e. e)) (zeros_packed c.args.capacity c.div_ceil.result c.requires c.div_ceil.ensures)

pub returns : goal.returns
returns g c = rw (c.in_ok-vec.ensures.items_if_clones_equal (λ y e. e), no_members c.args.capacity c.div_ceil.result) refl
