use Rattle.std.proofs.Common.{refl}
use Rattle.rsc_search.specs.PatternSets.{IsPatternSet}
use Rattle.rsc_search.specs.PatternSetLayout.{patterns_held}
use Rattle.rsc_search.proofs.PatternSetLayoutLemmas.{begins_between, left_members, is_set_below}
use Rattle.rsc_search.proofs.PatternSetsLemmas.{all_members}
use Rattle.rsc_search.proofs.pattern_set.PatternSet.iter.Goals as goal

pub invariant_of-result : goal.invariant_of-result
invariant_of-result g c =
    begins_between c.self.invariant c.as_slice-blocks.ensures.value c.saturating_sub-last.ensures c.block_at.type_inv c.block_at.ensures c.block_at-2.type_inv
    c.block_at-2.ensures

pub returns : goal.returns
returns g c =
    let members = left_members c.self.invariant c.as_slice-blocks.ensures.value c.saturating_sub-last.ensures c.block_at.type_inv c.block_at.ensures
    c.block_at-2.type_inv c.block_at-2.ensures in
    let of_set : IsPatternSet (patterns_held c.self.inside.capacity c.self.inside.blocks.items) =
    is_set_below c.self.inside.capacity c.self.inside.blocks.items in
    rw (← c.self.view_is, members) (record {
      value = refl;
      ascending = of_set.ascending;
      within = of_set.below;
      contained = all_members (patterns_held c.self.inside.capacity c.self.inside.blocks.items).members;
      lawful = of_set;
    })
