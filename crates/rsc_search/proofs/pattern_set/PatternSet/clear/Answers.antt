use Rattle.std.proofs.Common.{◌≡◌, ◌++◌, drop, length, replicate, take, refl, ap, ◌∙◌}
use Rattle.rsc_search.proofs.PatternSetLayoutLemmas.{all_zeros, no_members, zeros_packed}
use Rattle.rsc_search.proofs.pattern_set.PatternSet.clear.Goals as goal
use Rattle.rsc_search.proofs.pattern_set.PatternSet.clear.Goals.{After-clear_all}

-- the blocks that came back are zeros
cleared : (g : _) (c : After-clear_all g)
    → take c.self.inside.blocks.len (c.clear_all.new.blocks ++ drop (length c.clear_all.new.blocks) c.self.inside.blocks.items)
    ≡ replicate (length c.self.inside.blocks.items) 0
cleared g c = all_zeros c.self.inside.blocks.items c.clear_all.new.blocks c.self.inside.blocks.len c.self.inside.blocks.ok.0
    (c.clear_all.ensures ∙ ap (λ ws. replicate (length ws) 0) c.as_mut_slice.ensures.value)

pub invariant_of-self : goal.invariant_of-self
invariant_of-self g c =
    rw (cleared g (goal.at.invariant_of-self g c).After-clear_all)
    (zeros_packed c.self.inside.capacity (length c.self.inside.blocks.items) c.self.invariant.fits c.self.invariant.length_is)

pub returns : goal.returns
returns g c =
    rw (cleared g (goal.at.returns g c).After-clear_all, no_members c.self.inside.capacity (length c.self.inside.blocks.items), ← c.self.view_is) refl
