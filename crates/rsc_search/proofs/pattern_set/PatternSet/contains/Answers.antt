use Rattle.std.proofs.Common.{◌≡◌, sym, ◌∙◌}
use Rattle.rsc_search.specs.BlockLayout.{is_set}
use Rattle.rsc_search.proofs.PatternSetLayoutLemmas.{is_set_below, has_member-set}
use Rattle.rsc_search.proofs.pattern_set.PatternSet.contains.Goals as goal

pub returns-clause-value : goal.returns-clause-value
returns-clause-value g c =
    let bit : c.is_bit_set.result ≡ is_set c.self.inside.blocks.items c.args.pid =
    rw (c.block_at.ensures, c.as_slice.ensures.value, c.as_usize-p.ensures.value) at c.is_bit_set.ensures in
    rw (← c.self.view_is) (bit ∙ sym (has_member-set c.self.inside.capacity c.self.inside.blocks.items c.self.invariant.spare_clear c.args.pid))

pub returns-clause-lawful : goal.returns-clause-lawful
returns-clause-lawful g c = rw (← c.self.view_is) (is_set_below c.self.inside.capacity c.self.inside.blocks.items)
