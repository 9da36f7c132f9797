use Rattle.std.proofs.Common.{◌-◌, not, nat_eq, slice_index, ◌∙◌}
use Rattle.rsc_alphabet.proofs.IteratorsLemmas.{by_blocks, first_starts}
use Rattle.rsc_alphabet.proofs.byte_classes.ByteClasses.class_starts.Goals as goal

pub returns : goal.returns
returns c =
    let map = c.self.inside.classes in
    let blocks = c.from_blocks.ensures in
    rw (← c.self.view_is) (by_blocks c.from_blocks.result (λ b. not (nat_eq (slice_index map b) (slice_index map (b - 1))))
    (λ i l. blocks.first i l ∙ first_starts map c.unlike_before.result c.block_shifted_left.result i l c.unlike_before.ensures
    c.block_shifted_left.ensures.first c.block_shifted_left.ensures.others)
    (λ i l. blocks.second i l ∙ c.unlike_before-2.ensures i l)
    (λ i l. blocks.third i l ∙ c.unlike_before-3.ensures i l)
    (λ i l. blocks.fourth i l ∙ c.unlike_before-4.ensures i l))
