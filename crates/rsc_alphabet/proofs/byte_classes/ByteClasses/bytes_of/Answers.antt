use Rattle.std.proofs.Common.{◌≡◌, ◌+◌, nat_eq, slice_index, ap, ◌∙◌, arith}
use Rattle.rsc_alphabet.proofs.IteratorsLemmas.{by_blocks}
use Rattle.rsc_alphabet.proofs.byte_classes.ByteClasses.bytes_of.Goals as goal

pub returns : goal.returns
returns c =
    let map = c.self.inside.classes in
    let blocks = c.from_blocks.ensures in
    rw (← c.self.view_is) (by_blocks c.from_blocks.result (λ b. nat_eq (slice_index map b) c.args.class)
    (λ i l. let e : 0 + i ≡ i = omega arith in blocks.first i l ∙ c.equal_to.ensures i l ∙ ap (λ b. nat_eq (slice_index map b) c.args.class) e)
    (λ i l. blocks.second i l ∙ c.equal_to-2.ensures i l)
    (λ i l. blocks.third i l ∙ c.equal_to-3.ensures i l)
    (λ i l. blocks.fourth i l ∙ c.equal_to-4.ensures i l))
