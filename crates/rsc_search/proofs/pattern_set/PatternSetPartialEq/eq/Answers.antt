use Rattle.std.proofs.Common.{◌≡◌, ◌≤◌, ◌↔◌, ℕ, length, true, false, ap, sym, ◌∙◌}
use Rattle.std.specs.Int.{div_ceil}
use Rattle.rsc_search.specs.BlockLayout.{is_set, SameBits}
use Rattle.rsc_search.proofs.PatternSetLayoutLemmas.{same_by_bits}
use Rattle.rsc_search.proofs.pattern_set.PatternSetPartialEq.eq.Goals as goal

pub returns-then-self-other : goal.returns-then-self-other
returns-then-self-other g c =
    let decides : (c.have_same_bits.result ≡ true) ↔ SameBits c.self.inside.blocks.items c.other.inside.blocks.items =
    rw (c.as_slice.ensures.value, c.as_slice-then-self-other.ensures.value) at c.have_same_bits.ensures in
    let lengths : length c.self.inside.blocks.items ≡ length c.other.inside.blocks.items =
    c.self.invariant.length_is ∙ ap (λ n. div_ceil n 64) c.if-self-other.true ∙ sym c.other.invariant.length_is in
    let spare : (p : ℕ) → c.other.inside.capacity ≤ p → is_set c.self.inside.blocks.items p ≡ false = rw c.if-self-other.true at
    c.self.invariant.spare_clear in
    rw (← c.self.view_is, ← c.other.view_is, c.if-self-other.true)
    (same_by_bits c.other.inside.capacity c.self.inside.blocks.items c.other.inside.blocks.items lengths spare c.other.invariant.spare_clear
    c.have_same_bits.result decides)
