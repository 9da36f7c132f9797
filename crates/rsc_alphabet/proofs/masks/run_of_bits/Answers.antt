use Rattle.std.proofs.Common.{◌≡◌, ◌-◌, ◌+◌, ◌<◌, ◌≤◌, ◌∙◌, arith, refl, ⊎_elim, nat_le}
use Rattle.std.proofs.lemmas.Bool.{cases_lt, le-leb, lt-leb}
use Rattle.std.proofs.lemmas.Nat.Bits.{bit_at_ones, bit_at_ones_above, bit_at_mask_inside, bit_at_mask_below, ones_shl, ones_shr}
use Rattle.std.proofs.Math.Bool.{and-false}
use Rattle.rsc_alphabet.proofs.ByteSetLayoutLemmas.{has_bit_both}
use Rattle.rsc_alphabet.proofs.masks.run_of_bits.Goals as goal

pub returns : goal.returns
returns c = λ i.
    let start = c.args.start in
    let end = c.args.end in
    let e : 128 - (127 - end) ≡ end + 1 = omega (arith, c.requires) in
    rw (ones_shr 128 (127 - end) (omega arith), ones_shl 128 start (omega (arith, c.requires)), e) (has_bit_both _ _ i ∙ ⊎_elim
    (λ (h : end < i). rw (bit_at_ones_above (end + 1) i (omega arith), lt-leb i end h, and-false (nat_le start i)) refl)
    (λ (h : i ≤ end). rw (bit_at_ones (end + 1) i (omega arith), le-leb i end h) (⊎_elim
    (λ (k : i < start). rw (bit_at_mask_below start 128 i k, lt-leb start i k) refl)
    (λ (k : start ≤ i). rw (bit_at_mask_inside start 128 i k (omega (arith, c.requires)), le-leb start i k) refl)
    (cases_lt i start)))
    (cases_lt end i))
