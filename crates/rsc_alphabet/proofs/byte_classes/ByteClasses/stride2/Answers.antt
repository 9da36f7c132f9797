use Rattle.std.proofs.Common.{ℕ, ◌+◌, ◌-◌, ◌≤◌, ◌^◌, slice_index, ◌≡◌, sym, arith}
use Rattle.std.proofs.lemmas.Grind.{common_steps}
use Rattle.rsc_alphabet.proofs.IteratorsLemmas.{least_exponent, exponent_counted}
use Rattle.rsc_alphabet.proofs.byte_classes.ByteClasses.stride2.Goals as goal

pub returns : goal.returns
returns c =
    let r = c.ilog2.result in
    let count : ℕ = slice_index c.args.self.now 255 + 2 in
    let len : c.alphabet_len.result ≡ count = c.alphabet_len.ensures.value in
    let least : (k : ℕ) → count ≤ 2 ^ k → r + 1 ≤ k =
    λ k enough. least_exponent (c.alphabet_len.result - 1) r k c.ilog2.ensures.power_le (omega (arith, enough, len)) in
    let most : r + 1 ≤ 9 = least 9 (omega (arith, c.alphabet_len.ensures.most, len)) in
    let enough : count ≤ 2 ^ (r + 1) = grind (arith, common_steps, len, c.ilog2.ensures.next_power_gt) in
    record { value = sym (exponent_counted count (r + 1) most enough least); enough = enough; least = least; most = most }
