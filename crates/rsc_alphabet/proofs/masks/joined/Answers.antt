use Rattle.std.proofs.Common.{◌≡◌, ◌+◌, ◌-◌, ◌*◌, ◌%◌, ◌^◌, nat_eq, ap, ◌∙◌, arith, bit_or, mod-eq_of_lt}
use Rattle.std.specs.Int.{bit_at}
use Rattle.std.proofs.lemmas.Nat.{or_shifted}
use Rattle.std.proofs.lemmas.Nat.Bits.{bit_at_cat_low, bit_at_cat_high}
use Rattle.rsc_alphabet.proofs.masks.joined.Goals as goal

pub returns : goal.returns
returns c =
    let upper = c.args.upper in
    let lower = c.args.lower in
    let fits = c.ranges.lower.fits in
    let apart : bit_or (upper * 2 ^ 64 % 2 ^ 128) lower ≡ upper * 2 ^ 64 + lower =
    ap (λ x. bit_or x lower) (mod-eq_of_lt (omega (arith, c.ranges.upper.fits))) ∙ or_shifted upper 64 lower fits in
    rw (c.from.ensures, c.from-2.ensures, apart) (record {
      below = λ i l. ap (λ x. nat_eq x 1) (bit_at_cat_low upper 64 lower i l);
      above = λ i. let e : 64 + i - 64 ≡ i = omega arith in
          ap (λ x. nat_eq x 1) (bit_at_cat_high upper 64 lower (64 + i) fits (omega arith) ∙ ap (bit_at upper) e);
    })
