use Rattle.std.proofs.Common.{◌-◌, ◌+◌, arith}
use Rattle.std.proofs.lemmas.Bool.Decides.{nat_tests}
use Rattle.std.proofs.lemmas.Bool.{both_ways}
use Rattle.rsc_alphabet.proofs.ByteSetLayoutLemmas.{contains_masked}
use Rattle.rsc_alphabet.proofs.byte_set.ByteSet.contains_range.Goals as goal

pub returns-then-end-lt128 : goal.returns-then-end-lt128
returns-then-end-lt128 c = (
  λ h b p q. grind (arith, nat_tests, contains_masked, c.has_bits.ensures.0 h b),
  λ each. c.has_bits.ensures.1 (λ i p q. grind (arith, nat_tests, contains_masked, each i)),
)

pub returns-then-start-ge128 : goal.returns-then-start-ge128
returns-then-start-ge128 c = (
  λ h b p q. grind (arith, nat_tests, contains_masked, c.has_bits-then-start-ge128.ensures.0 h (b - 128)),
  λ each. c.has_bits-then-start-ge128.ensures.1 (λ i p q. grind (arith, nat_tests, contains_masked, each (128 + i))),
)

pub returns-then-has_bits : goal.returns-then-has_bits
returns-then-has_bits c =
    let low = c.has_bits-else-start-ge128.ensures.0 c.if-has_bits.true in
    let high = c.has_bits-then-has_bits.ensures in (
      λ h b p q. grind (arith, nat_tests, contains_masked, low b, high.0 h (b - 128)),
      λ each. high.1 (λ i p q. grind (arith, nat_tests, contains_masked, each (128 + i))),
    )

pub returns-else-has_bits : goal.returns-else-has_bits
returns-else-has_bits c = (
  λ h. absurd (both_ways _ c.if-has_bits.false h),
  λ each. c.has_bits-else-start-ge128.ensures.1 (λ i p q. grind (arith, nat_tests, contains_masked, each i)),
)
