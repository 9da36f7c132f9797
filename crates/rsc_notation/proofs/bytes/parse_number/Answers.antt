use Rattle.std.proofs.Common.{◌≡◌, ◌<◌, ℕ, zero, suc, ◌+◌, ◌*◌, ◌^◌, length, get_or, arith, refl, sym, subst, false, nat_eq, true≢false}
use Rattle.std.specs.Char.{digit_value}
use Rattle.std.proofs.lemmas.Str.{digit_value_digit}
use Rattle.std.proofs.lemmas.Str.Parse.{digit_from_value}
use Rattle.rsc_notation.proofs.RangeTextsLemmas.{Reads, Reads-none, Reads-one, all_read, no_digit, too_great}
use Rattle.rsc_notation.proofs.bytes.parse_number.Goals as goal

not_empty : (n : ℕ) → false ≡ nat_eq n 0 → 0 < n
not_empty zero e = absurd (true≢false (sym e))
not_empty (suc n) e = omega arith

pub loop-digit-init : goal.loop-digit-init
loop-digit-init c = record { reads = Reads-none c.args.digits.now; small = omega arith }

pub returns-then-not-is_ascii_digit-clause-found : goal.returns-then-not-is_ascii_digit-clause-found
returns-then-not-is_ascii_digit-clause-found c = (
  (λ e. absurd (true≢false (sym e))),
  (λ h. absurd (no_digit c.args.digits.now c.loop-digit.digit-index c.loop-digit.number c.loop-digit-test.true c.loop-digit.invariant.reads
      (λ d. let digit = digit_from_value (get_or c.args.digits.now c.loop-digit.digit-index 0) d in let other = c.if-not-is_ascii_digit.ensures.cases in
      omega (arith, digit, other)) h.0.1)),
)

pub returns-in_err-checked_mul-clause-found : goal.returns-in_err-checked_mul-clause-found
returns-in_err-checked_mul-clause-found c = rw c.from_residual.ensures (
  (λ e. absurd (true≢false (sym e))),
  (λ h. absurd (omega (
    arith,
    too_great c.args.digits.now c.loop-digit.digit-index c.loop-digit.number (2 ^ 64) c.loop-digit-test.true
        c.loop-digit.invariant.reads (omega (arith, c.in_err-checked_mul.ensures)),
    h.1,
  ))),
)

pub returns-in_err-number-clause-found : goal.returns-in_err-number-clause-found
returns-in_err-number-clause-found c = rw c.from_residual-in_err-number.ensures (
  (λ e. absurd (true≢false (sym e))),
  (λ h.
      let digit = digit_value_digit (get_or c.args.digits.now c.loop-digit.digit-index 0) c.if-not-is_ascii_digit.ensures.cases in
      let least = too_great c.args.digits.now c.loop-digit.digit-index c.loop-digit.number (2 ^ 64) c.loop-digit-test.true c.loop-digit.invariant.reads
      (omega (arith, digit, c.in_err-number.ensures, c.in_ok-checked_mul.ensures, c.from.ensures)) in
      absurd (omega (arith, least, h.1))),
)

pub loop-digit-preserved : goal.loop-digit-preserved
loop-digit-preserved c =
    let value = digit_value_digit (get_or c.args.digits.now c.loop-digit.digit-index 0) c.if-not-is_ascii_digit.ensures.cases in
    let number : c.in_ok-number.number ≡ c.loop-digit.number * 10 + digit_value (get_or c.args.digits.now c.loop-digit.digit-index 0) =
    omega (arith, value, c.in_ok-number.ensures, c.in_ok-checked_mul.ensures, c.from.ensures) in
    record {
      reads = rw number (Reads-one c.args.digits.now c.loop-digit.digit-index c.loop-digit.number c.loop-digit-test.true c.loop-digit.invariant.reads
          c.if-not-is_ascii_digit.ensures.bound);
      small = omega (arith, c.in_ok-number.ensures);
    }

pub returns-clause-value : goal.returns-clause-value
returns-clause-value c =
    (all_read c.args.digits.now c.loop-digit.number
    (subst (λ i. Reads c.args.digits.now i c.loop-digit.number)
    (omega (arith, c.loop-digit-test.false, c.loop-digit.auto.digit-index-end)) c.loop-digit.invariant.reads)).0

pub returns-clause-found : goal.returns-clause-found
returns-clause-found c =
    let all = all_read c.args.digits.now c.loop-digit.number
    (subst (λ i. Reads c.args.digits.now i c.loop-digit.number)
    (omega (arith, c.loop-digit-test.false, c.loop-digit.auto.digit-index-end)) c.loop-digit.invariant.reads) in
    ((λ _. ((not_empty (length c.args.digits.now) c.if-is_empty.ensures, all.1), rw (← all.0) c.loop-digit.invariant.small)), (λ _. refl))
