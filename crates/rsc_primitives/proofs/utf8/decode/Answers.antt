use Rattle.std.proofs.Common.{◌≡◌, get_or, sym, arith, ⊎_elim}
use Rattle.std.proofs.lemmas.Option.{get_or_from_slice_get}
use Rattle.rsc_primitives.specs.DecodingLaws.{BeginsAt-fits}
use Rattle.rsc_primitives.proofs.Utf8Lemmas.{first_of, begins_long}
use Rattle.rsc_primitives.proofs.utf8.decode.Goals as goal

pub returns-in-Some : goal.returns-in-Some
returns-in-Some c =
    let begins = begins_long _ _ c.in-Some.ensures in
    record { value = begins; within = BeginsAt-fits _ _ begins }

pub returns-in-None-2-clause-value : goal.returns-in-None-2-clause-value
returns-in-None-2-clause-value c =
    let h = c.args.bytes.now in
    let past_ascii = c.if-first-lt128.false in
    let first : get_or h 0 0 ≡ c.in_ok-first.field-0.now = get_or_from_slice_get h 0 _ 0 (sym c.in_ok-first.ensures.value) in
    (sym c.in_ok-first.ensures.value, λ x b. ⊎_elim (λ ascii. omega (arith, ascii)) (λ long. c.in-None-2.ensures x long) (first_of h x b))
