use Rattle.std.proofs.Common.{sym, ◌∙◌}
use Rattle.rsc_primitives.specs.DecodingLaws.{DecodesTo-ok, DecodesTo-err, BeginsAt-fits}
use Rattle.rsc_primitives.proofs.EscapesLemmas.{past_ascii-high}
use Rattle.rsc_primitives.proofs.escape.past_ascii.Goals as goal

pub returns-in-Some-Ok : goal.returns-in-Some-Ok
returns-in-Some-Ok c =
    let b = DecodesTo-ok _ _ _ _ c.decode.ensures.value c.in-Some-Ok.is c.in-Some-Ok.field-0-is in
    (b, past_ascii-high _ (sym c.is_ascii.ensures ∙ c.if-not-is_ascii.true), BeginsAt-fits _ _ b)

pub returns-in-Some-Err : goal.returns-in-Some-Err
returns-in-Some-Err c d b = absurd (DecodesTo-err _ _ _ _ c.decode.ensures.value c.in-Some-Err.is c.in-Some-Err.field-0-is d b)
