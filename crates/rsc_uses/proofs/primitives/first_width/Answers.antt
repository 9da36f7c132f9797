use Rattle.std.proofs.Common.{◌∙◌, ap, subst, Some}
use Rattle.rsc_primitives.specs.Decoding.{DecodesTo}
use Rattle.std.specs.Char.{len_utf8}
use Rattle.rsc_uses.proofs.primitives.first_width.Goals as goal

pub returns-in-Some-Ok-clause-width : goal.returns-in-Some-Ok-clause-width
returns-in-Some-Ok-clause-width c =
    λ d b. c.len_utf8.ensures.value ∙ ap len_utf8 (c.at_most_one_begins.ensures c.args.bytes.now 0 c.in-Some-Ok.c d
    (subst (λ r. DecodesTo c.args.bytes.now (Some r)) c.in-Some-Ok.field-0-is c.in-Some-Ok.ensures.value) b)

pub returns-in-Some-Err-clause-width : goal.returns-in-Some-Err-clause-width
returns-in-Some-Err-clause-width c =
    λ d b. absurd ((subst (λ r. DecodesTo c.args.bytes.now (Some r)) c.in-Some-Err.field-0-is c.in-Some-Err.ensures.value).1 d b)
