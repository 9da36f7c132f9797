use Rattle.std.proofs.Common.{arith}
use Rattle.rsc_primitives.specs.DecodingLaws.{BeginsAt-decoded, BeginsAt-refused}
use Rattle.rsc_show.proofs.SidesLemmas.{reaches_by_width, not_without_character}
use Rattle.rsc_show.proofs.positions.reaches_past.Goals as goal

pub returns-in-Some-Ok : goal.returns-in-Some-Ok
returns-in-Some-Ok c =
    let begins = BeginsAt-decoded c.args.haystack.now c.args.start _ _ _ (omega (arith, c.requires.order, c.requires.within)) c.decode.ensures.value
    c.in-Some-Ok.is c.in-Some-Ok.field-0-is in
    rw c.len_utf8.ensures.value (reaches_by_width c.encoding_is_that_of_std.ensures c.args.haystack.now c.args.start c.args.at c.in-Some-Ok.c
    c.requires.order c.requires.within begins)

pub returns-in-Some-Err : goal.returns-in-Some-Err
returns-in-Some-Err c =
    let none = BeginsAt-refused c.args.haystack.now c.args.start _ _ _ (omega (arith, c.requires.order, c.requires.within)) c.decode.ensures.value
    c.in-Some-Err.is c.in-Some-Err.field-0-is in
    (λ f. cc, λ r. absurd (not_without_character c.args.haystack.now c.args.start c.args.at none.1 r))
