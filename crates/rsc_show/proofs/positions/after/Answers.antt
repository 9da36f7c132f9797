use Rattle.rsc_primitives.specs.DecodingLaws.{BeginsAt-decoded, BeginsAt-refused}
use Rattle.rsc_show.proofs.SidesLemmas.{refuted}
use Rattle.rsc_show.proofs.positions.after.Goals as goal

pub returns-in-Some-Ok : goal.returns-in-Some-Ok
returns-in-Some-Ok c = BeginsAt-decoded _ _ _ _ _ c.requires c.decode.ensures.value c.in-Some-Ok.is c.in-Some-Ok.field-0-is

pub returns-in-Some-Err-2 : goal.returns-in-Some-Err-2
returns-in-Some-Err-2 c =
    let n = BeginsAt-refused c.args.haystack.now c.args.at _ _ _ c.requires c.decode.ensures.value c.in-Some-Err.is c.in-Some-Err.field-0-is in
    (n.0, n.1, refuted _ _ c.is_inside.ensures c.if-is_inside.false)
