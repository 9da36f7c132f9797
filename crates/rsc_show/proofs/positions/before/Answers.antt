use Rattle.rsc_primitives.specs.DecodingLaws.{EndsAt-decoded, EndsAt-refused}
use Rattle.rsc_show.proofs.SidesLemmas.{refuted}
use Rattle.rsc_show.proofs.positions.before.Goals as goal

pub returns-in-Some-Ok : goal.returns-in-Some-Ok
returns-in-Some-Ok c = EndsAt-decoded _ _ _ _ _ c.requires c.decode_last.ensures c.in-Some-Ok.is c.in-Some-Ok.field-0-is

pub returns-in-Some-Err-2 : goal.returns-in-Some-Err-2
returns-in-Some-Err-2 c =
    let e = EndsAt-refused c.args.haystack.now c.args.at _ _ _ c.requires c.decode_last.ensures c.in-Some-Err.is c.in-Some-Err.field-0-is in
    (e.0, e.1, refuted _ _ c.is_inside.ensures c.if-is_inside.false)
