use Rattle.rsc_replace.proofs.TemplatesLemmas.{number_read, number_refused}
use Rattle.rsc_replace.proofs.template.span_called.Goals as goal

pub returns-in-Ok : goal.returns-in-Ok
returns-in-Ok c = rw (number_read c.args.name.now c.in-Ok.number c.in-Ok.ensures.value.0.0 c.in-Ok.ensures.value.0.1) c.get_group.ensures.value

pub returns-in-Err : goal.returns-in-Err
returns-in-Err c = rw (number_refused c.args.name.now c.in-Err.ensures.value.0) c.get_group_by_name.ensures
