use Rattle.rsc_engine.proofs.dfa.pass_table.PassTable.step_back.Goals as goal

pub returns-clause-on : goal.returns-clause-on
returns-clause-on g c = rw c.least_with.ensures (c.in_ok-next.ensures.goes c.args.least c.requires.on)
