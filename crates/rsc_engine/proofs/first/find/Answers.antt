use Rattle.rsc_engine.proofs.first.find.Goals as goal

pub returns-clause-none : goal.returns-clause-none
returns-clause-none g c = rw c.new-dfa.ensures at c.find.ensures.none
