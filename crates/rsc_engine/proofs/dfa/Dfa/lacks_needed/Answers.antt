use Rattle.rsc_engine.proofs.dfa.Dfa.lacks_needed.Goals as goal

pub returns-clause-none : goal.returns-clause-none
returns-clause-none g c = rw (c.self.view_is, c.find_needed.ensures) at c.are_missing.ensures
