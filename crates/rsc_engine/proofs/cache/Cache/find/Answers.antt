use Rattle.rsc_engine.proofs.cache.Cache.find.Goals as goal

pub returns-clause-none : goal.returns-clause-none
returns-clause-none g c = rw (c.self.invariant, c.self.view_is) at c.find.ensures.none
