use Rattle.rsc_search.proofs.pattern_set.error.PatternSetInsertErrorDisplay.fmt.Goals as goal

pub returns-clause-writes : goal.returns-clause-writes
returns-clause-writes g c = rw (← c.self.view_is) (rw c.as_usize-attempted.ensures.value at c.write.ensures.writes)
