use Rattle.std.proofs.Common.{arith}
use Rattle.rsc_search.proofs.PatternSetLayoutLemmas.{is_set_below, members_within}
use Rattle.rsc_search.proofs.pattern_set.PatternSet.len.Goals as goal

pub returns-clause-within : goal.returns-clause-within
returns-clause-within g c = rw (← c.self.view_is) (omega (arith, c.self.invariant.count_is, members_within c.self.inside.capacity c.self.inside.blocks.items))

pub returns-clause-lawful : goal.returns-clause-lawful
returns-clause-lawful g c = rw (← c.self.view_is) (is_set_below c.self.inside.capacity c.self.inside.blocks.items)
