use Rattle.rsc_engine.proofs.RetreatLemmas.{IsMarkedTo}
use Rattle.rsc_engine.proofs.dfa.retreat.marked.Given as goal

abbrev pub invariant-list : goal.invariant-list
invariant-list l = IsMarkedTo l.count l.fn.list l.marks.items l.sid-index
