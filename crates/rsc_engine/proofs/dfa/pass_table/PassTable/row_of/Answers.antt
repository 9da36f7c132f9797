use Rattle.rsc_engine.proofs.PassTableLayoutLemmas.{empty-table}
use Rattle.rsc_engine.proofs.dfa.pass_table.PassTable.row_of.Goals as goal
use Rattle.rsc_engine.proofs.dfa.pass_table.PassTable.row_of.Goals.{then-not-kept, else-not-kept}

pub add_row-requires-clause-exact : goal.add_row-requires-clause-exact
add_row-requires-clause-exact g c = elim c.if-not-kept.branch [
  | then-not-kept w ↦ rw w.self-is (empty-table _ _ _ _ _ _ _ w.clear.ensures.rows w.clear.ensures.leads w.clear.ensures.beyond)
  | else-not-kept w ↦ rw w.self-is c.requires.exact
]
