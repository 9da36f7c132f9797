use Rattle.rsc_engine.proofs.dfa.pass_table.PassTable.begin_row.Goals as goal
use Rattle.rsc_engine.proofs.dfa.pass_table.PassTable.begin_row.Goals.{then-len-ne-REMEMBERED+in_ok-self, else-len-ne-REMEMBERED}

pub returns-in-Ok-clause-row : goal.returns-in-Ok-clause-row
returns-in-Ok-clause-row g c = elim c.if-len-ne-REMEMBERED.branch [
  | then-len-ne-REMEMBERED+in_ok-self w ↦ rw w.self-is (rw c.in_ok-list_of.ensures.same at c.in_ok-row.ensures.row)
  | else-len-ne-REMEMBERED w ↦ rw w.self-is (rw c.in_ok-list_of.ensures.same at c.in_ok-row.ensures.row)
]

pub returns-in_default-clause-row : goal.returns-in_default-clause-row
returns-in_default-clause-row g c = elim c.if-len-ne-REMEMBERED.branch [
  | then-len-ne-REMEMBERED+in_ok-self w ↦ rw w.self-is (rw c.in_ok-list_of.ensures.same at c.in_ok-row.ensures.row)
  | else-len-ne-REMEMBERED w ↦ rw w.self-is (rw c.in_ok-list_of.ensures.same at c.in_ok-row.ensures.row)
]
