use Rattle.std.proofs.Common.{◌≡◌, ◌≤◌, ◌+◌, ◌-◌, true, None}
use Rattle.rsc_engine.specs.Searches.{search_in}
use Rattle.rsc_engine.specs.RowsLayout.{machine}
use Rattle.rsc_engine.specs.ForwardLayout.{StandsInEach}
use Rattle.rsc_engine.specs.PassTableLayout.{IsPassTable}
use Rattle.rsc_engine.proofs.dfa.forward.first_end.Given as goal

abbrev pub invariant-rows : goal.invariant-rows
invariant-rows g l = record {
  exact : IsPassTable (machine g.W.WordClass.word_chars l.plan.program.now) l.plan.classes l.plan.width l.plan.most_rows l.table.rows.items
      l.table.leads.items l.table.beyond.items;
  on : StandsInEach (search_in g.W.WordClass.word_chars l.plan.program.now l.input) l.plan.classes l.table.rows.items l.row l.at l.last;
  none : l.fn.earliest ≡ true → l.last ≡ None;
  start : l.input.span.start ≤ l.at;
  end : l.at ≤ l.input.span.end;
}

abbrev pub decreases-rows : goal.decreases-rows
decreases-rows g l = l.input.span.end + 1 - l.at
