use Rattle.std.proofs.Common.{◌≤◌, ◌<◌, length}
use Rattle.rsc_engine.specs.Searches.{search_in}
use Rattle.rsc_engine.specs.LogLayout.{IsBackAt}
use Rattle.rsc_engine.proofs.dfa.pass_table.PassTable.follow_back.Given as goal

abbrev pub invariant-bytes : goal.invariant-bytes
invariant-bytes g l = record {
  on : IsBackAt (search_in g.W.WordClass.word_chars l.plan.program.now l.input) l.plan.classes l.self.rows.items l.here l.position l.found l.log.items;
  row : l.here < length l.self.rows.items;
  further : l.position ≤ l.fn.at;
  start : l.input.span.start ≤ l.position;
}

abbrev pub decreases-bytes : goal.decreases-bytes
decreases-bytes g l = l.position
