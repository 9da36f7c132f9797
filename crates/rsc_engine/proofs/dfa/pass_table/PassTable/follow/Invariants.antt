use Rattle.std.proofs.Common.{◌≡◌, true}
use Rattle.rsc_engine.specs.Searches.{search_in}
use Rattle.rsc_engine.specs.ForwardLayout.{StandsInEach}
use Rattle.rsc_engine.proofs.dfa.pass_table.PassTable.follow.Given as goal

abbrev pub invariant-bytes : goal.invariant-bytes
invariant-bytes g l = record {
  on : StandsInEach (search_in g.W.WordClass.word_chars l.plan.program.now l.input) l.plan.classes l.self.rows.items l.here l.position l.found;
  none : l.fn.earliest ≡ true → l.found ≡ l.fn.last;
}
