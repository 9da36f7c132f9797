use Rattle.std.proofs.Common.{◌≡◌, ◌+◌, ◌-◌, length}
use Rattle.rsc_engine.proofs.NextMatchesLemmas.{IsTurn}
use Rattle.rsc_engine.proofs.iterate.Iteration.next.Given as goal

abbrev pub invariant-matches : goal.invariant-matches
invariant-matches g l = record {
  turn : IsTurn g.W.WordClass.word_chars l.initial.self.program.now l.self.program.now l.initial.self.input l.self.input
      l.initial.self.last_end l.self.last_end;
  program : l.self.program ≡ l.initial.self.program;
  groups : l.captures.groups ≡ l.initial.captures.groups;
  slots : length l.captures.offsets ≡ length l.initial.captures.offsets;
}

abbrev pub decreases-matches : goal.decreases-matches
decreases-matches g l = l.self.input.span.end + 1 - l.self.input.span.start
