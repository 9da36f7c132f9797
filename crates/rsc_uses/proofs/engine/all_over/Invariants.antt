use Rattle.std.proofs.Common.{◌≡◌, None}
use Rattle.rsc_engine.specs.NextMatches.{IsNextOfLeft, after, calls_left}
use Rattle.rsc_uses.proofs.EngineLemmas.{AreFirst}
use Rattle.rsc_uses.proofs.engine.all_over.Given as goal

abbrev pub invariant-matches : goal.invariant-matches
invariant-matches g l = record {
  first : AreFirst (IsNextOfLeft g.W.WordClass.word_chars) after (record { program = l.fn.cache; input = l.fn.input; last = None }) l.all.items l.matches;
  program : l.matches.program ≡ l.fn.cache;
}

abbrev pub decreases-matches : goal.decreases-matches
decreases-matches g l = calls_left l.matches.input.span.end l.matches.last
