use Rattle.rsc_engine.specs.NextMatches.{calls_left}
use Rattle.rsc_calls.proofs.pairs.pairs.Given as goal

abbrev pub decreases-loop-matches : goal.decreases-loop-matches
decreases-loop-matches l = calls_left l.matches.input.span.end l.matches.last
