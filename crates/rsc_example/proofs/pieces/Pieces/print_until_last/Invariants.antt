use Rattle.rsc_engine.specs.NextMatches.{calls_left}
use Rattle.rsc_example.proofs.pieces.Pieces.print_until_last.Given as goal

abbrev pub decreases-loop-found : goal.decreases-loop-found
decreases-loop-found g l = calls_left l.matches.input.span.end l.matches.last
