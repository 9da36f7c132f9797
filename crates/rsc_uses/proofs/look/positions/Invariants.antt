use Rattle.rsc_look.specs.Holds.{Holds}
use Rattle.rsc_uses.specs.Listed.{IsListed}
use Rattle.rsc_uses.proofs.look.positions.Given as goal

-- the positions so far
abbrev pub invariant-loop-at : goal.invariant-loop-at
invariant-loop-at g l = IsListed (Holds l.look l.matcher.0 (g.W.WordClass.word_chars l.matcher.1) l.haystack) l.at l.found.items
