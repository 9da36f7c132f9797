use Rattle.rsc_look.specs.Holds.{Holds}
use Rattle.rsc_look.proofs.LookSetLayoutLemmas.{HasAsked}
use Rattle.rsc_look.proofs.matcher.LookMatcher.matches_set.Given as goal

-- all members so far hold
abbrev pub invariant-loop-look : goal.invariant-loop-look
invariant-loop-look g l =
    (goal.iterator-loop-look g).can_next l.look-iterator × (goal.iterator-loop-look g).is_finite l.look-iterator
    × HasAsked l.fn.set l.look-iterator (λ look. Holds look l.self.0 (g.W.WordClass.word_chars l.self.1) l.haystack l.at)
