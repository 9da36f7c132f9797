use Rattle.std.proofs.Common.{◌+◌, ◌*◌, not, count_by, length}
use Rattle.rsc_engine.specs.Searches.{search_in}
use Rattle.rsc_engine.proofs.OrderedLemmas.{IsStack}
use Rattle.rsc_engine.proofs.dfa.ordered.scan.Given as goal

abbrev pub invariant-stack : goal.invariant-stack
invariant-stack g l =
    IsStack (search_in g.W.WordClass.word_chars l.program l.input) l.at l.fn.list (length l.program.automaton.states) l.seen.items l.taken.items
    l.stack.items l.next.items

abbrev pub decreases-stack : goal.decreases-stack
decreases-stack g l = 2 * count_by not l.seen.items + length l.stack.items
