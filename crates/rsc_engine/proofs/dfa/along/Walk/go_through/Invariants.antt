use Rattle.std.proofs.Common.{◌≡◌, ◌+◌, ◌*◌, ◌==◌, ℕ, not, count_by, length}
use Rattle.rsc_engine.specs.Searches.{search_in}
use Rattle.rsc_engine.proofs.AlongLemmas.{IsPassing}
use Rattle.rsc_engine.proofs.dfa.along.Walk.go_through.Given as goal

abbrev pub invariant-states : goal.invariant-states
invariant-states g l = record {
  passing : IsPassing (search_in g.W.WordClass.word_chars l.program l.input) (length l.program.automaton.states) l.at l.self.stamp l.fn.sid l.here l.list
      l.fn.slots l.self.seen.items l.self.stack.items l.self.trail.items;
  same : l.slots ≡ l.fn.slots;
}

abbrev pub decreases-states : goal.decreases-states
decreases-states g l = 2 * count_by (λ (v : ℕ). not (v == l.self.stamp)) l.self.seen.items + length l.self.stack.items
