use Rattle.std.proofs.Common.{◌<◌, ◌≤◌, ℕ}
use Rattle.rsc_engine.specs.Searches.{search_in}
use Rattle.rsc_engine.specs.ArrivalsLayout.{Arrives}
use Rattle.rsc_engine.proofs.dfa.ahead.Ahead.next_begin.Given as goal

-- no match begins at the positions so far
abbrev pub invariant-positions : goal.invariant-positions
invariant-positions g l = (m : ℕ) → l.from ≤ m → m < l.at
    → ¬ (Arrives (search_in g.W.WordClass.word_chars l.self.program l.self.input) l.self.program.start m)
