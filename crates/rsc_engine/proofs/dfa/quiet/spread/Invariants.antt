use Rattle.rsc_engine.proofs.QuietLayoutLemmas.{IsSpread}
use Rattle.rsc_engine.proofs.dfa.quiet.spread.Given as goal

abbrev pub invariant-states : goal.invariant-states
invariant-states g l = IsSpread l.program.automaton.states l.initial.loud.items l.loud.items l.spread l.index
