use Rattle.std.proofs.Common.{◌≡◌, not, count_by, length}
use Rattle.rsc_engine.proofs.dfa.quiet.loud_states.Given as goal

abbrev pub invariant-passes : goal.invariant-passes
invariant-passes g l = length l.loud.items ≡ length l.program.automaton.states

abbrev pub decreases-passes : goal.decreases-passes
decreases-passes g l = count_by not l.loud.items
