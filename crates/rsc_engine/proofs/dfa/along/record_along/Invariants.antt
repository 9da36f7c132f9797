use Rattle.std.proofs.Common.{◌≡◌, ◌-◌, ◌<◌, ◌≤◌, length, IfSome}
use Rattle.rsc_engine.specs.Searches.{search_in}
use Rattle.rsc_engine.specs.AlongLayout.{GoesTo, IsLed}
use Rattle.rsc_engine.proofs.dfa.along.record_along.Given as goal

abbrev pub invariant-positions : goal.invariant-positions
invariant-positions g l = record {
  len : length l.walk.seen.items ≡ length l.program.automaton.states;
  there : l.sid < length l.program.automaton.states;
  low : l.input.span.start ≤ l.start;
  from : l.start ≤ l.at;
  to : l.at ≤ l.input.span.end;
  known : IfSome l.known (λ k. GoesTo (search_in g.W.WordClass.word_chars l.program l.input) l.start k.0 k.1);
  led : IsLed (search_in g.W.WordClass.word_chars l.program l.input) l.start l.sid l.at l.slots;
}

abbrev pub decreases-positions : goal.decreases-positions
decreases-positions g l = l.input.span.end - l.at
