use Rattle.std.proofs.Common.{◌-◌, ◌≤◌}
use Rattle.rsc_engine.specs.FirstBytesLayout.{LacksFirst}
use Rattle.rsc_engine.proofs.dfa.first_bytes.FirstBytes.next_in.Given as goal

abbrev pub invariant-parts : goal.invariant-parts
invariant-parts l = record {
  none : LacksFirst l.self.range l.haystack l.start l.at;
  start : l.start ≤ l.at;
  end : l.at ≤ l.end;
}

abbrev pub decreases-parts : goal.decreases-parts
decreases-parts l = l.end - l.at
