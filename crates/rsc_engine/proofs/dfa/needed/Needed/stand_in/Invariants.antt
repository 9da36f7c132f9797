use Rattle.std.proofs.Common.{◌-◌, ◌<◌, ◌≤◌}
use Rattle.rsc_engine.specs.NeededLayout.{HasNoPair}
use Rattle.rsc_engine.proofs.dfa.needed.Needed.stand_in.Given as goal

-- there is no pair of bytes so far
abbrev pub invariant-parts : goal.invariant-parts
invariant-parts l = record {
  none : HasNoPair l.self.first l.self.second l.haystack l.start l.at;
  start : l.start < l.at;
  end : l.at ≤ l.end;
}

abbrev pub decreases-parts : goal.decreases-parts
decreases-parts l = l.end - l.at
