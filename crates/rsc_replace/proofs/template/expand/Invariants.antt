use Rattle.std.proofs.Common.{◌≡◌, ◌≤◌, ◌-◌, ◌++◌, ℕ, List, drop, length}
use Rattle.rsc_replace.specs.Templates.{filled}
use Rattle.rsc_replace.proofs.template.expand.Given as goal

abbrev pub invariant-loop-at : goal.invariant-loop-at
invariant-loop-at l = record {
  within : l.at ≤ length l.template;
  begun : (done : List ℕ) × (l.out.items ≡ l.fn.out.items ++ done)
      × (filled l.text l.captures l.template ≡ done ++ filled l.text l.captures (drop l.at l.template));
}

abbrev pub decreases-loop-at : goal.decreases-loop-at
decreases-loop-at l = length l.template - l.at
