use Rattle.std.proofs.Common.{◌≡◌, ◌<◌, ◌==◌, ℕ, true, not, get_or}
use Rattle.rsc_replace.proofs.template.count_before.Given as goal

abbrev pub invariant-loop-at : goal.invariant-loop-at
invariant-loop-at l = (k : ℕ) → k < l.at → not (get_or l.bytes k 0 == l.byte) ≡ true
