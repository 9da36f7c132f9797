use Rattle.std.proofs.Common.{◌≡◌, ◌++◌, reverse}
use Rattle.rsc_uses.proofs.search.from_both_ends.Given as goal

-- what came from the front, what is left, what came from the back
abbrev pub invariant-loop-first : goal.invariant-loop-first
invariant-loop-first l =
    (goal.iterator-loop-first).can_next l.left × (goal.iterator-loop-first).is_finite l.left
    × (l.front.items ++ (l.left ++ reverse l.back.items) ≡ l.set.members)
