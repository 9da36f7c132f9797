use Rattle.std.proofs.Common.{◌≡◌, ◌<◌, ℕ, take, map}
use Rattle.rsc_search.specs.PatternSets.{has_member}
use Rattle.rsc_uses.proofs.search.kinds_of.Given as goal

-- the members are the kinds of the tokens so far
abbrev pub invariant-loop-token : goal.invariant-loop-token
invariant-loop-token l =
    record {
      capacity : l.set.capacity ≡ 3;
      members : (q : ℕ) → q < 3 → has_member l.set.members q ≡ has_member (map (λ m. m.pattern) (take l.token-index l.tokens)) q;
    }
