use Rattle.std.proofs.Common.{◌≡◌, ◌++◌, map, take}
use Rattle.rsc_show.specs.Shares.{look_item, range_item}
use Rattle.rsc_show.proofs.shares.shares_of.Given as goal

-- there are the shares of the assertions so far
abbrev pub invariant-loop-index : goal.invariant-loop-index
invariant-loop-index l = map (λ s. s.item) l.shares.items ≡ map look_item (take l.index l.looks)

-- and then those of the ranges so far
abbrev pub invariant-loop-index-2 : goal.invariant-loop-index-2
invariant-loop-index-2 l = map (λ s. s.item) l.shares.items ≡ map look_item l.looks ++ map range_item (take l.index l.ranges)
