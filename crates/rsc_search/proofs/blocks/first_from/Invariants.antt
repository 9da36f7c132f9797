use Rattle.std.proofs.Common.{◌≡◌, ℕ, ◌-◌, ◌^◌, ◌<◌, ◌≤◌, false}
use Rattle.rsc_search.specs.BlockLayout.{is_set, rest_start, IsRestFrom}
use Rattle.rsc_search.proofs.blocks.first_from.Given as goal

abbrev pub invariant-loop-block : goal.invariant-loop-block
invariant-loop-block l = record {
  fits : l.block < 2 ^ 64;
  is_rest : IsRestFrom l.blocks l.found l.block;
  order : rest_start l.index l.rest ≤ rest_start l.found l.block;
  clear : (q : ℕ) → rest_start l.index l.rest ≤ q → q < rest_start l.found l.block → is_set l.blocks q ≡ false;
}

abbrev pub decreases-loop-block : goal.decreases-loop-block
decreases-loop-block l = l.last - l.found
