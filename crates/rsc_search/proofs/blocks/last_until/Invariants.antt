use Rattle.std.proofs.Common.{◌≡◌, ℕ, ◌^◌, ◌<◌, ◌≤◌, false}
use Rattle.rsc_search.specs.BlockLayout.{is_set, rest_end, IsRestTo}
use Rattle.rsc_search.proofs.blocks.last_until.Given as goal

abbrev pub invariant-loop-block : goal.invariant-loop-block
invariant-loop-block l = record {
  fits : l.block < 2 ^ 64;
  is_rest : IsRestTo l.blocks l.found l.block;
  order : rest_end l.found l.block ≤ rest_end l.index l.rest;
  clear : (q : ℕ) → rest_end l.found l.block ≤ q → q < rest_end l.index l.rest → is_set l.blocks q ≡ false;
}

abbrev pub decreases-loop-block : goal.decreases-loop-block
decreases-loop-block l = l.found
