use Rattle.std.proofs.Common.{◌<◌, ◌^◌, ℕ, get_or, rules}
use Rattle.rsc_search.proofs.BlockLayoutLemmas.{decides_bits}
use Rattle.rsc_search.proofs.blocks.have_same_bits.Goals as goal

pub returns : goal.returns
returns c =
    let blocks_fit : (i : ℕ) → get_or c.args.blocks.now i 0 < 2 ^ 64 = search rules in
    let others_fit : (i : ℕ) → get_or c.args.others.now i 0 < 2 ^ 64 = search rules in
    decides_bits c.args.blocks.now c.args.others.now c.eq.result blocks_fit others_fit c.eq.ensures
