use Rattle.std.proofs.Common.{◌≡◌, ◌<◌, ℕ, length, slice_index}
use Rattle.rsc_uses.specs.Leads.{lead_in}
use Rattle.rsc_uses.proofs.alphabet.leads_of.Given as goal

-- the bytes so far lead where the ranges say
abbrev pub invariant-loop-number : goal.invariant-loop-number
invariant-loop-number l =
    record {
      len : length l.leads ≡ 256;
      leads : (b : ℕ) → b < l.number → slice_index l.leads b ≡ lead_in l.ranges b;
    }
