use Rattle.std.proofs.Common.{◌∙◌, arith, length-set}
use Rattle.rsc_uses.proofs.AlphabetLemmas.{lead_more}
use Rattle.rsc_uses.proofs.alphabet.leads_of.Goals as goal

pub loop-number-preserved : goal.loop-number-preserved
loop-number-preserved c =
    let so_far = c.loop-number.invariant in let small = c.loop-number-test.true in
    record {
      len = length-set c.loop-number.leads c.loop-number.number c.lead_in.result ∙ so_far.len;
      leads = lead_more c.loop-number.leads c.args.ranges.now c.loop-number.number c.lead_in.result (omega (arith, so_far.len, small))
          so_far.leads c.lead_in.ensures;
    }
