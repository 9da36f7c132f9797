use Rattle.std.proofs.Common.{◌∙◌, ap, sym, cond}
use Rattle.rsc_uses.proofs.alphabet.fill_from_ranges.Goals as goal

pub fill_by_representatives-requires-clause-alike : goal.fill_by_representatives-requires-clause-alike
fill_by_representatives-requires-clause-alike c = λ b d l m same.
    c.leads_of-leads.ensures b l
    ∙ ap (λ x. cond x 1 0)
    (c.alike_bytes_share_their_ranges.ensures.any c.args.all.now c.args.part.now b d ((c.classes_of_ranges-map.ensures.alike b d l m).0 same) c.requires.among)
    ∙ sym (c.leads_of-leads.ensures d m)
