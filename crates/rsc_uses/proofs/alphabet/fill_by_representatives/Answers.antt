use Rattle.std.proofs.Common.{◌∙◌, sym, ap, arith, slice_index, length-set}
use Rattle.rsc_uses.proofs.AlphabetLemmas.{one_filled, next_is_among, all_filled, one_way, class_within}
use Rattle.rsc_uses.proofs.alphabet.fill_by_representatives.Goals as goal

pub loop-unit-preserved : goal.loop-unit-preserved
loop-unit-preserved c =
    let map = c.args.map.now in
    let awaits = c.loop-unit.invariant.3 in
    let only = c.each_class_is_represented.ensures.only map in
    let within = class_within map c.in-Some.unit (only c.in-Some.unit (next_is_among awaits c.in-Some.ensures.steps)) c.requires.bounded.within in (
      tt,
      tt,
      length-set c.loop-unit.row c.get_by_unit.result c.lead_of.result ∙ c.loop-unit.invariant.2,
      one_filled awaits c.in-Some.ensures.steps c.get_by_unit.ensures c.lead_of.ensures
          (omega (arith, c.get_by_unit.ensures, within, c.loop-unit.invariant.2, c.requires.room))
          (one_way map c.args.leads.now c.args.end _ only c.requires.bounded.within c.requires.alike),
    )

pub returns-clause-bytes : goal.returns-clause-bytes
returns-clause-bytes c = λ b l.
    let r = c.each_class_is_represented.ensures.reached c.args.map.now b l in
    sym (ap (slice_index c.loop-unit.row) r.1.2) ∙ all_filled c.loop-unit.invariant.3 c.in-None.ensures.steps.0 r.1.1
    ∙ c.requires.alike r.0 b r.1.0 l r.1.2

pub returns-clause-end : goal.returns-clause-end
returns-clause-end c = all_filled c.loop-unit.invariant.3 c.in-None.ensures.steps.0 (c.each_class_is_represented.ensures.end c.args.map.now)
