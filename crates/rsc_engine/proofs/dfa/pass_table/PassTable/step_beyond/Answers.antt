use Rattle.std.proofs.Common.{refl, length}
use Rattle.std.proofs.lemmas.Option.{slice_get_read}
use Rattle.rsc_engine.specs.RowsLayout.{machine}
use Rattle.rsc_engine.specs.PassTableLayout.{AreHolding, IsBeyondTo, IsBeyondAt}
use Rattle.rsc_engine.proofs.ForwardLayoutLemmas.{map_ok}
use Rattle.rsc_engine.proofs.PassTableLayoutLemmas.{beyond-here}
use Rattle.rsc_engine.proofs.dfa.pass_table.PassTable.step_beyond.Goals as goal

pub returns-in-Some-clause-step : goal.returns-in-Some-clause-step
returns-in-Some-clause-step g c =
    let m = machine g.W.WordClass.word_chars c.args.plan.now.program.now in
    let holding : AreHolding m c.args.haystack.now c.args.at c.holding-looks.result =
    rw (c.matcher.ensures, c.nfa.ensures) at c.holding-looks.ensures.members in
    beyond-here m _ _ _ _ _ _ _ c.index.result.now c.unit_at-unit.result c.holding-looks.result
    (slice_get_read _ (length c.args.self.now.rows.items) _ _ refl c.requires.row c.index.ensures) c.unit_at-unit.ensures.value holding
    (rw c.in-Some.is at (c.known_beyond.ensures m c.args.plan.now.classes c.args.plan.now.width c.args.plan.now.most_rows c.requires.exact))

pub returns-in-None-clause-step : goal.returns-in-None-clause-step
returns-in-None-clause-step g c =
    let m = machine g.W.WordClass.word_chars c.args.plan.now.program.now in
    let old = c.args.self.now.rows.items in
    let new = c.make_beyond.new.self.rows.items in
    let holding : AreHolding m c.args.haystack.now c.args.at c.holding-looks.result =
    rw (c.matcher.ensures, c.nfa.ensures) at c.holding-looks.ensures.members in
    map_ok c.make_beyond.result
    (IsBeyondTo m c.args.plan.now.classes old new c.args.row c.unit_at-unit.result c.holding-looks.result)
    (IsBeyondAt m c.args.plan.now.classes old new c.args.row c.args.haystack.now c.args.at)
    (λ next to. beyond-here m _ old new _ _ _ next c.index.result.now c.unit_at-unit.result c.holding-looks.result
    (slice_get_read _ (length old) _ _ refl c.requires.row c.index.ensures) c.unit_at-unit.ensures.value holding to) c.make_beyond.ensures.step
