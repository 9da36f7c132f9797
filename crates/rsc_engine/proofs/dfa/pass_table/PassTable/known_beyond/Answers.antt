use Rattle.std.proofs.Common.{◌≡◌, ◌<◌, ◌∙◌, sym, get_or, length, Some, None, rules}
use Rattle.std.proofs.lemmas.List.{get_or_read}
use Rattle.rsc_engine.proofs.dfa.pass_table.PassTable.known_beyond.Goals as goal

pub returns-then-eq-2 : goal.returns-then-eq-2
returns-then-eq-2 c = λ m classes width most x.
    let steps = c.args.self.now.beyond.items in
    let below : c.index_of-index.result < length steps = search rules in
    let some : get_or steps c.index_of-index.result None ≡ Some c.in_ok-step.step =
    sym (get_or_read steps _ _ below c.index.ensures None) ∙ c.in_ok-step.was in
    let row : c.in_ok-step.step.row ≡ c.args.row = search rules in
    let unit : c.in_ok-step.step.unit ≡ c.args.unit = search rules in
    let looks : c.in_ok-step.step.looks ≡ c.args.looks =
    (c.equality_is_of_the_value.ensures.set c.in_ok-step.step.looks c.args.looks).0 (sym c.eq-then-eq.ensures ∙ c.if-eq-2.true) in
    rw (row, unit, looks) at (rw some at (x.steps c.index_of-index.result))
