use Rattle.std.proofs.Common.{◌≡◌, ◌<◌, ◌∙◌, refl, sym, subst, length}
use Rattle.std.proofs.lemmas.Option.{slice_get_read}
use Rattle.rsc_look.specs.Holds.{byte_before}
use Rattle.rsc_engine.specs.Searches.{search_in}
use Rattle.rsc_engine.specs.declared.dfa.pass_table.PassRow.{PassRow}
use Rattle.rsc_engine.specs.RowsLayout.{machine, IsPlainUnit}
use Rattle.rsc_engine.specs.PassTableLayout.{IsPassTo, IsBeyondAt}
use Rattle.rsc_engine.specs.BackwardLayout.{GoesBackward}
use Rattle.rsc_engine.proofs.ForwardLayoutLemmas.{map_ok}
use Rattle.rsc_engine.proofs.PassTableLayoutLemmas.{some_same, led-there}
use Rattle.rsc_engine.proofs.BackwardLayoutLemmas.{goes-backward, goes-back-beyond}
use Rattle.rsc_engine.proofs.dfa.pass_table.PassTable.row_before.Goals as goal

pub returns-in-Some-clause-row : goal.returns-in-Some-clause-row
returns-in-Some-clause-row g c = led-there _ _ _ _ _ _ _ c.in-Some.ensures

pub returns-in-Some-clause-goes : goal.returns-in-Some-clause-goes
returns-in-Some-clause-goes g c =
    let unit : c.before_of-unit.result ≡ byte_before c.args.input.now.haystack c.args.at = rw c.haystack.ensures.value at c.before_of-unit.ensures.value in
    goes-backward (search_in g.W.WordClass.word_chars c.args.plan.now.program.now c.args.input.now) c.args.plan.now.classes
    c.args.plan.now.width c.args.plan.now.unicode
    record { laws = c.steps_are_lawful.ensures; plan = c.requires.plan; within = c.haystack.ensures.within }
    c.args.self.now.rows.items c.args.self.now.rows.items c.args.row c.args.at c.in-Some.next c.requires.start c.requires.end (rw unit at c.in-Some.ensures)

pub returns-in-None-clause-row : goal.returns-in-None-clause-row
returns-in-None-clause-row g c =
    map_ok c.make.result
    (IsPassTo (machine g.W.WordClass.word_chars c.args.plan.now.program.now) c.args.plan.now.classes c.args.self.now.rows.items c.make.new.self.rows.items
    c.args.row c.before_of-unit.result)
    (λ next. next < length c.make.new.self.rows.items) (λ next made. led-there _ _ _ _ _ _ next made) c.make.ensures.step

pub returns-in-None-clause-goes : goal.returns-in-None-clause-goes
returns-in-None-clause-goes g c =
    let unit : c.before_of-unit.result ≡ byte_before c.args.input.now.haystack c.args.at = rw c.haystack.ensures.value at c.before_of-unit.ensures.value in
    let e = search_in g.W.WordClass.word_chars c.args.plan.now.program.now c.args.input.now in
    let old = c.args.self.now.rows.items in
    let new = c.make.new.self.rows.items in
    map_ok c.make.result
    (IsPassTo (machine g.W.WordClass.word_chars c.args.plan.now.program.now) c.args.plan.now.classes old new c.args.row
    (byte_before c.args.input.now.haystack c.args.at))
    (GoesBackward e c.args.plan.now.classes old new c.args.row c.args.at)
    (λ next made. goes-backward e c.args.plan.now.classes c.args.plan.now.width c.args.plan.now.unicode
    record { laws = c.steps_are_lawful.ensures; plan = c.requires.plan; within = c.haystack.ensures.within }
    old new c.args.row c.args.at next c.requires.start c.requires.end made) (rw unit at c.make.ensures.step)

pub make-requires-clause-read : goal.make-requires-clause-read
make-requires-clause-read g c = λ from there.
    subst (λ (r : PassRow). IsPlainUnit (machine g.W.WordClass.word_chars c.args.plan.now.program.now) r.read)
    (some_same c.index.result.now from
    (sym (slice_get_read _ (length c.args.self.now.rows.items) _ _ refl c.requires.row c.index.ensures) ∙ there))
    (c.is_beyond-else-is_beyond.ensures.plain c.if-is_beyond-2.false)

pub returns-then-is_beyond-clause-goes : goal.returns-then-is_beyond-clause-goes
returns-then-is_beyond-clause-goes g c =
    let e = search_in g.W.WordClass.word_chars c.args.plan.now.program.now c.args.input.now in
    let old = c.args.self.now.rows.items in
    let new = c.step_beyond.new.self.rows.items in
    map_ok c.step_beyond.result
    (IsBeyondAt (machine g.W.WordClass.word_chars c.args.plan.now.program.now) c.args.plan.now.classes old new c.args.row
    c.args.input.now.haystack c.args.at)
    (GoesBackward e c.args.plan.now.classes old new c.args.row c.args.at)
    (λ next made. goes-back-beyond e c.args.plan.now.classes c.args.plan.now.width c.args.plan.now.unicode
    record { laws = c.steps_are_lawful.ensures; plan = c.requires.plan; within = c.haystack.ensures.within }
    old new c.args.row c.args.at next c.requires.start c.requires.end made)
    (rw c.haystack-then-is_beyond.ensures.value at c.step_beyond.ensures.step)
