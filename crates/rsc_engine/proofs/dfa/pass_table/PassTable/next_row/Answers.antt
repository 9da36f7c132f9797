use Rattle.std.proofs.Common.{◌≡◌, ◌∙◌, refl, sym, subst, length}
use Rattle.std.proofs.lemmas.Option.{slice_get_read}
use Rattle.rsc_look.specs.Holds.{byte_after}
use Rattle.rsc_engine.specs.Searches.{search_in}
use Rattle.rsc_engine.specs.declared.dfa.pass_table.PassRow.{PassRow}
use Rattle.rsc_engine.specs.RowsLayout.{machine, IsPlainUnit}
use Rattle.rsc_engine.specs.PassTableLayout.{IsPassTo, IsBeyondAt}
use Rattle.rsc_engine.specs.ForwardLayout.{GoesInEach}
use Rattle.rsc_engine.proofs.ForwardLayoutLemmas.{each-forward, each-beyond, map_ok}
use Rattle.rsc_engine.proofs.PassTableLayoutLemmas.{some_same}
use Rattle.rsc_engine.proofs.dfa.pass_table.PassTable.next_row.Goals as goal

pub returns-in-Some-clause-goes : goal.returns-in-Some-clause-goes
returns-in-Some-clause-goes g c =
    let unit : c.after_of-unit.result ≡ byte_after c.args.input.now.haystack c.args.at = rw c.haystack.ensures.value at c.after_of-unit.ensures.value in
    each-forward (search_in g.W.WordClass.word_chars c.args.plan.now.program.now c.args.input.now) c.args.plan.now.classes
    c.args.plan.now.width c.args.plan.now.unicode
    record { laws = c.steps_are_lawful.ensures; plan = c.requires.plan; within = c.haystack.ensures.within }
    c.args.self.now.rows.items c.args.self.now.rows.items c.args.row c.args.at c.in-Some.next (rw unit at c.in-Some.ensures)

pub returns-in-None-clause-goes : goal.returns-in-None-clause-goes
returns-in-None-clause-goes g c =
    let unit : c.after_of-unit.result ≡ byte_after c.args.input.now.haystack c.args.at = rw c.haystack.ensures.value at c.after_of-unit.ensures.value in
    let e = search_in g.W.WordClass.word_chars c.args.plan.now.program.now c.args.input.now in
    let old = c.args.self.now.rows.items in
    let new = c.make.new.self.rows.items in
    map_ok c.make.result
    (IsPassTo (machine g.W.WordClass.word_chars c.args.plan.now.program.now) c.args.plan.now.classes old new c.args.row
    (byte_after c.args.input.now.haystack c.args.at))
    (GoesInEach e c.args.plan.now.classes old new c.args.row c.args.at)
    (λ next made. each-forward e c.args.plan.now.classes c.args.plan.now.width c.args.plan.now.unicode
    record { laws = c.steps_are_lawful.ensures; plan = c.requires.plan; within = c.haystack.ensures.within }
    old new c.args.row c.args.at next made) (rw unit at c.make.ensures.step)

pub make-requires-clause-read : goal.make-requires-clause-read
make-requires-clause-read g c = λ from there.
    subst (λ (r : PassRow). IsPlainUnit (machine g.W.WordClass.word_chars c.args.plan.now.program.now) r.read)
    (some_same c.index.result.now from
    (sym (slice_get_read _ (length c.args.self.now.rows.items) _ _ refl c.requires.row c.index.ensures) ∙ there))
    (c.is_beyond-else-is_beyond.ensures.plain c.if-is_beyond-2.false)

pub returns-then-is_beyond-clause-goes : goal.returns-then-is_beyond-clause-goes
returns-then-is_beyond-clause-goes g c =
    let e = search_in g.W.WordClass.word_chars c.args.plan.now.program.now c.args.input.now in
    let old = c.args.self.now.rows.items in
    let new = c.step_beyond.new.self.rows.items in
    map_ok c.step_beyond.result
    (IsBeyondAt (machine g.W.WordClass.word_chars c.args.plan.now.program.now) c.args.plan.now.classes old new c.args.row
    c.args.input.now.haystack c.args.at)
    (GoesInEach e c.args.plan.now.classes old new c.args.row c.args.at)
    (λ next made. each-beyond e c.args.plan.now.classes c.steps_are_lawful.ensures old new c.args.row c.args.at next c.haystack.ensures.within made)
    (rw c.haystack-then-is_beyond.ensures.value at c.step_beyond.ensures.step)
