use Rattle.std.proofs.Common.{◌≡◌, ◌+◌, ◌-◌, ◌∙◌, ◌≤◌, sym, refl, length, get_or, arith, subst, ℕ, Some, slice_get}
use Rattle.std.proofs.lemmas.Option.{slice_get_read}
use Rattle.std.proofs.lemmas.List.{get_or_default}
use Rattle.rsc_engine.specs.Searches.{search_in}
use Rattle.rsc_engine.proofs.AheadLayoutLemmas.{begins-within, begins-row, begins-as}
use Rattle.rsc_engine.proofs.dfa.ahead.Ahead.begins.Goals as goal

pub index-requires-2 : goal.index-requires-2
index-requires-2 g c =
    let e = search_in g.W.WordClass.word_chars c.self.inside.program.now c.self.inside.input in
    let rows = c.self.inside.table.rows.items in
    let log = c.self.inside.log.items in
    let low : c.self.inside.input.span.start ≤ c.args.at = rw (← c.self.view_is) at c.requires.low in
    let high : c.args.at ≤ c.self.inside.input.span.end = rw (← c.self.view_is) at c.requires.high in
    let within = begins-within e c.args.at c.end.result rows log c.end.ensures.value low high c.self.invariant in
    let read : get_or log (c.end.result + 1 - c.args.at) 0 ≡ c.index.result.now =
    get_or_default log (c.end.result + 1 - c.args.at) 0 c.index.result.now within ∙ sym c.index.ensures in
    omega (arith, read, begins-row e c.args.at c.end.result rows log c.end.ensures.value low high c.self.invariant, c.self.inside.table.rows.ok)

pub returns-clause-yes : goal.returns-clause-yes
returns-clause-yes g c =
    let e = search_in g.W.WordClass.word_chars c.self.inside.program.now c.self.inside.input in
    let rows = c.self.inside.table.rows.items in
    let log = c.self.inside.log.items in
    let low : c.self.inside.input.span.start ≤ c.args.at = rw (← c.self.view_is) at c.requires.low in
    let high : c.args.at ≤ c.self.inside.input.span.end = rw (← c.self.view_is) at c.requires.high in
    let within = begins-within e c.args.at c.end.result rows log c.end.ensures.value low high c.self.invariant in
    let read : get_or log (c.end.result + 1 - c.args.at) 0 ≡ c.index.result.now =
    get_or_default log (c.end.result + 1 - c.args.at) 0 c.index.result.now within ∙ sym c.index.ensures in
    let below = begins-row e c.args.at c.end.result rows log c.end.ensures.value low high c.self.invariant in
    let there : slice_get rows (get_or log (c.end.result + 1 - c.args.at) 0) ≡ Some c.index-2.result.now =
    subst (λ (k : ℕ). slice_get rows k ≡ Some c.index-2.result.now) (sym read)
    (slice_get_read rows (length rows) c.index.result.now c.index-2.result.now refl (omega (arith, read, below)) c.index-2.ensures) in
    rw (← c.self.view_is)
    (begins-as e c.args.at c.end.result rows log c.end.ensures.value low high c.self.invariant c.index-2.result.now there).yes

pub returns-clause-no : goal.returns-clause-no
returns-clause-no g c =
    let e = search_in g.W.WordClass.word_chars c.self.inside.program.now c.self.inside.input in
    let rows = c.self.inside.table.rows.items in
    let log = c.self.inside.log.items in
    let low : c.self.inside.input.span.start ≤ c.args.at = rw (← c.self.view_is) at c.requires.low in
    let high : c.args.at ≤ c.self.inside.input.span.end = rw (← c.self.view_is) at c.requires.high in
    let within = begins-within e c.args.at c.end.result rows log c.end.ensures.value low high c.self.invariant in
    let read : get_or log (c.end.result + 1 - c.args.at) 0 ≡ c.index.result.now =
    get_or_default log (c.end.result + 1 - c.args.at) 0 c.index.result.now within ∙ sym c.index.ensures in
    let below = begins-row e c.args.at c.end.result rows log c.end.ensures.value low high c.self.invariant in
    let there : slice_get rows (get_or log (c.end.result + 1 - c.args.at) 0) ≡ Some c.index-2.result.now =
    subst (λ (k : ℕ). slice_get rows k ≡ Some c.index-2.result.now) (sym read)
    (slice_get_read rows (length rows) c.index.result.now c.index-2.result.now refl (omega (arith, read, below)) c.index-2.ensures) in
    rw (← c.self.view_is)
    (begins-as e c.args.at c.end.result rows log c.end.ensures.value low high c.self.invariant c.index-2.result.now there).no
