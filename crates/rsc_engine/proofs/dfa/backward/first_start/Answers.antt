use Rattle.std.proofs.Common.{refl}
use Rattle.rsc_engine.specs.Searches.{search_in}
use Rattle.rsc_engine.specs.ForwardLayout.{search_up_to}
use Rattle.rsc_engine.specs.BackwardLayout.{IsStartOf}
use Rattle.rsc_engine.specs.LogLayout.{IsLogged, IsLoggedFirst}
use Rattle.rsc_engine.proofs.BackwardLemmas.{end-low, end-high}
use Rattle.rsc_engine.proofs.ForwardLayoutLemmas.{map_ok}
use Rattle.rsc_engine.proofs.LogLayoutLemmas.{first-start}
use Rattle.rsc_engine.proofs.dfa.backward.first_start.Goals as goal

pub part_of-part-requires-clause-low : goal.part_of-part-requires-clause-low
part_of-part-requires-clause-low g c = end-low _ c.args.pattern c.args.end c.requires.end

pub part_of-part-requires-clause-high : goal.part_of-part-requires-clause-high
part_of-part-requires-clause-high g c = end-high _ c.args.pattern c.args.end c.requires.end

pub returns-clause-start : goal.returns-clause-start
returns-clause-start g c =
    let e = search_in g.W.WordClass.word_chars c.args.plan.now.program.now c.args.input.now in
    let part = c.part_of-part.ensures in
    map_ok c.go_back.result (λ at. IsLoggedFirst (search_up_to e c.args.end) at c.go_back.new.table.rows.items c.go_back.new.log.items)
    (IsStartOf e c.args.pattern c.args.end) (λ at first. (first-start e c.args.pattern c.args.end at _ _ c.requires.end first).0)
    (rw (part.haystack, part.start, part.end, part.anchored) at (c.go_back.ensures.first refl))

pub returns-clause-log : goal.returns-clause-log
returns-clause-log g c =
    let e = search_in g.W.WordClass.word_chars c.args.plan.now.program.now c.args.input.now in
    let part = c.part_of-part.ensures in
    map_ok c.go_back.result (λ at. IsLoggedFirst (search_up_to e c.args.end) at c.go_back.new.table.rows.items c.go_back.new.log.items)
    (λ at. IsLogged (search_up_to e c.args.end) at c.go_back.new.table.rows.items c.go_back.new.log.items)
    (λ at first. (first-start e c.args.pattern c.args.end at _ _ c.requires.end first).1)
    (rw (part.haystack, part.start, part.end, part.anchored) at (c.go_back.ensures.first refl))
