use Rattle.rsc_nfa.specs.Steps.{place}
use Rattle.rsc_engine.specs.Searches.{search_in}
use Rattle.rsc_engine.proofs.RunsLemmas.{offset-within}
use Rattle.rsc_engine.proofs.GroupOrderLemmas.{slots_in_order, span_in_order}
use Rattle.rsc_engine.proofs.laws.a_group_that_begins_ends.Goals as goal

pub returns-clause-first : goal.returns-clause-first
returns-clause-first g c = λ program input captures found pair i r f l from.
    slots_in_order (search_in g.W.WordClass.word_chars program input) f.run captures found pair i
    (r.closed input f.run (place f.run 0).1 pair i f.is_first.preferred.is_match) f.is_of l from

pub returns-clause-next : goal.returns-clause-next
returns-clause-next g c = λ program input last captures found pair i r f l from.
    slots_in_order (search_in g.W.WordClass.word_chars program input) f.run captures found pair i
    (r.closed input f.run (place f.run 0).1 pair i f.is_next.preferred.is_match) f.is_of l from

pub returns-clause-first_span : goal.returns-clause-first_span
returns-clause-first_span g c = λ program input captures found group span r f is.
    let e = search_in g.W.WordClass.word_chars program input in
    span_in_order captures group span found.span.start found.span.end
    (λ pair i l from.
    slots_in_order e f.run captures found pair i (r.closed input f.run (place f.run 0).1 pair i f.is_first.preferred.is_match) f.is_of l from)
    (λ slot i at. offset-within e (e.start_state, (place f.run 0).1) f.run found captures slot i f.is_first.preferred.is_match f.is_of at) is

pub returns-clause-next_span : goal.returns-clause-next_span
returns-clause-next_span g c = λ program input last captures found group span r f is.
    let e = search_in g.W.WordClass.word_chars program input in
    span_in_order captures group span found.span.start found.span.end
    (λ pair i l from.
    slots_in_order e f.run captures found pair i (r.closed input f.run (place f.run 0).1 pair i f.is_next.preferred.is_match) f.is_of l from)
    (λ slot i at. offset-within e (e.start_state, (place f.run 0).1) f.run found captures slot i f.is_next.preferred.is_match f.is_of at) is
