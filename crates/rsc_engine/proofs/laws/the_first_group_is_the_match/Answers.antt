use Rattle.std.proofs.Common.{◌+◌, ◌*◌, arith}
use Rattle.rsc_engine.specs.Searches.{search_in}
use Rattle.rsc_engine.proofs.GroupEndsLemmas.{slot_holds, whole_span}
use Rattle.rsc_engine.proofs.laws.the_first_group_is_the_match.Goals as goal

pub returns-clause-first_start : goal.returns-clause-first_start
returns-clause-first_start g c = λ program input captures found r f l.
    slot_holds (search_in g.W.WordClass.word_chars program input) f.run captures found (2 * found.pattern) found.span.start
    (r.start input f.run found) f.is_first.preferred.is_match f.is_of l

pub returns-clause-first_end : goal.returns-clause-first_end
returns-clause-first_end g c = λ program input captures found r f l.
    slot_holds (search_in g.W.WordClass.word_chars program input) f.run captures found (2 * found.pattern + 1) found.span.end
    (r.end input f.run found) f.is_first.preferred.is_match f.is_of l

pub returns-clause-next_start : goal.returns-clause-next_start
returns-clause-next_start g c = λ program input last captures found r f l.
    slot_holds (search_in g.W.WordClass.word_chars program input) f.run captures found (2 * found.pattern) found.span.start
    (r.start input f.run found) f.is_next.preferred.is_match f.is_of l

pub returns-clause-next_end : goal.returns-clause-next_end
returns-clause-next_end g c = λ program input last captures found r f l.
    slot_holds (search_in g.W.WordClass.word_chars program input) f.run captures found (2 * found.pattern + 1) found.span.end
    (r.end input f.run found) f.is_next.preferred.is_match f.is_of l

pub returns-clause-first_group : goal.returns-clause-first_group
returns-clause-first_group g c = λ program input captures found r f l some.
    let e = search_in g.W.WordClass.word_chars program input in
    whole_span captures found f.is_of.pattern some
    (slot_holds e f.run captures found (2 * found.pattern) found.span.start (r.start input f.run found) f.is_first.preferred.is_match f.is_of
    (omega (arith, l)))
    (slot_holds e f.run captures found (2 * found.pattern + 1) found.span.end (r.end input f.run found) f.is_first.preferred.is_match f.is_of l)

pub returns-clause-next_group : goal.returns-clause-next_group
returns-clause-next_group g c = λ program input last captures found r f l some.
    let e = search_in g.W.WordClass.word_chars program input in
    whole_span captures found f.is_of.pattern some
    (slot_holds e f.run captures found (2 * found.pattern) found.span.start (r.start input f.run found) f.is_next.preferred.is_match f.is_of
    (omega (arith, l)))
    (slot_holds e f.run captures found (2 * found.pattern + 1) found.span.end (r.end input f.run found) f.is_next.preferred.is_match f.is_of l)
