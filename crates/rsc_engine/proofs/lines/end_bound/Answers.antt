use Rattle.rsc_engine.specs.Ends.{IsEarliestEnd}
use Rattle.rsc_engine.specs.LinesLayout.{search_from}
use Rattle.rsc_engine.proofs.LinesLemmas.{end-within}
use Rattle.rsc_engine.proofs.lines.end_bound.Goals as goal

pub returns-in-Some-clause-some : goal.returns-in-Some-clause-some
returns-in-Some-clause-some g c =
    let e = search_from g.W.WordClass.word_chars c.args.dfa.now c.args.haystack.now c.args.from in
    let x : IsEarliestEnd e c.in-Some.at = rw (c.in-Some.is, c.span-rest.ensures, c.new.ensures) at c.in_ok-earliest_end.ensures.found in
    record { from = (end-within e c.in-Some.at x.ends).0; within = (end-within e c.in-Some.at x.ends).1; none_before = x.none_before }

pub returns-in-None-clause-none : goal.returns-in-None-clause-none
returns-in-None-clause-none g c = rw (c.in-None.is, c.span-rest.ensures, c.new.ensures) at c.in_ok-earliest_end.ensures.none
