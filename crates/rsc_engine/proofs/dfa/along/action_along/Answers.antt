use Rattle.rsc_engine.specs.Searches.{search_in}
use Rattle.rsc_engine.proofs.AlongLayoutLemmas.{in-place-single, in-place-second, over-hopeless, byte-hopeless}
use Rattle.rsc_engine.proofs.dfa.along.action_along.Goals as goal

pub returns-else-has-clause-action : goal.returns-else-has-clause-action
returns-else-has-clause-action g c = λ lists.
    let e = search_in g.W.WordClass.word_chars c.args.program.now c.args.input.now in
    over-hopeless e c.args.at c.args.sid c.args.list.now lists (c.has.ensures.no c.if-has.false) (c.requires.sid, c.requires.start, c.requires.at)
    c.in-OverByte.ensures.action.0 (λ q l. (c.in-OverByte.ensures.action.3 q l).1)

pub returns-then-is_dead-clause-action : goal.returns-then-is_dead-clause-action
returns-then-is_dead-clause-action g c = λ lists.
    let e = search_in g.W.WordClass.word_chars c.args.program.now c.args.input.now in
    let dead = c.is_dead.ensures c.if-is_dead.true in
    in-place-second e c.args.at c.args.sid c.in-Two.a c.in-Two.b (c.requires.sid, c.requires.start, c.requires.at) c.in-Two.ensures.action
    (byte-hopeless e c.args.at c.in-Two.a dead.1.0 dead.1.1 dead.1.2 c.args.list.now lists dead.0
    (c.in-Two.ensures.there.0, c.requires.start, c.requires.at) dead.1.3)

pub returns-in-One-clause-action : goal.returns-in-One-clause-action
returns-in-One-clause-action g c = λ lists.
    in-place-single (search_in g.W.WordClass.word_chars c.args.program.now c.args.input.now) c.args.at c.args.sid c.in-One.to
    (c.requires.sid, c.requires.start, c.requires.at) c.in-One.ensures.action
