use Rattle.rsc_engine.proofs.OnePatternLemmas.{first-of-one, none-of-one, next-of-one, over-of-one, taken-of-one, passed-of-one}
use Rattle.rsc_engine.proofs.laws.one_pattern.a_match_of_one_pattern.Goals as goal

pub returns-clause-first : goal.returns-clause-first
returns-clause-first g c = λ program p groups matcher input captures found built lists is f.
    rw (← is) (first-of-one g.W.WordClass.word_chars program p input built groups captures found lists f)

pub returns-clause-none : goal.returns-clause-none
returns-clause-none g c = λ program p matcher input built is none. rw (← is) (none-of-one g.W.WordClass.word_chars program p input built none)

pub returns-clause-next : goal.returns-clause-next
returns-clause-next g c = λ program p groups matcher input last captures found built lists is f.
    rw (← is) (next-of-one g.W.WordClass.word_chars program p input built groups last captures found lists f)

pub returns-clause-over : goal.returns-clause-over
returns-clause-over g c = λ program p matcher input last built is over takes.
    rw (← is) (over-of-one g.W.WordClass.word_chars program p input built last over takes)

pub returns-clause-next_of_one : goal.returns-clause-next_of_one
returns-clause-next_of_one g c = λ program p groups matcher utf8 input last captures found built lists is text f.
    rw (← is) (taken-of-one g.W.WordClass.word_chars program p input built groups utf8 last captures found lists text f)

pub returns-clause-over_of_one : goal.returns-clause-over_of_one
returns-clause-over_of_one g c = λ program p groups matcher utf8 input last built lists is text over.
    rw (← is) (passed-of-one g.W.WordClass.word_chars program p input built groups utf8 last lists text over)
