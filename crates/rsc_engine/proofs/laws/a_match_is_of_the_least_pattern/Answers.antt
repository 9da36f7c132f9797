use Rattle.rsc_engine.specs.Searches.{search_in}
use Rattle.rsc_engine.proofs.PatternOrderLemmas.{is_least}
use Rattle.rsc_engine.proofs.laws.a_match_is_of_the_least_pattern.Goals as goal

pub returns-clause-first : goal.returns-clause-first
returns-clause-first g c = λ program patterns input captures found other r p f m same.
    is_least (search_in g.W.WordClass.word_chars program input) f.run found other (p.lesser input) f.is_first.preferred f.is_of.ends
    ((r.exactly input other).1 m) same

pub returns-clause-next : goal.returns-clause-next
returns-clause-next g c = λ program patterns input last captures found other r p f m same.
    is_least (search_in g.W.WordClass.word_chars program input) f.run found other (p.lesser input) f.is_next.preferred f.is_of.ends
    ((r.exactly input other).1 m) same
