use Rattle.rsc_engine.specs.Searches.{search_in}
use Rattle.rsc_engine.proofs.LawsLemmas.{first_is_in, none_before, none_at_all}
use Rattle.rsc_engine.proofs.laws.a_first_match_is_of_a_pattern.Goals as goal

pub returns-clause-some : goal.returns-clause-some
returns-clause-some g c = λ program patterns input captures found r f.
    first_is_in (search_in g.W.WordClass.word_chars program input) patterns captures found (λ other. r.exactly input other) f

pub returns-clause-earlier : goal.returns-clause-earlier
returns-clause-earlier g c = λ program patterns input captures found other r f l m.
    none_before (search_in g.W.WordClass.word_chars program input) patterns captures found other (λ one. r.exactly input one) f l m

pub returns-clause-none : goal.returns-clause-none
returns-clause-none g c = λ program patterns input other r none begins m.
    none_at_all (search_in g.W.WordClass.word_chars program input) patterns other (λ one. r.exactly input one) none begins m
