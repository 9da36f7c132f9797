use Rattle.rsc_engine.specs.Searches.{search_in}
use Rattle.rsc_engine.proofs.LawsLemmas.{end_is_in, none_ends_before}
use Rattle.rsc_engine.proofs.laws.an_earliest_end_is_of_a_pattern.Goals as goal

pub returns-clause-some : goal.returns-clause-some
returns-clause-some g c = λ program patterns input end r f.
    let x = end_is_in (search_in g.W.WordClass.word_chars program input) patterns end (λ one. r.exactly input one) f.ends in
    (x.0, x.1, x.2, x.3)

pub returns-clause-earlier : goal.returns-clause-earlier
returns-clause-earlier g c = λ program patterns input end other r f begins l m.
    none_ends_before (search_in g.W.WordClass.word_chars program input) patterns end other (λ one. r.exactly input one) f begins l m
