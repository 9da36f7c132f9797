use Rattle.rsc_engine.specs.Searches.{search_in}
use Rattle.rsc_engine.proofs.LawsLemmas.{none_between, none_after_all}
use Rattle.rsc_engine.proofs.laws.only_overlapping_matches_are_left_out.Goals as goal

pub returns-clause-next : goal.returns-clause-next
returns-clause-next g c = λ program patterns input last captures found other r none unanchored f l m.
    none_between (search_in g.W.WordClass.word_chars program input) patterns last captures found other (λ one. r.exactly input one) none unanchored f l m

pub returns-clause-over : goal.returns-clause-over
returns-clause-over g c = λ program patterns input last other r none unanchored over m.
    none_after_all (search_in g.W.WordClass.word_chars program input) patterns last other (λ one. r.exactly input one) none unanchored over m
