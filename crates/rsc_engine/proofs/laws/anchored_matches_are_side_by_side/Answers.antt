use Rattle.rsc_engine.specs.Searches.{search_in}
use Rattle.rsc_engine.proofs.LawsLemmas.{next_at_start, none_at_start}
use Rattle.rsc_engine.proofs.laws.anchored_matches_are_side_by_side.Goals as goal

pub returns-clause-next : goal.returns-clause-next
returns-clause-next g c = λ program patterns input last captures found r none anchored f.
    next_at_start (search_in g.W.WordClass.word_chars program input) patterns last captures found (λ other. r.exactly input other) none anchored f

pub returns-clause-over : goal.returns-clause-over
returns-clause-over g c = λ program patterns input last other r none over same m.
    none_at_start (search_in g.W.WordClass.word_chars program input) patterns last other (λ one. r.exactly input one) none over same m
