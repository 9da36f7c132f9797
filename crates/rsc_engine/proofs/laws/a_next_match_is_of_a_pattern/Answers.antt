use Rattle.std.proofs.Common.{arith}
use Rattle.rsc_engine.specs.Searches.{search_in}
use Rattle.rsc_engine.proofs.LawsLemmas.{next_is_in, why_passed}
use Rattle.rsc_engine.proofs.laws.a_next_match_is_of_a_pattern.Goals as goal

pub returns-clause-some : goal.returns-clause-some
returns-clause-some g c = λ program patterns input last captures found r f.
    next_is_in (search_in g.W.WordClass.word_chars program input) patterns last captures found (λ other. r.exactly input other) f

pub returns-clause-earlier : goal.returns-clause-earlier
returns-clause-earlier g c = λ program patterns input last captures found other r f l opens m.
    why_passed (search_in g.W.WordClass.word_chars program input) patterns last other (λ one. r.exactly input one)
    (f.is_next.left_out other.span.start (omega (arith, l, f.is_of.ends.start)) opens) m

pub returns-clause-over : goal.returns-clause-over
returns-clause-over g c = λ program patterns input last other r over opens m.
    why_passed (search_in g.W.WordClass.word_chars program input) patterns last other (λ one. r.exactly input one) (over other.span.start opens) m
