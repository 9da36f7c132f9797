use Rattle.std.proofs.Common.{◌≤◌}
use Rattle.rsc_engine.proofs.FirstEndsLemmas.{first-one}
use Rattle.rsc_engine.proofs.laws.a_match_ends_at_its_first_end.Goals as goal

pub returns-clause-first : goal.returns-clause-first
returns-clause-first g c = λ program patterns input captures found p r f its loops.
    r.first input f.run found p f.is_first.preferred f.is_of.ends its loops

pub returns-clause-next : goal.returns-clause-next
returns-clause-next g c = λ program patterns input last captures found p r f its loops.
    r.first input f.run found p f.is_next.preferred f.is_of.ends its loops

pub returns-clause-one : goal.returns-clause-one
returns-clause-one g c = λ x p end i j k f h. first-one x p (λ l. l ≤ end) i j k f h
