use Rattle.std.proofs.Common.{◌∙◌}
use Rattle.rsc_engine.proofs.laws.captures_are_of_the_preferred_way.Goals as goal

pub returns-clause-first : goal.returns-clause-first
returns-clause-first g c = λ program patterns input captures found p r f its.
    let w = r.preferred input f.run found p f.is_first.preferred f.is_of.ends its in (w.0, w.1, λ slot l. f.is_of.records slot l ∙ w.2 slot)

pub returns-clause-next : goal.returns-clause-next
returns-clause-next g c = λ program patterns input last captures found p r f its.
    let w = r.preferred input f.run found p f.is_next.preferred f.is_of.ends its in (w.0, w.1, λ slot l. f.is_of.records slot l ∙ w.2 slot)
