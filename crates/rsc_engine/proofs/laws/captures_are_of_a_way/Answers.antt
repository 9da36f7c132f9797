use Rattle.std.proofs.Common.{◌∙◌, ℕ, sym, subst}
use Rattle.rsc_engine.specs.Searches.{search_in}
use Rattle.rsc_engine.specs.Runs.{IsMatchRun}
use Rattle.rsc_engine.proofs.laws.captures_are_of_a_way.Goals as goal

pub returns-clause-first : goal.returns-clause-first
returns-clause-first g c = λ program patterns input captures found p r f its.
    let w = r.way input f.run found p
    (subst (λ (i : ℕ). IsMatchRun (search_in g.W.WordClass.word_chars program input) (program.start, i) f.run) (sym f.is_of.ends.start)
    f.is_first.preferred.is_match) f.is_of.ends its in (w.0, w.1, λ slot l. f.is_of.records slot l ∙ w.2 slot)

pub returns-clause-next : goal.returns-clause-next
returns-clause-next g c = λ program patterns input last captures found p r f its.
    let w = r.way input f.run found p
    (subst (λ (i : ℕ). IsMatchRun (search_in g.W.WordClass.word_chars program input) (program.start, i) f.run) (sym f.is_of.ends.start)
    f.is_next.preferred.is_match) f.is_of.ends its in (w.0, w.1, λ slot l. f.is_of.records slot l ∙ w.2 slot)
