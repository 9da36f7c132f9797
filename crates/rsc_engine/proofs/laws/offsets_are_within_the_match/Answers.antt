use Rattle.rsc_nfa.specs.Steps.{place}
use Rattle.rsc_engine.proofs.RunsLemmas.{offset-within}
use Rattle.rsc_engine.proofs.laws.offsets_are_within_the_match.Goals as goal

pub returns-clause-first : goal.returns-clause-first
returns-clause-first g = λ e captures found slot i f at.
    offset-within e (e.start_state, (place f.run 0).1) f.run found captures slot i f.is_first.preferred.is_match f.is_of at

pub returns-clause-next : goal.returns-clause-next
returns-clause-next g = λ e last captures found slot i f at.
    offset-within e (e.start_state, (place f.run 0).1) f.run found captures slot i f.is_next.preferred.is_match f.is_of at
