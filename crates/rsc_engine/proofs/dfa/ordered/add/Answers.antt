use Rattle.rsc_engine.proofs.OrderedLemmas.{Gathers-more}
use Rattle.rsc_engine.proofs.dfa.ordered.add.Goals as goal

pub returns-in_ok-push-clause-gathers : goal.returns-in_ok-push-clause-gathers
returns-in_ok-push-clause-gathers c =
    rw (c.as_usize-then-not-index.ensures.value, c.in_ok-push.ensures.items) (Gathers-more _ _ c.args.sid c.requires.gathers c.requires.sid)
