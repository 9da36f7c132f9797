use Rattle.std.proofs.Common.{refl}
use Rattle.rsc_engine.proofs.dfa.Dfa.find.Goals as goal

pub invariant_of-self : goal.invariant_of-self
invariant_of-self g c = (
  c.self-2.invariant.0,
  c.keep_at_most.ensures _ _ _ _ c.match_along-found.ensures.exact,
  c.self-2.invariant.2,
  c.self-2.invariant.3,
  refl,
  c.self-2.invariant.5,
)

pub invariant_of-self-2 : goal.invariant_of-self-2
invariant_of-self-2 g c = (
  c.self-2.invariant.0,
  c.keep_at_most.ensures _ _ _ _ c.match_along-found.ensures.exact,
  c.self-2.invariant.2,
  c.self-2.invariant.3,
  refl,
  c.self-2.invariant.5,
)
