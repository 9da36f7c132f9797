use Rattle.std.proofs.Common.{refl}
use Rattle.rsc_engine.proofs.RetreatLemmas.{closing-last}
use Rattle.rsc_engine.proofs.dfa.retreat.close.Goals as goal

pub passes-init : goal.passes-init
passes-init g c = record { len = c.requires.len; led = λ list l. l; kept = λ s m. m }

pub passes-preserved : goal.passes-preserved
passes-preserved g c = record {
  len = c.grow.ensures.len;
  led = λ list l. c.grow.ensures.led list (c.passes.invariant.led list l);
  kept = λ s m. c.grow.ensures.kept s (c.passes.invariant.kept s m);
}

pub returns-then-not-grow-clause-closed : goal.returns-then-not-grow-clause-closed
returns-then-not-grow-clause-closed g c = λ list gathers.
    closing-last _ _ _ _ _ list (record {
      len = c.grow.ensures.len;
      led = λ l is. c.grow.ensures.led l (c.passes.invariant.led l is);
      kept = λ s m. c.grow.ensures.kept s (c.passes.invariant.kept s m);
    }) (c.if-not-grow.ensures.shut refl) gathers
