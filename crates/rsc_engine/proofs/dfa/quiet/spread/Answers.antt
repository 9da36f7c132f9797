use Rattle.std.proofs.Common.{◌<◌, length, rules}
use Rattle.rsc_engine.proofs.QuietLayoutLemmas.{spread-first, spread-marked, spread-same, spread-last, spread-less}
use Rattle.rsc_engine.proofs.dfa.quiet.spread.Goals as goal
use Rattle.rsc_engine.proofs.dfa.quiet.spread.Goals.{then-becomes_loud, else-becomes_loud}

pub states-init : goal.states-init
states-init g c = spread-first _ _ c.requires.len

pub states-preserved : goal.states-preserved
states-preserved g c =
    let l : c.states.index < length c.args.program.now.automaton.states = search rules in
    elim c.if-becomes_loud.branch [
      | then-becomes_loud w ↦ rw (w.loud-is, w.spread-is)
          (spread-marked _ _ _ _ _ c.states.invariant l (rw c.must.ensures at (c.becomes_loud.ensures.fresh w.if-becomes_loud.true)))
      | else-becomes_loud w ↦ rw (w.loud-is, w.spread-is)
          (spread-same _ _ _ _ _ c.states.invariant l (rw c.must.ensures at (c.becomes_loud.ensures.no w.if-becomes_loud.false)))
    ]

pub returns-clause-quiet : goal.returns-clause-quiet
returns-clause-quiet g c = spread-last _ _ _ _ c.states.index c.states.invariant (search rules)

pub returns-clause-less : goal.returns-clause-less
returns-clause-less g c = spread-less _ _ _ _ _ c.states.invariant
