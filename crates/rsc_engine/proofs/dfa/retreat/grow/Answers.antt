use Rattle.std.proofs.Common.{◌<◌, length, refl, rules}
use Rattle.rsc_engine.proofs.RetreatLemmas.{grown-first, grown-marked, grown-same, grown-shut, grown-less}
use Rattle.rsc_engine.proofs.dfa.retreat.grow.Goals as goal
use Rattle.rsc_engine.proofs.dfa.retreat.grow.Goals.{then-is_due, else-is_due}

pub states-init : goal.states-init
states-init g c = grown-first _ _ _ _ c.requires.len

pub states-preserved : goal.states-preserved
states-preserved g c =
    let l : c.states.index < length c.args.program.now.automaton.states = search rules in
    elim c.if-is_due.branch [
      | then-is_due w ↦ rw (w.marks-is, w.grew-is)
          (grown-marked _ _ _ _ _ _ _ c.states.invariant l refl c.requires.start c.requires.end
          (rw c.must.ensures at (c.is_due.ensures.fresh w.if-is_due.true))
          (rw c.must.ensures at (c.is_due.ensures.yes w.if-is_due.true)))
      | else-is_due w ↦ rw (w.marks-is, w.grew-is)
          (grown-same _ _ _ _ _ _ _ c.states.invariant l (rw c.must.ensures at (c.is_due.ensures.no w.if-is_due.false)))
    ]

pub returns-clause-shut : goal.returns-clause-shut
returns-clause-shut g c = grown-shut _ _ _ _ _ _ c.states.index c.states.invariant (search rules)

pub returns-clause-less : goal.returns-clause-less
returns-clause-less g c = grown-less _ _ _ _ _ _ _ c.states.invariant
