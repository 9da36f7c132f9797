use Rattle.std.proofs.Common.{◌<◌, length, arith, rules}
use Rattle.rsc_engine.proofs.RetreatLemmas.{listed-first, listed-hit, listed-miss, listed-last, listed-none, source-there}
use Rattle.rsc_engine.proofs.dfa.retreat.sources.Goals as goal
use Rattle.rsc_engine.proofs.dfa.retreat.sources.Goals.{then-is_source+in_ok-push, else-is_source}

pub returns-then-at-eq0-clause-sources : goal.returns-then-at-eq0-clause-sources
returns-then-at-eq0-clause-sources g c = listed-none _ _ c.new-list.ensures.items (λ s x. omega (arith, c.if-at-eq0.true, x.0))

pub states-init : goal.states-init
states-init g c = listed-first _ _ _ c.new-list.ensures.items

pub states-preserved : goal.states-preserved
states-preserved g c =
    let l : c.states.index < length c.args.program.now.automaton.states = search rules in
    elim c.if-is_source.branch [
      | then-is_source+in_ok-push w ↦ rw (w.list-is, w.in_ok-push.ensures.items)
          (listed-hit _ _ _ _ _ c.states.invariant c.must-sid.ensures l
          (omega (arith, c.if-at-eq0.false), rw c.haystack.ensures.value at (c.is_source.ensures.yes w.if-is_source.true)))
      | else-is_source w ↦ rw w.list-is
          (listed-miss _ _ _ _ _ c.states.invariant c.must-sid.ensures l
          (λ x. (rw c.haystack.ensures.value at (c.is_source.ensures.no w.if-is_source.false)) x.1))
    ]

pub returns-clause-sources : goal.returns-clause-sources
returns-clause-sources g c =
    listed-last _ _ _ c.states.index c.states.invariant (λ s x. source-there _ _ _ _ s x.1) (search rules)

pub returns-clause-states : goal.returns-clause-states
returns-clause-states g c = c.states.invariant.states
