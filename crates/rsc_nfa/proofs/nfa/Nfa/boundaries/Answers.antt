use Rattle.std.proofs.Common.{◌<◌, ◌≤◌, length, rules}
use Rattle.rsc_nfa.proofs.ClassesLemmas.{AreGathered-none, AreGathered-more, AreGathered-all}
use Rattle.rsc_nfa.proofs.nfa.Nfa.boundaries.Goals as goal

pub loop-state-init : goal.loop-state-init
loop-state-init g c = AreGathered-none c.empty-set.result c.args.self.now.states c.args.self.now.matcher.0 c.empty-set.ensures.value

pub loop-state-preserved : goal.loop-state-preserved
loop-state-preserved g c =
    let lt : c.loop-state.state-index < length c.self.inside.states.items = search rules in
    rw (← c.self.view_is) (AreGathered-more c.loop-state.set c.add_state.new.set c.self.inside.states.items c.self.inside.matcher.0 c.loop-state.state-index
    c.state-item.result lt (rw c.deref-state-items.ensures.value at c.state-item.is)
    (rw (← c.self.view_is) at c.loop-state.invariant) c.add_state.ensures)

pub returns-clause-value : goal.returns-clause-value
returns-clause-value g c =
    let ended : length c.self.inside.states.items ≤ c.loop-state.state-index = search rules in
    rw (← c.self.view_is) (AreGathered-all c.loop-state.set c.self.inside.states.items c.self.inside.matcher.0 c.loop-state.state-index ended
    (rw (← c.self.view_is) at c.loop-state.invariant))
