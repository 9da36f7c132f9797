use Rattle.std.proofs.Common.{◌≤◌, length, rules}
use Rattle.rsc_nfa.proofs.NfaLemmas.{HasLooks-all, HasLooks-unicode}
use Rattle.rsc_nfa.proofs.nfa.Nfa.looks.Goals as goal

pub returns-clause-members : goal.returns-clause-members
returns-clause-members g c =
    let ended : length c.self.inside.states.items ≤ c.loop-state.state-index = search rules in
    rw (← c.self.view_is) (HasLooks-all c.loop-state.looks c.self.inside.states.items c.loop-state.state-index ended
    (rw (← c.self.view_is) at c.loop-state.invariant))

pub returns-clause-unicode : goal.returns-clause-unicode
returns-clause-unicode g c = HasLooks-unicode c.loop-state.looks c.args.self.now.states (returns-clause-members g c)
