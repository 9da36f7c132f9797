use Rattle.std.proofs.Common.{ap, inl, inr}
use Rattle.rsc_nfa.proofs.ClassesLemmas.{is_plain, plain-adds}
use Rattle.rsc_nfa.proofs.nfa.add_state.Goals as goal

pub returns-in-Fork : goal.returns-in-Fork
returns-in-Fork g c =
    plain-adds c.args.set.now c.args.state c.args.matcher.now.0
    (elim c.in-Fork.is [ inl e ↦ ap is_plain e.2 | inr r ↦ elim r [ inl e ↦ ap is_plain e.2 | inr e ↦ ap is_plain e.1 ] ])
