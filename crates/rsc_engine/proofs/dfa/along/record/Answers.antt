use Rattle.std.proofs.Common.{◌≡◌, ◌+◌, ◌++◌, ◌∷◌, [], ◌∙◌, ap, sym, subst, take, ℕ, List, rules}
use Rattle.std.proofs.lemmas.List.{take_more, take_all}
use Rattle.rsc_engine.specs.AlongLayout.{AreRecordsTo, all_at}
use Rattle.rsc_engine.proofs.AlongLemmas.{records-first, records-more}
use Rattle.rsc_engine.proofs.dfa.along.record.Goals as goal

pub trail-init : goal.trail-init
trail-init g c = λ front had. records-first c.args.program.now.automaton.states front c.args.at c.args.slots.now had

pub trail-preserved : goal.trail-preserved
trail-preserved g c = λ front had.
    let short = c.trail-test.true in
    let is : take (c.trail.k + 1) c.args.trail.now ≡ take c.trail.k c.args.trail.now ++ c.index-trail-k.result ∷ [] =
    take_more c.args.trail.now c.trail.k c.index-trail-k.result short
    ∙ ap (λ s. take c.trail.k c.args.trail.now ++ s ∷ []) (sym c.index-trail-k.is) in
    records-more c.args.program.now.automaton.states front c.args.at c.index-trail-k.result (take c.trail.k c.args.trail.now)
    (take (c.trail.k + 1) c.args.trail.now) c.state.result c.trail.slots c.record_one.new.slots is c.state.ensures.value c.record_one.auto.slots
    c.record_one.ensures (c.trail.invariant front had)

pub returns : goal.returns
returns g c = λ front had.
    let whole : take c.trail.k c.args.trail.now ≡ c.args.trail.now = take_all c.trail.k c.args.trail.now (search rules) in
    subst (λ (l : List ℕ). AreRecordsTo c.args.program.now.automaton.states (front ++ all_at c.args.at l) c.trail.slots) whole (c.trail.invariant front had)
