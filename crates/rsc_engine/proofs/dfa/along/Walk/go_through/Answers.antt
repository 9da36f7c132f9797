use Rattle.std.proofs.Common.{◌≡◌, ◌∙◌, ◌++◌, ◌∷◌, [], refl, length, rules}
use Rattle.rsc_engine.proofs.AlongLemmas.{passing-first, passing-again, passing-back, passing-stuck, passing-one, passing-two, left-never, found-over, found-match, was-seen, not-seen}
use Rattle.rsc_engine.proofs.dfa.along.Walk.go_through.Goals as goal

pub states-init : goal.states-init
states-init g c = record {
  passing = rw (c.clear.ensures.items, c.clear-2.ensures.items)
      (passing-first (c.in_ok-take_stamp.ensures.len ∙ c.requires.len) c.in_ok-take_stamp.ensures.unseen c.requires.sid);
  same = refl;
}

pub states-preserved-then-index-self : goal.states-preserved-then-index-self
states-preserved-then-index-self g c =
    let f = c.states.invariant.passing in
    let way = c.in-Some.ensures.some in
    record {
      passing = rw (c.in-Some.ensures.seen, c.in-Some.ensures.stamp)
          (passing-back c.in-Some.next way.0
          (passing-again f (was-seen f _ _ c.as_usize.ensures.value c.index.ensures c.if-index-self.true)) way.1 way.2);
      same = c.states.invariant.same;
    }

pub returns-in-None-clause-on : goal.returns-in-None-clause-on
returns-in-None-clause-on g c = λ from lists w.
    let f = c.states.invariant.passing in
    absurd (left-never _ (passing-again f (was-seen f _ _ c.as_usize.ensures.value c.index.ensures c.if-index-self.true)) c.in-None.ensures.none
    from lists w)

pub states-preserved-in-Some-back : goal.states-preserved-in-Some-back
states-preserved-in-Some-back g c =
    let f = c.states.invariant.passing in
    let way = c.in-Some-back.ensures.some in
    record {
      passing = rw (c.in-Some-back.ensures.seen, c.in-Some-back.ensures.stamp, c.as_usize-in-states.ensures.value)
          (passing-back c.in-Some-back.next way.0
          (passing-stuck f refl c.requires.start c.requires.end
          (not-seen f _ _ c.as_usize.ensures.value c.index.ensures c.if-index-self.false) c.in-Stuck.ensures.action) way.1 way.2);
      same = c.states.invariant.same;
    }

pub returns-in-None-back-clause-on : goal.returns-in-None-back-clause-on
returns-in-None-back-clause-on g c = λ from lists w.
    let f = c.states.invariant.passing in
    absurd (left-never _ (passing-stuck f refl c.requires.start c.requires.end
    (not-seen f _ _ c.as_usize.ensures.value c.index.ensures c.if-index-self.false) c.in-Stuck.ensures.action) c.in-None-back.ensures.none from lists w)

pub states-preserved-in-One : goal.states-preserved-in-One
states-preserved-in-One g c =
    let f = c.states.invariant.passing in
    record {
      passing = rw (c.as_usize-in-states.ensures.value, c.in_ok-push-in-One.ensures.items)
          (passing-one f refl c.requires.start c.requires.end
          (not-seen f _ _ c.as_usize.ensures.value c.index.ensures c.if-index-self.false) c.in-One.to c.in-One.ensures.action c.in-One.ensures.there);
      same = c.states.invariant.same;
    }

pub states-preserved : goal.states-preserved
states-preserved g c =
    let f = c.states.invariant.passing in
    let deep : c.len.result ≡ length (c.states.self.trail.items ++ c.states.here ∷ []) = search rules in
    record {
      passing = rw (c.as_usize-in-states.ensures.value, c.in_ok-push-in-Two-2.ensures.items, c.in_ok-push-in-Two.ensures.items, deep)
          (passing-two f refl c.requires.start c.requires.end
          (not-seen f _ _ c.as_usize.ensures.value c.index.ensures c.if-index-self.false) c.in-Two.a c.in-Two.b c.in-Two.ensures.action c.in-Two.ensures.there);
      same = c.states.invariant.same;
    }

pub returns-in-OverByte-clause-on : goal.returns-in-OverByte-clause-on
returns-in-OverByte-clause-on g c =
    let f = c.states.invariant.passing in
    found-over f refl c.requires.start c.requires.end
    (not-seen f _ _ c.as_usize.ensures.value c.index.ensures c.if-index-self.false) c.record.new.slots
    (rw (c.as_slice.ensures.value, c.states.invariant.same) at c.record.ensures) c.in-OverByte.to c.in-OverByte.ensures.action

pub returns-in-Match-clause-on : goal.returns-in-Match-clause-on
returns-in-Match-clause-on g c =
    let f = c.states.invariant.passing in
    found-match f refl c.requires.start c.requires.end
    (not-seen f _ _ c.as_usize.ensures.value c.index.ensures c.if-index-self.false) c.record-in-Match.new.slots
    (rw (c.as_slice-in-Match.ensures.value, c.states.invariant.same) at c.record-in-Match.ensures) c.in-Match.pattern c.in-Match.ensures.action
