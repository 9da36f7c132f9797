use Rattle.std.proofs.Common.{◌≡◌, ℕ, zero, suc, ◌+◌, ◌<◌, ◌≤◌, length, arith}
use Rattle.rsc_captures.proofs.GroupsLemmas.{groups_of_in, group_count_in}
use Rattle.rsc_captures.proofs.RepeatsLayoutLemmas.{repeat_of_pattern, none_before, none_so_far}
use Rattle.rsc_captures.specs.Groups.{lists_in, group_count}
use Rattle.rsc_captures.proofs.repeats.first_repeat_before.Goals as goal

-- as many groups as have numbers within the limit
bounded : (n m : ℕ) → ((g : ℕ) → g < n → g ≤ m) → n ≤ m + 1
bounded zero m within = omega arith
bounded (suc n) m within = omega (arith, within n (omega arith))

pub first_repeat-g-requires-clause-limit : goal.first_repeat-g-requires-clause-limit
first_repeat-g-requires-clause-limit c = bounded _ _ (λ g lt. c.requires.groups c.loop-p.p g
    (omega (arith, lt, c.count_before-end.ensures.within, group_count_in c.args.lists.now c.loop-p.p (omega arith))) (c.count_before-end.ensures.before g lt))

pub repeated-requires-clause-number : goal.repeated-requires-clause-number
repeated-requires-clause-number c = c.requires.patterns c.loop-p.p (c.count_before-end.ensures.before 0 (omega (arith, c.if-g-end.true)))

pub returns-then-g-end : goal.returns-then-g-end
returns-then-g-end c =
    let lt : c.loop-p.p < length c.args.lists.now = omega arith in
    let earlier = none_before _ c.loop-p.p c.args.group.0 _ (omega arith) c.loop-p.invariant in
    let group : c.first_repeat-g.result < group_count (lists_in c.args.lists.now) c.loop-p.p =
    omega (arith, c.if-g-end.true, c.count_before-end.ensures.within, group_count_in _ _ lt) in
    rw c.repeated.ensures.pattern
    (repeat_of_pattern _ _ _ _ _ _ earlier group (rw (groups_of_in _ _ lt) (c.first_repeat-g.ensures.repeat c.if-g-end.true))
    (rw (groups_of_in _ _ lt) c.first_repeat-g.ensures.distinct) c.repeated.ensures.name (c.count_before-end.ensures.before _ c.if-g-end.true))

pub loop-p-preserved : goal.loop-p-preserved
loop-p-preserved c =
    let lt : c.loop-p.p < length c.args.lists.now = omega arith in
    let all : c.first_repeat-g.result ≡ c.count_before-end.result = omega (arith, c.first_repeat-g.ensures.within) in
    none_so_far _ _ _ _ _ c.loop-p.invariant (λ h group. c.count_before-end.ensures.all h (omega (arith, group, group_count_in _ _ lt)))
    (rw (groups_of_in _ _ lt, ← all) c.first_repeat-g.ensures.distinct)
