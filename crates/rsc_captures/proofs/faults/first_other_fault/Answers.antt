use Rattle.std.proofs.Common.{◌≡◌, ◌<◌, ◌-◌, ◌/◌, length, arith}
use Rattle.rsc_captures.proofs.FaultsLayoutLemmas.{refusal_at, too_many, past_limit}
use Rattle.rsc_captures.proofs.GroupsLemmas.{length-lists_in, group_count_in}
use Rattle.rsc_captures.proofs.faults.first_other_fault.Goals as goal

pub returns-in-Err : goal.returns-in-Err
returns-in-Err g c = refusal_at c.loop-p.invariant.groups _ (rw length-lists_in (omega arith), omega arith) c.in-Err.ensures.refused

pub returns-then-explicit-room : goal.returns-then-explicit-room
returns-then-explicit-room g c =
    let lt : c.loop-p.p < length c.args.lists.now = omega arith in
    rw (c.too_many_groups.ensures, c.in-Ok.ensures.ok.0)
    (too_many c.loop-p.p (c.args.limit / 2 - c.loop-p.before) c.loop-p.invariant.groups c.in-Ok.ensures.ok.1
    (rw length-lists_in lt) (omega (arith, c.if-explicit-room.true, group_count_in _ _ lt))
    (omega (arith, c.loop-p.invariant.before, c.loop-p.invariant.groups.within)) (omega (arith, c.loop-p.invariant.before)))

pub returns : goal.returns
returns g c =
    let so_far = c.loop-p.invariant in
    let at_end : c.loop-p.p ≡ length c.args.lists.now = omega arith in
    let lt : c.loop-p.within < length c.args.lists.now = omega (arith, so_far.count, c.if-within-lists.false) in
    rw (c.too_many_groups-fault.ensures, c.must.ensures, ← group_count_in _ _ lt)
    (past_limit (length c.args.lists.now) c.loop-p.within (length-lists_in c.args.lists.now) (rw at_end at so_far.groups) lt
    (so_far.past (omega (arith, lt))) so_far.least)
