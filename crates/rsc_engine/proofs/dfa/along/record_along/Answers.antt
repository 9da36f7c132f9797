use Rattle.std.proofs.Common.{◌+◌, arith, rules, IfSome, subst}
use Rattle.rsc_engine.specs.Searches.{search_in}
use Rattle.rsc_engine.specs.AlongLayout.{GoesTo, IsLed}
use Rattle.rsc_engine.proofs.ArrivalsLayoutLemmas.{arrives-within}
use Rattle.rsc_engine.proofs.QuietLayoutLemmas.{quiet-records}
use Rattle.rsc_engine.proofs.LogLayoutLemmas.{logged-at, logged-lists}
use Rattle.rsc_engine.proofs.AlongLemmas.{led-first, led-within, goes-within}
use Rattle.rsc_engine.proofs.dfa.along.record_along.Goals as goal

pub positions-init : goal.positions-init
positions-init g c =
    let there = arrives-within _ _ _ c.requires.begins in
    record {
      len = search rules;
      there = c.start-sid.ensures.within;
      low = there.1;
      from = omega arith;
      to = there.2;
      known = c.requires.known;
      led = rw c.start-sid.ensures.value (led-first _ _ _ c.requires.empty c.requires.begins);
    }

pub list_at-list-requires-clause-index : goal.list_at-list-requires-clause-index
list_at-list-requires-clause-index g c =
    let e = search_in g.W.WordClass.word_chars c.args.program.now c.args.input.now in
    (logged-at e c.args.start c.positions.at c.end-end.result c.args.table.now.rows.items c.args.log.now c.positions.invariant.from
    c.positions.invariant.to c.end-end.ensures.value c.requires.log).0

pub list_at-list-requires-clause-row : goal.list_at-list-requires-clause-row
list_at-list-requires-clause-row g c =
    let e = search_in g.W.WordClass.word_chars c.args.program.now c.args.input.now in
    (logged-at e c.args.start c.positions.at c.end-end.result c.args.table.now.rows.items c.args.log.now c.positions.invariant.from
    c.positions.invariant.to c.end-end.ensures.value c.requires.log).1

pub returns-in-Some-clause-recorded : goal.returns-in-Some-clause-recorded
returns-in-Some-clause-recorded g c =
    let e = search_in g.W.WordClass.word_chars c.args.program.now c.args.input.now in
    rw c.in-Some.is at (c.in_ok-next.ensures.on c.args.start
    (logged-lists e c.args.start c.positions.at c.end-end.result c.args.table.now.rows.items c.args.log.now c.list_at-list.result.now
    c.positions.invariant.low c.positions.invariant.from c.positions.invariant.to c.end-end.ensures.value c.requires.log c.list_at-list.ensures)
    c.positions.invariant.led)

pub set_slot-requires : goal.set_slot-requires
set_slot-requires g c =
    let e = search_in g.W.WordClass.word_chars c.args.program.now c.args.input.now in
    let goes : GoesTo e c.args.start c.in-Some-known.last.0 c.in-Some-known.last.1 =
    subst (λ o. IfSome o (λ k. GoesTo e c.args.start k.0 k.1)) c.in-Some-known.is c.positions.invariant.known in
    omega (arith, goes-within _ _ _ _ goes, c.end-end.ensures.most)

pub returns-in-Some-known-clause-recorded : goal.returns-in-Some-known-clause-recorded
returns-in-Some-known-clause-recorded g c =
    let e = search_in g.W.WordClass.word_chars c.args.program.now c.args.input.now in
    let goes : GoesTo e c.args.start c.in-Some-known.last.0 c.in-Some-known.last.1 =
    subst (λ o. IfSome o (λ k. GoesTo e c.args.start k.0 k.1)) c.in-Some-known.is c.positions.invariant.known in
    let led : IsLed e c.args.start c.in_ok-next.next (c.positions.at + 1) c.go_through.new.slots =
    rw c.in_default.is at (c.in_ok-next.ensures.on c.args.start
    (logged-lists e c.args.start c.positions.at c.end-end.result c.args.table.now.rows.items c.args.log.now c.list_at-list.result.now
    c.positions.invariant.low c.positions.invariant.from c.positions.invariant.to c.end-end.ensures.value c.requires.log c.list_at-list.ensures)
    c.positions.invariant.led) in
    record {
      goes = goes;
      records = quiet-records e c.args.start c.in-Some-known.last.0 c.in-Some-known.last.1 goes c.in_ok-next.next (c.positions.at + 1) c.args.loud.now
          c.go_through.new.slots c.set_slot.new.slots c.requires.quiet (c.is_quiet.ensures c.if-is_quiet.true) led c.set_slot.ensures.len
          (λ k l. rw c.as_usize.ensures.value at (c.set_slot.ensures.written k l));
    }

pub positions-smaller : goal.positions-smaller
positions-smaller g c =
    let e = search_in g.W.WordClass.word_chars c.args.program.now c.args.input.now in
    let led : IsLed e c.args.start c.in_ok-next.next (c.positions.at + 1) c.go_through.new.slots =
    rw c.in_default.is at (c.in_ok-next.ensures.on c.args.start
    (logged-lists e c.args.start c.positions.at c.end-end.result c.args.table.now.rows.items c.args.log.now c.list_at-list.result.now
    c.positions.invariant.low c.positions.invariant.from c.positions.invariant.to c.end-end.ensures.value c.requires.log c.list_at-list.ensures)
    c.positions.invariant.led) in
    omega (arith, led-within _ _ _ _ _ led)

pub positions-preserved : goal.positions-preserved
positions-preserved g c =
    let e = search_in g.W.WordClass.word_chars c.args.program.now c.args.input.now in
    let led : IsLed e c.args.start c.in_ok-next.next (c.positions.at + 1) c.go_through.new.slots =
    rw c.in_default.is at (c.in_ok-next.ensures.on c.args.start
    (logged-lists e c.args.start c.positions.at c.end-end.result c.args.table.now.rows.items c.args.log.now c.list_at-list.result.now
    c.positions.invariant.low c.positions.invariant.from c.positions.invariant.to c.end-end.ensures.value c.requires.log c.list_at-list.ensures)
    c.positions.invariant.led) in
    record {
      len = c.in_ok-next.ensures.len;
      there = c.in_ok-next.ensures.there;
      low = c.positions.invariant.low;
      from = omega (arith, c.positions.invariant.from);
      to = led-within _ _ _ _ _ led;
      known = c.positions.invariant.known;
      led = led;
    }
