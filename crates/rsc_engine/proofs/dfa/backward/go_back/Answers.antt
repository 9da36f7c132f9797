use Rattle.std.proofs.Common.{◌≡◌, ◌∙◌, ◌≤◌, ◌++◌, ◌∷◌, [], ap, arith, true≢false, sym}
use Rattle.std.proofs.lemmas.Option.{slice_get_within}
use Rattle.rsc_look.specs.Holds.{byte_after}
use Rattle.rsc_engine.specs.Searches.{search_in}
use Rattle.rsc_engine.proofs.BackwardLemmas.{start-at-first, start-at-none}
use Rattle.rsc_engine.proofs.BackwardLayoutLemmas.{stands-back-first}
use Rattle.rsc_engine.proofs.LogLayoutLemmas.{logged-first, logged-from, log-on, back-on}
use Rattle.rsc_engine.proofs.dfa.backward.go_back.Goals as goal

pub rows-init : goal.rows-init
rows-init g c =
    let e = search_in g.W.WordClass.word_chars c.args.plan.now.program.now c.args.input.now in
    let after : c.after_of-after.result ≡ byte_after c.args.input.now.haystack c.args.input.now.span.end =
    rw (c.haystack.ensures.value, c.end-end.ensures.value) at c.after_of-after.ensures.value in
    let row = rw c.get_anchored-mode.ensures at c.in_ok-row.ensures.row in
    let stands = stands-back-first e c.args.plan.now.classes c.backward_row.new.self.rows.items c.in_ok-row.row c.after_of-after.result
    c.requires.order after row in
    record {
      exact = c.backward_row.ensures.exact;
      on = rw c.end-end.ensures.value (record {
        stands = stands;
        logged = logged-first e c.args.plan.now.classes c.backward_row.new.self.rows.items c.in_ok-row.row c.args.input.now.span.end
            c.add_to_log.new.log.items (c.in_ok-add_to_log.ensures.adds ∙ ap (λ l. l ++ c.in_ok-row.row ∷ []) c.clear.ensures.items) stands;
      });
      row = slice_get_within _ _ row.to row.there;
      start = omega (arith, c.requires.order, c.end-end.ensures.value);
      end = omega (arith, c.end-end.ensures.value);
    }

pub returns-then-position-start-clause-first : goal.returns-then-position-start-clause-first
returns-then-position-start-clause-first g c = λ _ run f ends.
    let e = search_in g.W.WordClass.word_chars c.args.plan.now.program.now c.args.input.now in
    let on = c.in_ok-next.ensures.on in
    let at : c.in_ok-here.position ≡ c.args.input.now.span.start = omega (arith, c.if-position-start.true, c.start-start.ensures.value) in
    let is = start-at-first e run f ends c.in_ok-here.position c.in_ok-next.now at on.is_least in (
      is,
      logged-from e c.in_ok-here.position c.in_ok-next.now c.step_back.new.self.rows.items c.add_to_log-in-rows.new.log.items
          (omega (arith, is, at, f.begins.start))
          (log-on e c.args.plan.now.classes c.rows.table.rows.items c.step_back.new.self.rows.items c.in_ok-next.next c.in_ok-here.position c.in_ok-next.now
          c.follow_back.new.log.items c.add_to_log-in-rows.new.log.items c.in_ok-add_to_log-2.ensures.adds
          (c.in_ok-next.ensures.kept (omega (arith, c.rows.table.rows.small, c.requires.room))) on c.in_ok-here.ensures.on.logged),
    )

pub returns-then-position-start-clause-whole : goal.returns-then-position-start-clause-whole
returns-then-position-start-clause-whole g c = λ _.
    let e = search_in g.W.WordClass.word_chars c.args.plan.now.program.now c.args.input.now in
    logged-from e c.in_ok-here.position c.args.input.now.span.start c.step_back.new.self.rows.items c.add_to_log-in-rows.new.log.items
    (omega (arith, c.if-position-start.true, c.start-start.ensures.value))
    (log-on e c.args.plan.now.classes c.rows.table.rows.items c.step_back.new.self.rows.items c.in_ok-next.next c.in_ok-here.position c.in_ok-next.now
    c.follow_back.new.log.items c.add_to_log-in-rows.new.log.items c.in_ok-add_to_log-2.ensures.adds
    (c.in_ok-next.ensures.kept (omega (arith, c.rows.table.rows.small, c.requires.room))) c.in_ok-next.ensures.on c.in_ok-here.ensures.on.logged)

pub returns-then-is_done-clause-first : goal.returns-then-is_done-clause-first
returns-then-is_done-clause-first g c = λ _ run f ends.
    let e = search_in g.W.WordClass.word_chars c.args.plan.now.program.now c.args.input.now in
    let on = c.in_ok-next.ensures.on in
    let below : c.in_ok-here.position ≤ c.args.input.now.span.end = omega (arith, c.in_ok-here.ensures.further, c.rows.invariant.end) in
    let is = start-at-none e run f ends c.in_ok-here.position c.in_ok-next.now on.row.list.items below
    ((c.is_done.ensures c.if-is_done.true).1 on.row on.there) on.before on.is_least in (
      is.0,
      logged-from e c.in_ok-here.position c.in_ok-next.now c.step_back.new.self.rows.items c.add_to_log-in-rows.new.log.items is.1
          (log-on e c.args.plan.now.classes c.rows.table.rows.items c.step_back.new.self.rows.items c.in_ok-next.next c.in_ok-here.position c.in_ok-next.now
          c.follow_back.new.log.items c.add_to_log-in-rows.new.log.items c.in_ok-add_to_log-2.ensures.adds
          (c.in_ok-next.ensures.kept (omega (arith, c.rows.table.rows.small, c.requires.room))) on c.in_ok-here.ensures.on.logged),
    )

pub returns-then-is_done-clause-whole : goal.returns-then-is_done-clause-whole
returns-then-is_done-clause-whole g c = λ all. absurd (true≢false (sym all ∙ (c.is_done.ensures c.if-is_done.true).0))

pub rows-preserved : goal.rows-preserved
rows-preserved g c =
    let e = search_in g.W.WordClass.word_chars c.args.plan.now.program.now c.args.input.now in
    record {
      exact = c.step_back.ensures.exact;
      on = back-on e c.args.plan.now.classes c.step_back.new.self.rows.items c.in_ok-next.next c.in_ok-here.position c.in_ok-next.now
          c.add_to_log-in-rows.new.log.items
          (omega (arith, c.if-position-start.false, c.start-start.ensures.value, c.in_ok-here.ensures.start)) c.in_ok-next.ensures.on
          (log-on e c.args.plan.now.classes c.rows.table.rows.items c.step_back.new.self.rows.items c.in_ok-next.next c.in_ok-here.position c.in_ok-next.now
          c.follow_back.new.log.items c.add_to_log-in-rows.new.log.items c.in_ok-add_to_log-2.ensures.adds
          (c.in_ok-next.ensures.kept (omega (arith, c.rows.table.rows.small, c.requires.room))) c.in_ok-next.ensures.on c.in_ok-here.ensures.on.logged);
      row = c.in_ok-next.ensures.row;
      start = omega (arith, c.if-position-start.false, c.start-start.ensures.value, c.in_ok-here.ensures.start);
      end = omega (arith, c.in_ok-here.ensures.further, c.rows.invariant.end);
    }
