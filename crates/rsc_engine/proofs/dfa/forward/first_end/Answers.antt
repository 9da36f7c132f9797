use Rattle.std.proofs.Common.{◌≡◌, ◌∙◌, ◌+◌, ◌<◌, ◌≤◌, ℕ, Option, slice_get, true≢false, [], ◌∷◌, not, sym, ap, refl, arith}
use Rattle.rsc_look.specs.Holds.{byte_before}
use Rattle.rsc_engine.specs.Searches.{search_in}
use Rattle.rsc_engine.specs.Preferred.{HasNoFirstMatch}
use Rattle.rsc_engine.specs.ForwardLayout.{last_with, found_in}
use Rattle.rsc_engine.proofs.ForwardLemmas.{free_if, anchored_if}
use Rattle.rsc_engine.proofs.ForwardLayoutLemmas.{each-first}
use Rattle.rsc_engine.proofs.EndsLemmas.{going-past-end, going-over, answered-some, answered-none, first-marked, marked-some}
use Rattle.rsc_engine.proofs.dfa.forward.first_end.Goals as goal
use Rattle.rsc_engine.proofs.dfa.forward.first_end.Goals.{else-earliest-via-then-earliest+else-has_found, else-earliest-via-else-earliest}

pub rows-init : goal.rows-init
rows-init g c =
    let e = search_in g.W.WordClass.word_chars c.args.plan.now.program.now c.args.input.now in
    let before : c.before_of-before.result ≡ byte_before c.args.input.now.haystack c.args.input.now.span.start =
    rw (c.haystack.ensures.value, c.start-start.ensures.value) at c.before_of-before.ensures.value in
    record {
      exact = c.forward_row.ensures.exact;
      on = rw c.start-start.ensures.value (each-first e c.args.plan.now.classes c.forward_row.new.self.rows.items _
          (not c.is_anchored-begins.result) c.before_of-before.result (c.args.plan.now.program.now.start ∷ []) before
          (rw c.get_anchored-mode.ensures at c.in_ok-row.ensures.row)
          (free_if c.is_anchored-begins.result c.get_anchored-mode.result c.args.input.now.anchored c.is_anchored-begins.ensures c.get_anchored-mode.ensures)
          (anchored_if c.is_anchored-begins.result c.get_anchored-mode.result c.args.input.now.anchored c.is_anchored-begins.ensures
          c.get_anchored-mode.ensures) refl);
      none = λ _. refl;
      start = omega (arith, c.start-start.ensures.value);
      end = omega (arith, c.if-start-end.false, c.start-start.ensures.value, c.end-end.ensures.value);
    }

pub returns-then-position-end-clause-found : goal.returns-then-position-end-clause-found
returns-then-position-end-clause-found g c = λ _.
    let e = search_in g.W.WordClass.word_chars c.args.plan.now.program.now c.args.input.now in
    let past : c.args.input.now.span.end < c.follow-here.result.1 + 1 = omega (arith, c.if-position-end.true, c.end-end.ensures.value) in
    let on = c.in_ok-next.ensures.on c.args.input.now.span.end (omega (arith, c.follow-here.ensures.end)) (omega arith) in
    answered-some e c.in_ok-next.now (going-past-end e (c.follow-here.result.1 + 1) on.row.begins c.in_ok-next.now on.row.list.items past on.going)

pub returns-then-position-end-clause-none : goal.returns-then-position-end-clause-none
returns-then-position-end-clause-none g c =
    let e = search_in g.W.WordClass.word_chars c.args.plan.now.program.now c.args.input.now in
    let past : c.args.input.now.span.end < c.follow-here.result.1 + 1 = omega (arith, c.if-position-end.true, c.end-end.ensures.value) in
    let on = c.in_ok-next.ensures.on c.args.input.now.span.end (omega (arith, c.follow-here.ensures.end)) (omega arith) in
    answered-none e c.in_ok-next.now (going-past-end e (c.follow-here.result.1 + 1) on.row.begins c.in_ok-next.now on.row.list.items past on.going)

pub returns-then-position-end-clause-earliest : goal.returns-then-position-end-clause-earliest
returns-then-position-end-clause-earliest g c = λ is.
    first-marked (search_in g.W.WordClass.word_chars c.args.plan.now.program.now c.args.input.now) c.args.plan.now.classes c.rows.table.rows.items
    c.step.new.self.rows.items c.follow-here.result.0 c.in_ok-next.next c.follow-here.result.1
    (found_in (slice_get c.step.new.self.rows.items c.in_ok-next.next)) c.follow-here.result.2 c.in_ok-next.now
    (omega (arith, c.rows.invariant.start, c.follow-here.ensures.further)) c.follow-here.ensures.end
    (c.follow-here.ensures.none is ∙ c.rows.invariant.none is) c.in_ok-next.ensures.found c.follow-here.ensures.on c.in_ok-next.ensures.on

pub returns-then-is_final-clause-found : goal.returns-then-is_final-clause-found
returns-then-is_final-clause-found g c = λ _.
    let e = search_in g.W.WordClass.word_chars c.args.plan.now.program.now c.args.input.now in
    let within : c.follow-here.result.1 + 1 ≤ c.args.input.now.span.end =
    omega (arith, c.if-position-end.false, c.end-end.ensures.value, c.follow-here.ensures.end) in
    let on = c.in_ok-next.ensures.on c.args.input.now.span.end (omega (arith, c.follow-here.ensures.end)) (omega arith) in
    let over = c.is_final.ensures c.if-is_final.true on.row on.there in
    answered-some e c.in_ok-next.now (going-over e (c.follow-here.result.1 + 1) on.row.begins c.in_ok-next.now on.row.list.items within over.0 over.1 on.going)

pub returns-then-is_final-clause-none : goal.returns-then-is_final-clause-none
returns-then-is_final-clause-none g c =
    let e = search_in g.W.WordClass.word_chars c.args.plan.now.program.now c.args.input.now in
    let within : c.follow-here.result.1 + 1 ≤ c.args.input.now.span.end =
    omega (arith, c.if-position-end.false, c.end-end.ensures.value, c.follow-here.ensures.end) in
    let on = c.in_ok-next.ensures.on c.args.input.now.span.end (omega (arith, c.follow-here.ensures.end)) (omega arith) in
    let over = c.is_final.ensures c.if-is_final.true on.row on.there in
    answered-none e c.in_ok-next.now (going-over e (c.follow-here.result.1 + 1) on.row.begins c.in_ok-next.now on.row.list.items within over.0 over.1 on.going)

pub returns-then-is_final-clause-earliest : goal.returns-then-is_final-clause-earliest
returns-then-is_final-clause-earliest g c = λ is.
    first-marked (search_in g.W.WordClass.word_chars c.args.plan.now.program.now c.args.input.now) c.args.plan.now.classes c.rows.table.rows.items
    c.step.new.self.rows.items c.follow-here.result.0 c.in_ok-next.next c.follow-here.result.1
    (found_in (slice_get c.step.new.self.rows.items c.in_ok-next.next)) c.follow-here.result.2 c.in_ok-next.now
    (omega (arith, c.rows.invariant.start, c.follow-here.ensures.further)) c.follow-here.ensures.end
    (c.follow-here.ensures.none is ∙ c.rows.invariant.none is) c.in_ok-next.ensures.found c.follow-here.ensures.on c.in_ok-next.ensures.on

pub returns-then-has_found-clause-earliest : goal.returns-then-has_found-clause-earliest
returns-then-has_found-clause-earliest g c = λ is.
    first-marked (search_in g.W.WordClass.word_chars c.args.plan.now.program.now c.args.input.now) c.args.plan.now.classes c.rows.table.rows.items
    c.step.new.self.rows.items c.follow-here.result.0 c.in_ok-next.next c.follow-here.result.1
    (found_in (slice_get c.step.new.self.rows.items c.in_ok-next.next)) c.follow-here.result.2 c.in_ok-next.now
    (omega (arith, c.rows.invariant.start, c.follow-here.ensures.further)) c.follow-here.ensures.end
    (c.follow-here.ensures.none is ∙ c.rows.invariant.none is) c.in_ok-next.ensures.found c.follow-here.ensures.on c.in_ok-next.ensures.on

pub returns-then-has_found-clause-none : goal.returns-then-has_found-clause-none
returns-then-has_found-clause-none g c = rw c.in_ok-next.ensures.found
    (marked-some (found_in (slice_get c.step.new.self.rows.items c.in_ok-next.next)) c.follow-here.result.1 c.follow-here.result.2
    (HasNoFirstMatch (search_in g.W.WordClass.word_chars c.args.plan.now.program.now c.args.input.now)) (c.has_found.ensures.some c.if-has_found.true))

pub rows-preserved : goal.rows-preserved
rows-preserved g c = record {
  exact = c.in_ok-next.ensures.exact;
  on = c.in_ok-next.ensures.on;
  none = λ is. c.in_ok-next.ensures.found ∙ (elim c.else-earliest.branch [
    | else-earliest-via-then-earliest+else-has_found w ↦
        ap (λ (o : Option ℕ). last_with o c.follow-here.result.1 c.follow-here.result.2) (w.has_found.ensures.none w.if-has_found.false)
        ∙ (c.follow-here.ensures.none is ∙ c.rows.invariant.none is)
    | else-earliest-via-else-earliest w ↦ absurd (true≢false (sym is ∙ w.if-earliest.false))
  ]);
  start = omega (arith, c.rows.invariant.start, c.follow-here.ensures.further);
  end = omega (arith, c.if-position-end.false, c.end-end.ensures.value, c.follow-here.ensures.end);
}
