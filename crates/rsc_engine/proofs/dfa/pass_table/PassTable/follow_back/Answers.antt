use Rattle.std.proofs.Common.{◌≡◌, ◌≤◌, ◌∙◌, Bool, true, false, Some, ℕ, Option, slice_get, sym, ap, subst, arith}
use Rattle.std.proofs.lemmas.Option.{slice_get_within}
use Rattle.rsc_look.specs.Holds.{byte_before}
use Rattle.rsc_engine.specs.declared.dfa.pass_table.PassRow.{PassRow}
use Rattle.rsc_engine.specs.Searches.{search_in}
use Rattle.rsc_engine.specs.RowsLayout.{machine}
use Rattle.rsc_engine.specs.PassTableLayout.{IsPassTo}
use Rattle.rsc_engine.specs.BackwardLayout.{begins_in, least_with}
use Rattle.rsc_engine.proofs.BackwardLayoutLemmas.{goes-backward, before-after}
use Rattle.rsc_engine.proofs.LogLayoutLemmas.{back-more}
use Rattle.rsc_engine.proofs.PassTableLayoutLemmas.{some_same, no_match-begins}
use Rattle.rsc_engine.proofs.dfa.pass_table.PassTable.follow_back.Goals as goal

pub bytes-preserved-in-Continue-1 : goal.bytes-preserved-in-Continue-1
bytes-preserved-in-Continue-1 g c =
    let e = search_in g.W.WordClass.word_chars c.args.plan.now.program.now c.args.input.now in
    let rows = c.args.self.now.rows.items in
    let high : c.bytes.position ≤ c.args.input.now.span.end = omega (arith, c.bytes.invariant.further, c.requires.end) in
    let before : byte_before c.args.input.now.haystack c.bytes.position ≡ Some c.byte_at.result =
    before-after c.args.input.now.haystack c.bytes.position (omega (arith, c.bytes-test.true))
    ∙ rw c.haystack-haystack.ensures.value at c.byte_at.ensures.after in
    let led : IsPassTo (machine g.W.WordClass.word_chars c.args.plan.now.program.now) c.args.plan.now.classes rows rows c.bytes.here
    (byte_before c.args.input.now.haystack c.bytes.position) c.in-To.next =
    subst (λ (u : Option ℕ). IsPassTo (machine g.W.WordClass.word_chars c.args.plan.now.program.now) c.args.plan.now.classes rows rows c.bytes.here u
    c.in-To.next) (sym before) c.in-To.ensures.row in
    let stands = c.bytes.invariant.on.stands in
    let from : led.from ≡ stands.row = some_same led.from stands.row (sym led.there ∙ stands.there) in
    let back : led.leads.is_row.to.backward ≡ true =
    led.leads.is_row.same_pass ∙ subst (λ (r : PassRow). r.backward ≡ true) (sym from) stands.backward in
    let none : begins_in (slice_get rows c.in-To.next) ≡ false =
    no_match-begins (slice_get rows c.in-To.next) led.leads.is_row.to led.leads.is_row.there back c.in-To.ensures.plain in
    let least : c.bytes.found ≡ least_with (begins_in (slice_get rows c.in-To.next)) c.bytes.position c.bytes.found =
    ap (λ (b : Bool). least_with b c.bytes.position c.bytes.found) (sym none) in
    record {
      on = back-more e c.args.plan.now.classes rows c.bytes.here c.in-To.next c.bytes.position c.bytes.found c.bytes.found c.bytes.log.items
          c.add_to_log.new.log.items (omega (arith, c.bytes-test.true)) least c.in_ok-add_to_log-in-To.ensures.adds
          (goes-backward e c.args.plan.now.classes c.args.plan.now.width c.args.plan.now.unicode
          record { laws = c.steps_are_lawful.ensures; plan = c.requires.plan; within = c.haystack-haystack.ensures.within }
          rows rows c.bytes.here c.bytes.position c.in-To.next c.bytes.invariant.start high led) c.bytes.invariant.on;
      row = slice_get_within rows c.in-To.next led.leads.is_row.to led.leads.is_row.there;
      further = omega (arith, c.bytes.invariant.further);
      start = omega (arith, c.bytes-test.true, c.start-start.ensures.value);
    }

pub bytes-preserved : goal.bytes-preserved
bytes-preserved g c =
    let e = search_in g.W.WordClass.word_chars c.args.plan.now.program.now c.args.input.now in
    let rows = c.args.self.now.rows.items in
    let high : c.bytes.position ≤ c.args.input.now.span.end = omega (arith, c.bytes.invariant.further, c.requires.end) in
    let before : byte_before c.args.input.now.haystack c.bytes.position ≡ Some c.byte_at.result =
    before-after c.args.input.now.haystack c.bytes.position (omega (arith, c.bytes-test.true))
    ∙ rw c.haystack-haystack.ensures.value at c.byte_at.ensures.after in
    let led : IsPassTo (machine g.W.WordClass.word_chars c.args.plan.now.program.now) c.args.plan.now.classes rows rows c.bytes.here
    (byte_before c.args.input.now.haystack c.bytes.position) c.in-WithMatch.next =
    subst (λ (u : Option ℕ). IsPassTo (machine g.W.WordClass.word_chars c.args.plan.now.program.now) c.args.plan.now.classes rows rows c.bytes.here u
    c.in-WithMatch.next) (sym before) c.in-WithMatch.ensures.row in
    record {
      on = back-more e c.args.plan.now.classes rows c.bytes.here c.in-WithMatch.next c.bytes.position c.bytes.found c.least_with-found.result c.bytes.log.items
          c.add_to_log-in-WithMatch.new.log.items (omega (arith, c.bytes-test.true))
          (c.least_with-found.ensures) c.in_ok-add_to_log-in-WithMatch.ensures.adds
          (goes-backward e c.args.plan.now.classes c.args.plan.now.width c.args.plan.now.unicode
          record { laws = c.steps_are_lawful.ensures; plan = c.requires.plan; within = c.haystack-haystack.ensures.within }
          rows rows c.bytes.here c.bytes.position c.in-WithMatch.next c.bytes.invariant.start high led) c.bytes.invariant.on;
      row = slice_get_within rows c.in-WithMatch.next led.leads.is_row.to led.leads.is_row.there;
      further = omega (arith, c.bytes.invariant.further);
      start = omega (arith, c.bytes-test.true, c.start-start.ensures.value);
    }
