use Rattle.std.proofs.Common.{◌≡◌, ◌+◌, ◌∙◌, Some, None, ℕ, Option, true≢false, slice_get, sym, ap, subst, arith}
use Rattle.rsc_look.specs.Holds.{byte_after}
use Rattle.rsc_engine.specs.Searches.{search_in}
use Rattle.rsc_engine.specs.RowsLayout.{machine}
use Rattle.rsc_engine.specs.ForwardLayout.{StandsInEach, last_with, found_in}
use Rattle.rsc_engine.specs.PassTableLayout.{IsPassTo}
use Rattle.rsc_engine.proofs.ForwardLayoutLemmas.{each-forward, each-on}
use Rattle.rsc_engine.proofs.PassTableLayoutLemmas.{no_match-none}
use Rattle.rsc_engine.proofs.dfa.pass_table.PassTable.follow.Goals as goal
use Rattle.rsc_engine.proofs.dfa.pass_table.PassTable.follow.Goals.{in-To, in-WithMatch+else-is_final+else-earliest, else-earliest-via-then-earliest+else-has_found, else-earliest-via-else-earliest}

pub bytes-preserved : goal.bytes-preserved
bytes-preserved g c =
    let e = search_in g.W.WordClass.word_chars c.args.plan.now.program.now c.args.input.now in
    let classes = c.args.plan.now.classes in
    let rows = c.args.self.now.rows.items in
    let after : byte_after c.args.input.now.haystack c.bytes.position ≡ Some c.byte_at.result =
    rw c.haystack-haystack.ensures.value at c.byte_at.ensures.after in
    let on : (next : ℕ)
    → IsPassTo (machine g.W.WordClass.word_chars c.args.plan.now.program.now) classes rows rows c.bytes.here (Some c.byte_at.result) next
    → StandsInEach e classes rows next (c.bytes.position + 1) (last_with (found_in (slice_get rows next)) c.bytes.position c.bytes.found) =
    λ next to. each-on e classes rows rows c.bytes.here c.bytes.position next c.bytes.found
    (each-forward e classes c.args.plan.now.width c.args.plan.now.unicode
    record { laws = c.steps_are_lawful.ensures; plan = c.requires.plan; within = c.haystack-haystack.ensures.within }
    rows rows c.bytes.here c.bytes.position next
    (subst (λ (u : Option ℕ). IsPassTo (machine g.W.WordClass.word_chars c.args.plan.now.program.now) classes rows rows c.bytes.here u next) (sym after) to))
    c.bytes.invariant.on in
    elim c.match-lead_of.branch [
      | in-To w ↦
          let none : found_in (slice_get rows w.in-To.next) ≡ None = no_match-none (slice_get rows w.in-To.next) w.in-To.ensures.plain in
          record {
            on = rw (w.here-is, w.found-is) (rw none at (on w.in-To.next w.in-To.ensures.row));
            none = λ is. w.found-is ∙ c.bytes.invariant.none is;
          }
      | in-WithMatch+else-is_final+else-earliest w ↦ record {
        on = rw (w.here-is, w.found-is, w.found_with-found.ensures) (on w.in-WithMatch.next w.in-WithMatch.ensures.row);
        none = λ is. w.found-is ∙ w.found_with-found.ensures ∙ (elim w.else-earliest.branch [
          | else-earliest-via-then-earliest+else-has_found v ↦
              ap (λ (o : Option ℕ). last_with o c.bytes.position c.bytes.found) (v.has_found.ensures.none v.if-has_found.false) ∙ c.bytes.invariant.none is
          | else-earliest-via-else-earliest v ↦ absurd (true≢false (sym is ∙ v.if-earliest.false))
        ]);
      }
    ]

pub returns-clause-on : goal.returns-clause-on
returns-clause-on g c =
    let here : c.bytes.position ≡ c.end-end.result = omega (arith, c.bytes-test.false, c.bytes.auto.position-end, c.requires.end, c.end-end.ensures.value) in
    subst (λ (i : ℕ). StandsInEach (search_in g.W.WordClass.word_chars c.args.plan.now.program.now c.args.input.now) c.args.plan.now.classes
    c.args.self.now.rows.items c.bytes.here i c.bytes.found) here c.bytes.invariant.on
