use Rattle.std.proofs.Common.{◌≡◌, ◌∙◌, ◌++◌, List, ℕ, None, drop, slice_range, refl, sym, ap, arith}
use Rattle.rsc_search.specs.Inputs.{whole}
use Rattle.rsc_engine.specs.PatternMatches.{HasSlotsOf}
use Rattle.rsc_replace.specs.Templates.{filled}
use Rattle.rsc_replace.proofs.ReplacementsLemmas.{up_to_none, up_to_more, up_to_over, up_to_all, rest_taken}
use Rattle.rsc_replace.proofs.limited.replace_first.Goals as goal

pub returns-in-None-clause-replaced : goal.returns-in-None-clause-replaced
returns-in-None-clause-replaced g c =
    let over = rw c.in-None.is at c.in_ok-next.ensures.none in
    let all = up_to_over g.W.WordClass.word_chars c.args.template.now c.args.most
    (record { program = c.args.program.now; input = whole c.args.text.now; last = None })
    c.matches.left c.matches.matches c.matches.out.items c.matches.invariant.begun over in
    let same : c.extend_from_slice.new.self.items ≡ c.matches.out.items ++ drop c.matches.matches.input.span.start c.matches.matches.input.haystack =
    rw (c.matches.invariant.haystack, c.matches.invariant.from)
    (c.in_ok-extend_from_slice-in-None.ensures.items ∙ ap (λ (x : List ℕ). c.matches.out.items ++ x) (rest_taken c.args.text.now c.matches.from)) in
    (all.0, all.1, same ∙ all.2)

pub matches-init : goal.matches-init
matches-init g c = record {
  begun = rw (c.new-out.ensures.items, c.in_ok-matches.ensures.made, c.new.ensures)
      (up_to_none g.W.WordClass.word_chars c.args.template.now c.args.most
      (record { program = c.args.program.now; input = whole c.args.text.now; last = None }));
  haystack = rw (c.in_ok-matches.ensures.made, c.new.ensures) refl;
  end = rw (c.in_ok-matches.ensures.made, c.new.ensures) refl;
  from = rw (c.in_ok-matches.ensures.made, c.new.ensures) refl;
  slots = rw c.in_ok-matches.ensures.made c.in_ok-captures.ensures.slots;
  within = omega arith;
}

pub matches-preserved : goal.matches-preserved
matches-preserved g c =
    let on = rw c.in-Some.is at c.in_ok-next.ensures.advanced in
    let next = rw c.in-Some.is at c.in_ok-next.ensures.found in
    let within = rw c.in-Some.is at c.in_ok-next.ensures.within in
    let expanded = c.in_ok-expand-in-Some.ensures.filled in
    let between : slice_range c.args.text.now c.matches.from c.start.result
    ≡ slice_range c.matches.matches.input.haystack c.matches.matches.input.span.start c.in-Some.found.span.start =
    rw (c.matches.invariant.haystack, c.matches.invariant.from, c.start.ensures.value) refl in
    let text = filled c.matches.matches.input.haystack c.next.new.captures c.args.template.now in
    let same : filled c.args.text.now c.next.new.captures c.args.template.now ≡ text =
    ap (λ (x : List ℕ). filled x c.next.new.captures c.args.template.now) (sym c.matches.invariant.haystack) in
    let items : c.expand.new.out.items
    ≡ (c.matches.out.items ++ slice_range c.matches.matches.input.haystack c.matches.matches.input.span.start c.in-Some.found.span.start) ++ text =
    expanded ∙ (ap (λ (x : List ℕ). c.extend_from_slice-in-Some.new.self.items ++ x) same ∙ ap (λ (x : List ℕ). x ++ text)
    (c.in_ok-extend_from_slice-in-Some.ensures.items ∙ ap (λ (x : List ℕ). c.matches.out.items ++ x) between)) in
    let slots : HasSlotsOf c.matches.matches.program c.next.new.captures =
    (c.in_ok-next.ensures.kept_groups ∙ c.matches.invariant.slots.0, c.in_ok-next.ensures.kept_slots ∙ c.matches.invariant.slots.1) in
    let begun = up_to_more g.W.WordClass.word_chars c.args.template.now c.args.most
    (record { program = c.args.program.now; input = whole c.args.text.now; last = None }) c.matches.left c.matches.matches c.matches.out.items
    c.in-Some.found c.next.new.captures (omega (arith, c.matches-test)) c.matches.invariant.begun next slots in
    record {
      begun = rw (on, items) begun;
      haystack = ap (λ x. x.input.haystack) on ∙ c.matches.invariant.haystack;
      end = ap (λ x. x.input.span.end) on ∙ c.matches.invariant.end;
      from = ap (λ x. x.input.span.start) on ∙ sym c.end-from.ensures.value;
      slots = rw on slots;
      within = omega (arith, within.2, c.end-from.ensures.value, c.matches.invariant.end);
    }

pub returns-clause-replaced : goal.returns-clause-replaced
returns-clause-replaced g c =
    let all = up_to_all g.W.WordClass.word_chars c.args.template.now c.args.most
    (record { program = c.args.program.now; input = whole c.args.text.now; last = None }) c.matches.left c.matches.matches c.matches.out.items
    c.matches.invariant.begun (omega (arith, c.matches-test)) in
    let same : c.extend_from_slice-2.new.self.items ≡ c.matches.out.items ++ drop c.matches.matches.input.span.start c.matches.matches.input.haystack =
    rw (c.matches.invariant.haystack, c.matches.invariant.from)
    (c.in_ok-extend_from_slice.ensures.items ∙ ap (λ (x : List ℕ). c.matches.out.items ++ x) (rest_taken c.args.text.now c.matches.from)) in
    (all.0, all.1, same ∙ all.2)
