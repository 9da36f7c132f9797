use Rattle.std.proofs.Common.{◌≡◌, ◌+◌, ◌≤◌, ◌∙◌, sym, ap, arith}
use Rattle.rsc_search.specs.Inputs.{InputParts}
use Rattle.rsc_engine.specs.Searches.{search_in}
use Rattle.rsc_engine.specs.Preferred.{IsFirstMatch}
use Rattle.rsc_engine.specs.NextMatches.{with_start}
use Rattle.rsc_engine.proofs.AheadLayoutLemmas.{rest-later}
use Rattle.rsc_engine.proofs.NextMatchesLemmas.{of_states, turn_none, turn_next, turn_repeat, turn_split}
use Rattle.rsc_engine.proofs.PassTableLayoutLemmas.{some_same}
use Rattle.rsc_engine.proofs.iterate.Iteration.next.Goals as goal

pub returns-in-Ok-None-clause-none : goal.returns-in-Ok-None-clause-none
returns-in-Ok-None-clause-none g c =
    let none = rw c.in-Ok-None.field-0-is at c.in-Ok-None.ensures.none in
    turn_none g.W.WordClass.word_chars c.args.self.now.program.now c.matches.self.program.now c.args.self.now.input c.matches.self.input
    c.args.self.now.last_end c.matches.self.last_end c.matches.invariant.turn none

pub returns-else-splits-clause-found : goal.returns-else-splits-clause-found
returns-else-splits-clause-found g c =
    let e = c.in-Ok-Some.ensures in
    let x : IsFirstMatch (search_in g.W.WordClass.word_chars c.matches.self.program.now c.matches.self.input) c.advance.new.captures c.in-Ok-Some.found =
    rw c.in-Ok-Some.field-0-is at e.found in
    let next = turn_next g.W.WordClass.word_chars c.args.self.now.program.now c.matches.self.program.now c.args.self.now.input c.matches.self.input
    c.args.self.now.last_end c.matches.self.last_end c.matches.invariant.turn
    x.run c.in-Ok-Some.found c.advance.new.captures x.is_first x.is_of
    c.advance.new.self.input c.advance.new.self.program.now c.advance.new.self.last_end
    (rw c.in-Ok-Some.field-0-is at e.advanced) (ap (λ x. x.now) e.program) e.last
    (c.repeats.ensures.no c.if-repeats.false) (c.splits.ensures.no c.if-splits.false) in
    let same : c.matches.self.program.now ≡ c.args.self.now.program.now = ap (λ q. q.now) c.matches.invariant.program in
    record {
      run = x.run;
      is_next = next;
      is_of = of_states (search_in g.W.WordClass.word_chars c.matches.self.program.now c.matches.self.input)
          (search_in g.W.WordClass.word_chars c.args.self.now.program.now c.args.self.now.input) x.run c.in-Ok-Some.found c.advance.new.captures
          (ap (λ p. p.automaton.states) (sym same)) x.is_of;
    }

pub matches-preserved-then-repeats : goal.matches-preserved-then-repeats
matches-preserved-then-repeats g c =
    let e = c.in-Ok-Some.ensures in
    let x : IsFirstMatch (search_in g.W.WordClass.word_chars c.matches.self.program.now c.matches.self.input) c.advance.new.captures c.in-Ok-Some.found =
    rw c.in-Ok-Some.field-0-is at e.found in
    let next : c.end-end-in-Ok-Some.result + 1 ≡ c.in-Ok-Some.found.span.end + 1 = ap (λ n. n + 1) c.end-end-in-Ok-Some.ensures.value in
    record {
      turn = turn_repeat g.W.WordClass.word_chars c.args.self.now.program.now c.matches.self.program.now c.args.self.now.input c.matches.self.input
          c.args.self.now.last_end c.matches.self.last_end c.matches.invariant.turn
          x.run c.in-Ok-Some.found c.advance.new.captures x.is_first x.is_of
          c.advance.new.self.input c.advance.new.self.program.now c.advance.new.self.last_end
          (rw c.in-Ok-Some.field-0-is at e.advanced) (ap (λ x. x.now) e.program) e.last
          c.set_start-then-repeats.new.self (c.repeats.ensures.yes c.if-repeats.true)
          (c.set_start-then-repeats.ensures ∙ ap (λ n. with_start c.advance.new.self.input n) next);
      program = e.program ∙ c.matches.invariant.program;
      groups = e.kept_groups ∙ c.matches.invariant.groups;
      slots = e.kept_slots ∙ c.matches.invariant.slots;
    }

pub matches-preserved : goal.matches-preserved
matches-preserved g c =
    let e = c.in-Ok-Some.ensures in
    let x : IsFirstMatch (search_in g.W.WordClass.word_chars c.matches.self.program.now c.matches.self.input) c.advance.new.captures c.in-Ok-Some.found =
    rw c.in-Ok-Some.field-0-is at e.found in
    let on : c.advance.new.self.input ≡ with_start c.matches.self.input c.in-Ok-Some.found.span.end = rw c.in-Ok-Some.field-0-is at e.advanced in
    record {
      turn = turn_split g.W.WordClass.word_chars c.args.self.now.program.now c.matches.self.program.now c.args.self.now.input c.matches.self.input
          c.args.self.now.last_end c.matches.self.last_end c.matches.invariant.turn
          x.run c.in-Ok-Some.found c.advance.new.captures x.is_first x.is_of
          c.advance.new.self.input c.advance.new.self.program.now c.advance.new.self.last_end
          on (ap (λ x. x.now) e.program) e.last
          c.set_start-then-splits.new.self c.after_split-next.result (c.splits.ensures.yes c.if-splits.true) (c.repeats.ensures.no c.if-repeats.false)
          c.after_split-next.ensures.anchored
          (λ mode. c.after_split-next.ensures.free mode ∙ ap (λ n. n + 1) c.end-end-in-Ok-Some.ensures.value)
          c.set_start-then-splits.ensures;
      program = e.program ∙ c.matches.invariant.program;
      groups = e.kept_groups ∙ c.matches.invariant.groups;
      slots = e.kept_slots ∙ c.matches.invariant.slots;
    }

pub invariant_of-self-then-splits : goal.invariant_of-self-then-splits
invariant_of-self-then-splits g c =
    let e = search_in g.W.WordClass.word_chars c.advance.new.self.program.now c.advance.new.self.input in
    let next = c.after_split-next.result in
    let on : c.advance.new.self.input ≡ with_start c.matches.self.input c.in-Ok-Some.found.span.end =
    rw c.in-Ok-Some.field-0-is at c.in-Ok-Some.ensures.advanced in
    let at : c.advance.new.self.input.span.start ≡ c.in-Ok-Some.found.span.end = ap (λ (x : InputParts). x.span.start) on in
    let up : c.advance.new.self.input.span.start ≤ next = omega (arith, at, c.end-end-in-Ok-Some.ensures.value, c.after_split-next.ensures.on) in
    let start : c.set_start-then-splits.new.self.span.start ≡ next = ap (λ (x : InputParts). x.span.start) c.set_start-then-splits.ensures in
    record {
      table = c.advance.new.self.table;
      left = rw c.set_start-then-splits.ensures (λ a is. rest-later _ e next up (c.advance.new.self.left a is));
      order = λ x is. omega (arith, c.advance.new.self.order x is, up, start);
    }

pub invariant_of-self-then-repeats : goal.invariant_of-self-then-repeats
invariant_of-self-then-repeats g c =
    let e = search_in g.W.WordClass.word_chars c.advance.new.self.program.now c.advance.new.self.input in
    let next = c.end-end-in-Ok-Some.result + 1 in
    let on : c.advance.new.self.input ≡ with_start c.matches.self.input c.in-Ok-Some.found.span.end =
    rw c.in-Ok-Some.field-0-is at c.in-Ok-Some.ensures.advanced in
    let at : c.advance.new.self.input.span.start ≡ c.in-Ok-Some.found.span.end = ap (λ (x : InputParts). x.span.start) on in
    let up : c.advance.new.self.input.span.start ≤ next = omega (arith, at, c.end-end-in-Ok-Some.ensures.value) in
    let start : c.set_start-then-repeats.new.self.span.start ≡ next = ap (λ (x : InputParts). x.span.start) c.set_start-then-repeats.ensures in
    record {
      table = c.advance.new.self.table;
      left = rw c.set_start-then-repeats.ensures (λ a is. rest-later _ e next up (c.advance.new.self.left a is));
      order = λ x is. omega (arith, c.advance.new.self.order x is, up, start);
    }

pub invariant_of-self-else-splits : goal.invariant_of-self-else-splits
invariant_of-self-else-splits g c =
    let on : c.advance.new.self.input ≡ with_start c.matches.self.input c.in-Ok-Some.found.span.end =
    rw c.in-Ok-Some.field-0-is at c.in-Ok-Some.ensures.advanced in
    let at : c.advance.new.self.input.span.start ≡ c.in-Ok-Some.found.span.end = ap (λ (x : InputParts). x.span.start) on in
    record {
      table = c.advance.new.self.table;
      left = c.advance.new.self.left;
      order = λ x is.
          let same : c.end-end-in-Ok-Some.result ≡ x = some_same c.end-end-in-Ok-Some.result x is in
          omega (arith, same, at, c.end-end-in-Ok-Some.ensures.value);
    }

pub invariant_of-self-in-Ok-None : goal.invariant_of-self-in-Ok-None
invariant_of-self-in-Ok-None g c =
    let e = search_in g.W.WordClass.word_chars c.advance.new.self.program.now c.advance.new.self.input in
    let next = c.end-end.result + 1 in
    let up : c.advance.new.self.input.span.start ≤ next = omega (arith, c.end-end.ensures.value, c.end-end.ensures.order) in
    let start : c.set_start-in-Ok-None.new.self.span.start ≡ next = ap (λ (x : InputParts). x.span.start) c.set_start-in-Ok-None.ensures in
    record {
      table = c.advance.new.self.table;
      left = rw c.set_start-in-Ok-None.ensures (λ a is. rest-later _ e next up (c.advance.new.self.left a is));
      order = λ x is. omega (arith, c.advance.new.self.order x is, up, start);
    }
