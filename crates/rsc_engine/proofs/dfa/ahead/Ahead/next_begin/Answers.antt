use Rattle.std.proofs.Common.{◌≡◌, ◌≤◌, ⊎_elim, ◌<◌, subst, ℕ, arith}
use Rattle.std.proofs.lemmas.Bool.{cases_lt}
use Rattle.rsc_engine.specs.Searches.{search_in}
use Rattle.rsc_engine.specs.ArrivalsLayout.{Arrives}
use Rattle.rsc_engine.proofs.dfa.ahead.Ahead.next_begin.Goals as goal

pub positions-init : goal.positions-init
positions-init g c = λ m low l. absurd (omega (arith, low, l))

pub positions-preserved : goal.positions-preserved
positions-preserved g c = λ m low l a. ⊎_elim
    (λ (lt : m < c.positions.at). c.positions.invariant m low lt a)
    (λ (le : c.positions.at ≤ m).
    let same : m ≡ c.positions.at = omega (arith, le, l) in
    c.begins.ensures.no c.if-begins.false
    (subst (λ (n : ℕ). Arrives (search_in g.W.WordClass.word_chars c.args.self.now.program c.args.self.now.input) c.args.self.now.program.start n) same a))
    (cases_lt m c.positions.at)

pub returns-then-begins-clause-some : goal.returns-then-begins-clause-some
returns-then-begins-clause-some g c = record {
  may = record {
    start = c.positions.auto.at;
    end = omega (arith, c.positions-test.true, c.last_begin-last.ensures.within);
    anchored = λ anchored. omega (arith, c.positions.auto.at, c.positions-test.true, c.last_begin-last.ensures.anchored anchored);
  };
  begins = c.begins.ensures.yes c.if-begins.true;
  none = c.positions.invariant;
}

pub returns-clause-none : goal.returns-clause-none
returns-clause-none g c = λ at may.
    c.positions.invariant at may.start
    (omega (arith, c.positions-test.false, c.last_begin-last.ensures.all at may.start may.end may.anchored))
