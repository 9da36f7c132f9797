use Rattle.std.proofs.Common.{◌∙◌, ap, arith}
use Rattle.rsc_engine.specs.Lines.{IsNextLine, after_line}
use Rattle.rsc_uses.proofs.EngineLemmas.{first_none, first_more, lines_all}
use Rattle.rsc_uses.proofs.lines.all_lines.Goals as goal

pub lines-init : goal.lines-init
lines-init g c = record {
  first = rw (c.new-all.ensures.items, c.new-lines.ensures)
      (first_none (IsNextLine g.W.WordClass.word_chars) after_line (record { program = c.args.dfa; haystack = c.args.text.now; from = 0 }));
  program = ap (λ x. x.program) c.new-lines.ensures;
}

pub returns-in-None-clause-all : goal.returns-in-None-clause-all
returns-in-None-clause-all g c =
    lines_all g.W.WordClass.word_chars (record { program = c.args.dfa; haystack = c.args.text.now; from = 0 }) c.lines.all.items c.lines.lines
    c.lines.invariant.first (rw c.in-None.is at c.in_ok-next.ensures.none)

pub lines-preserved : goal.lines-preserved
lines-preserved g c =
    let on = rw c.in-Some.is at c.in_ok-next.ensures.advanced in
    record {
      first = rw (c.in_ok-push-in-Some.ensures.items, on)
          (first_more (IsNextLine g.W.WordClass.word_chars) after_line (record { program = c.args.dfa; haystack = c.args.text.now; from = 0 }) c.lines.all.items
          c.lines.lines c.in-Some.line c.lines.invariant.first (rw c.in-Some.is at c.in_ok-next.ensures.found));
      program = ap (λ x. x.program) on ∙ c.lines.invariant.program;
    }

pub lines-smaller : goal.lines-smaller
lines-smaller g c =
    let on = rw c.in-Some.is at c.in_ok-next.ensures.advanced in
    let within = rw c.in-Some.is at c.in_ok-next.ensures.within in
    rw on (omega (arith, within.0, within.1, within.2))
