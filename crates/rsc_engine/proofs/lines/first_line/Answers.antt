use Rattle.std.proofs.Common.{◌∙◌, arith, length}
use Rattle.rsc_engine.specs.Lines.{HasMatchIn}
use Rattle.rsc_engine.specs.LinesLayout.{IsCandidate}
use Rattle.rsc_engine.proofs.LinesLemmas.{none-joined, none-past, begins-after}
use Rattle.rsc_engine.proofs.lines.first_line.Goals as goal

pub returns-in_default-clause-none : goal.returns-in_default-clause-none
returns-in_default-clause-none g c =
    let h = c.args.haystack.now in
    none-joined h (HasMatchIn g.W.WordClass.word_chars c.args.dfa.now h) c.args.from c.loop-at.at (length h) c.loop-at.invariant.passed
    (rw (c.in_default.is, c.loop-at.invariant.program) at c.in_ok-line.ensures.none)

pub returns-then-branch-clause-found : goal.returns-then-branch-clause-found
returns-then-branch-clause-found g c =
    let h = c.args.haystack.now in
    let Has = HasMatchIn g.W.WordClass.word_chars c.args.dfa.now h in
    let k : IsCandidate h Has c.loop-at.at c.in-Some.line = rw (c.in-Some.is, c.loop-at.invariant.program) at c.in_ok-line.ensures.some in
    record {
      is_line = k.is_line;
      from = omega (arith, k.from, c.loop-at.invariant.low);
      matches =
          (rw (c.candidate.ensures.kept ∙ c.loop-at.invariant.program, c.span.ensures, c.new.ensures) at c.in_ok-is_match.ensures.found) c.if-branch.true;
      none_before = none-joined h Has c.args.from c.loop-at.at c.in-Some.line.start c.loop-at.invariant.passed k.none_before;
    }

pub loop-at-preserved : goal.loop-at-preserved
loop-at-preserved g c =
    let h = c.args.haystack.now in
    let Has = HasMatchIn g.W.WordClass.word_chars c.args.dfa.now h in
    let k : IsCandidate h Has c.loop-at.at c.in-Some.line = rw (c.in-Some.is, c.loop-at.invariant.program) at c.in_ok-line.ensures.some in
    let none =
    (rw (c.candidate.ensures.kept ∙ c.loop-at.invariant.program, c.span.ensures, c.new.ensures) at c.in_ok-is_match.ensures.none) c.if-branch.false in
    record {
      program = c.is_match.ensures.kept ∙ c.candidate.ensures.kept ∙ c.loop-at.invariant.program;
      begins = begins-after h c.in-Some.line k.is_line;
      low = omega (arith, k.from, k.is_line.order, c.loop-at.invariant.low);
      passed = none-past h Has c.args.from c.loop-at.at c.in-Some.line c.loop-at.invariant.passed k (λ some. some none);
    }
