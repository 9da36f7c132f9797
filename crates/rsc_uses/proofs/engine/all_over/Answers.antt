use Rattle.std.proofs.Common.{◌∙◌, ap, None}
use Rattle.rsc_engine.specs.NextMatches.{IsNextOfLeft, after}
use Rattle.rsc_uses.proofs.EngineLemmas.{first_none, first_more, first_all}
use Rattle.rsc_uses.proofs.engine.all_over.Goals as goal

pub matches-init : goal.matches-init
matches-init g c = record {
  first = rw (c.new-all.ensures.items, c.in_ok-matches.ensures.made)
      (first_none (IsNextOfLeft g.W.WordClass.word_chars) after (record { program = c.args.cache; input = c.args.input; last = None }));
  program = ap (λ x. x.program) c.in_ok-matches.ensures.made;
}

pub returns-in-None-clause-all : goal.returns-in-None-clause-all
returns-in-None-clause-all g c =
    first_all g.W.WordClass.word_chars (record { program = c.args.cache; input = c.args.input; last = None }) c.matches.all.items c.matches.matches
    c.matches.invariant.first (rw c.in-None.is at c.in_ok-next.ensures.none)

pub matches-preserved : goal.matches-preserved
matches-preserved g c =
    let on = rw c.in-Some.is at c.in_ok-next.ensures.advanced in
    record {
      first = rw (c.in_ok-push-in-Some.ensures.items, on)
          (first_more (IsNextOfLeft g.W.WordClass.word_chars) after (record { program = c.args.cache; input = c.args.input; last = None }) c.matches.all.items
          c.matches.matches c.in-Some.found c.matches.invariant.first (_, rw c.in-Some.is at c.in_ok-next.ensures.found));
      program = ap (λ x. x.program) on ∙ c.matches.invariant.program;
    }

pub matches-smaller : goal.matches-smaller
matches-smaller g c =
    let on = rw c.in-Some.is at c.in_ok-next.ensures.advanced in
    let later = rw c.in-Some.is at c.in_ok-next.ensures.order in
    let within = rw c.in-Some.is at c.in_ok-next.ensures.within in
    rw on (c.an_iteration_ends.ensures c.matches.matches.input.span.end c.in-Some.found.span.end c.matches.matches.last later within.2)
