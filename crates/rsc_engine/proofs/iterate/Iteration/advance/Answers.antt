use Rattle.std.proofs.Common.{◌≡◌, ◌≤◌, ◌∙◌, ap, arith}
use Rattle.rsc_search.specs.Inputs.{InputParts}
use Rattle.rsc_engine.specs.Searches.{search_in}
use Rattle.rsc_engine.proofs.AheadLayoutLemmas.{rest-later}
use Rattle.rsc_engine.proofs.iterate.Iteration.advance.Goals as goal

pub returns-in_default-clause-none : goal.returns-in_default-clause-none
returns-in_default-clause-none g c = rw (c.in_default.is, c.args.self.now.table) at c.in_ok-found.ensures.none

pub returns-clause-found : goal.returns-clause-found
returns-clause-found g c = rw (c.in-Some.is, c.args.self.now.table) at c.in_ok-found.ensures.found

pub invariant_of-self-2 : goal.invariant_of-self-2
invariant_of-self-2 g c =
    let e = search_in g.W.WordClass.word_chars c.args.self.now.program.now c.args.self.now.input in
    let end = c.end-2.result in
    let within = rw c.in-Some.is at c.in_ok-found.ensures.within in
    let up : c.args.self.now.input.span.start ≤ end = omega (arith, c.end-2.ensures.value, within) in
    let start : c.set_start.new.self.span.start ≡ end = ap (λ (x : InputParts). x.span.start) c.set_start.ensures in
    record {
      table = c.find.ensures.kept ∙ c.args.self.now.table;
      left = rw c.set_start.ensures (λ a is. rest-later _ e end up (c.args.self.now.left a is));
      order = λ x is. omega (arith, c.args.self.now.order x is, up, start);
    }
