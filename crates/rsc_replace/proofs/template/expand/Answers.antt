use Rattle.std.proofs.Common.{◌++◌, ◌∙◌, List, ℕ, sym, ap, arith}
use Rattle.rsc_replace.proofs.TemplatesLemmas.{all_read}
use Rattle.rsc_replace.proofs.template.expand.Goals as goal

pub returns-clause-filled : goal.returns-clause-filled
returns-clause-filled c =
    let begun = c.loop-at.invariant.begun in
    let all = all_read c.args.text.now c.args.captures.now c.args.template.now begun.0 c.loop-at.at (omega arith) begun.2 in
    begun.1 ∙ ap (λ (x : List ℕ). c.args.out.now.items ++ x) (sym all)
