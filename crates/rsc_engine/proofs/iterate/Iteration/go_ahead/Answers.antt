use Rattle.std.proofs.Common.{◌≡◌, ◌∙◌, ap, subst, ℕ}
use Rattle.rsc_search.specs.Inputs.{InputParts}
use Rattle.rsc_engine.specs.Searches.{Search, search_in}
use Rattle.rsc_engine.specs.Preferred.{HasNoFirstMatch}
use Rattle.rsc_engine.specs.AheadLayout.{start_at}
use Rattle.rsc_engine.proofs.iterate.Iteration.go_ahead.Goals as goal

pub returns-in_default-clause-none : goal.returns-in_default-clause-none
returns-in_default-clause-none g c =
    let at : c.start.result ≡ c.args.self.now.input.span.start =
    c.start.ensures.value ∙ ap (λ (x : InputParts). x.span.start) c.take_ahead.ensures.input in
    let whole = search_in g.W.WordClass.word_chars c.in_ok-ahead.ahead.program c.in_ok-ahead.ahead.input in
    subst (λ (e : Search). HasNoFirstMatch e) (ap (λ (n : ℕ). start_at whole n) at ∙ c.in_ok-ahead.ensures.left.1)
    (rw c.in_default.is at c.in_ok-found.ensures.none)
