use Rattle.std.proofs.Common.{inl, inr, ⊎_elim}
use Rattle.rsc_look.specs.Keeping.{IsNeeded}
use Rattle.rsc_show.specs.Chosen.{chosen_word_chars}
use Rattle.rsc_show.specs.Ranges.{HasBoundary}
use Rattle.rsc_show.proofs.ChosenLemmas.{boundary_between}
use Rattle.rsc_show.proofs.witness.witnesses.Goals as goal

pub returns-clause-boundary : goal.returns-clause-boundary
returns-clause-boundary c = λ m coarsest differs.
    let ranges = c.args.ranges.now in
    let looks = c.args.looks.now in
    let t = c.args.matcher.now.0 in
    let W = chosen_word_chars c.args.matcher.now.1 in
    ⊎_elim (λ (told : IsNeeded c.args.byte looks t W). inl (c.witness.ensures.needed.1 told))
    (λ (boundary : HasBoundary c.args.byte ranges). inr (c.range_at.ensures.found boundary.range boundary.listed boundary.boundary))
    (coarsest.needed c.args.byte c.requires
    (boundary_between m coarsest.boundaries c.args.byte c.one_class_is_together.ensures c.requires coarsest.classes differs))
