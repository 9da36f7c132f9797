use Rattle.rsc_primitives.specs.DecodingLaws.{IsCharBoundary-EncodesAll}
use Rattle.rsc_search.proofs.input.Input.is_char_boundary.Goals as goal

pub returns-clause-text : goal.returns-clause-text
returns-clause-text c = rw (← c.self.view_is) (λ chars encoded.
    let law = IsCharBoundary-EncodesAll c.self.inside.haystack.now chars c.args.at encoded in
    (λ is. law.0 (c.is_boundary.ensures.0 is), λ at. c.is_boundary.ensures.1 (law.1 at)))
