use Rattle.std.proofs.Common.{◌∷◌, [], refl, arith}
use Rattle.rsc_uses.proofs.MaskedLemmas.{first_masked}
use Rattle.rsc_uses.proofs.replace.mask_first.Goals as goal

pub returns-clause-masked : goal.returns-clause-masked
returns-clause-masked g c =
    let first = c.in_ok-out.ensures.up_to (omega arith) in
    first_masked g.W.WordClass.word_chars c.args.program.now c.args.text.now (0x2A ∷ 0x2A ∷ 0x2A ∷ []) c.in_ok-out.out.items
    (λ captures. c.a_template_without_dollars_is_itself.ensures c.args.text.now captures (0x2A ∷ 0x2A ∷ 0x2A ∷ []) refl) first.0 first.1 first.2
