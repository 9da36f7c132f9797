use Rattle.std.proofs.Common.{◌∙◌, ◌∷◌, [], refl}
use Rattle.rsc_uses.proofs.MaskedLemmas.{matches_of, all_found, filled_masked}
use Rattle.rsc_uses.proofs.replace.mask_all.Goals as goal

pub returns-clause-masked : goal.returns-clause-masked
returns-clause-masked g c =
    let all = c.in_ok-out.ensures.replaced in (
      matches_of all.0,
      all_found g.W.WordClass.word_chars _ all.0 all.1,
      all.2 ∙ filled_masked c.args.text.now (0x2A ∷ 0x2A ∷ 0x2A ∷ [])
          (λ captures. c.a_template_without_dollars_is_itself.ensures c.args.text.now captures (0x2A ∷ 0x2A ∷ 0x2A ∷ []) refl) 0 all.0,
    )
