use Rattle.std.proofs.Common.{◌≡◌, ◌<◌, ◌∷◌, [], ◌+◌, ℕ, sym, subst, ◌∙◌, arith, ⊎_elim, true≢false}
use Rattle.std.proofs.lemmas.Bool.{cases_lt}
use Rattle.rsc_look.specs.Keeping.{Tells}
use Rattle.rsc_show.specs.Chosen.{chosen_word_chars}
use Rattle.rsc_show.proofs.witness.position_that_tells.Goals as goal

pub returns-then-tells-clause-told : goal.returns-then-tells-clause-told
returns-then-tells-clause-told c = (omega arith, c.tells.ensures.0 c.if-tells.true)

pub returns-then-tells-2-clause-told : goal.returns-then-tells-2-clause-told
returns-then-tells-2-clause-told c = (omega arith, c.tells-else-tells.ensures.0 c.if-tells-2.true)

pub returns-else-tells-2-clause-none : goal.returns-else-tells-2-clause-none
returns-else-tells-2-clause-none c = λ _ i le told.
    let at = λ (j : ℕ). Tells c.args.look c.args.matcher.now.0 (chosen_word_chars c.args.matcher.now.1) (c.args.byte ∷ []) ((c.args.byte + 1) ∷ []) j in
    ⊎_elim
    (λ (low : i < 1). let zeroth : i ≡ 0 = omega (arith, low) in true≢false (sym (c.tells.ensures.1 (subst at zeroth told)) ∙ c.if-tells.false))
    (λ high. let first : i ≡ 1 = omega (arith, high, le) in true≢false (sym (c.tells-else-tells.ensures.1 (subst at first told)) ∙ c.if-tells-2.false))
    (cases_lt i 1)
