use Rattle.std.proofs.Common.{◌≡◌, ℕ, ◌+◌, ◌-◌, ◌*◌, ◌++◌, ◌≤◌, ◌<◌, List, get_or, take, drop, take-take, refl, ap, ◌∙◌, arith, rules}
use Rattle.rsc_primitives.specs.Escapes.{step_text}
use Rattle.rsc_primitives.specs.declared.tables.TheConstants.{STEP_TEXTS, STEP_LENGTHS}
use Rattle.rsc_primitives.proofs.EscapesLemmas.{take-put_mid-front, tabled_is, length_fits}
use Rattle.rsc_primitives.proofs.escape.put_byte.Goals as goal

-- the copied part of the table begins with the byte's text
copied : (at b n : ℕ) (ys : List ℕ) → b < 256 → at ≡ b → n ≡ get_or STEP_LENGTHS b 0
    → ys ≡ take (8 * at + 8 - 8 * at) (drop (8 * at) STEP_TEXTS) → take n ys ≡ step_text b
copied at b n ys low e l p =
    let width : 8 * at + 8 - 8 * at ≡ 8 = omega arith in
    ap (take n) (p ∙ ap (λ m. take m (drop (8 * at) STEP_TEXTS)) width)
    ∙ take-take n 8 (drop (8 * at) STEP_TEXTS) (length_fits 8 STEP_LENGTHS b n refl low l)
    ∙ ap (λ a. take n (drop (8 * a) STEP_TEXTS)) e ∙ ap (λ m. take m (drop (8 * b) STEP_TEXTS)) l
    ∙ tabled_is 8 STEP_TEXTS STEP_LENGTHS step_text refl b low

pub returns-clause-most : goal.returns-clause-most
returns-clause-most c =
    length_fits 8 STEP_LENGTHS c.args.byte _ refl (omega arith) (c.from-2.ensures ∙ ap (λ i. get_or STEP_LENGTHS i 0) c.from.ensures)

pub returns-clause-text : goal.returns-clause-text
returns-clause-text c =
    let l = c.from-2.ensures ∙ ap (λ i. get_or STEP_LENGTHS i 0) c.from.ensures in
    let short : c.from-2.result ≤ 8 = length_fits 8 STEP_LENGTHS c.args.byte _ refl (omega arith) l in
    take-put_mid-front c.args.len _ c.from-2.result c.args.piece.now c.copy_from_slice.new.self (search (rules, short)) (search rules)
    ∙ ap (λ t. take c.args.len c.args.piece.now ++ t) (copied c.from-at.result c.args.byte c.from-2.result _ (omega arith) c.from-at.ensures l
    c.copy_from_slice.ensures.after)
