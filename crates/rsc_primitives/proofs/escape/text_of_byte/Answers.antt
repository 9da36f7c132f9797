use Rattle.std.proofs.Common.{◌≤◌, ◌+◌, ◌-◌, ◌*◌, ◌≡◌, get_or, take, drop, refl, ap, ◌∙◌, arith, rules}
use Rattle.std.proofs.lemmas.Str.{IsCharBoundary-from_ascii}
use Rattle.rsc_primitives.specs.declared.tables.TheConstants.{BYTE_LENGTHS}
use Rattle.rsc_primitives.proofs.EscapesLemmas.{length_fits}
use Rattle.rsc_primitives.proofs.escape.text_of_byte.Goals as goal

pub range-requires-clause-end_boundary : goal.range-requires-clause-end_boundary
range-requires-clause-end_boundary c =
    let short : c.from-2.result ≤ 4 =
    length_fits 4 BYTE_LENGTHS c.args.byte _ refl (omega arith) (c.from-2.ensures ∙ ap (λ i. get_or BYTE_LENGTHS i 0) c.from.ensures) in
    IsCharBoundary-from_ascii _ (4 * c.from-at.result + c.from-2.result) c.byte_texts.ensures.ascii (search (rules, short))

pub returns : goal.returns
returns c =
    let b = c.args.byte in
    let l : c.from-2.result ≡ get_or BYTE_LENGTHS b 0 = c.from-2.ensures ∙ ap (λ i. get_or BYTE_LENGTHS i 0) c.from.ensures in
    let width : 4 * c.from-at.result + c.from-2.result - 4 * c.from-at.result ≡ c.from-2.result = omega arith in
    c.range.ensures.value ∙ ap (λ m. take m (drop (4 * c.from-at.result) c.byte_texts.result.now)) (width ∙ l)
    ∙ ap (λ a. take (get_or BYTE_LENGTHS b 0) (drop (4 * a) c.byte_texts.result.now)) c.from-at.ensures ∙ c.byte_texts.ensures.texts b (omega arith)
