use Rattle.std.proofs.Common.{◌∷◌, [], refl, sym, ap, arith, slice_index_or, true≢false}
use Rattle.hex.proofs.HexLemmas.{decode_of-ok, decode_of-same}
use Rattle.rsc_notation.proofs.RangeTextsLemmas.{written}
use Rattle.rsc_notation.proofs.bytes.parse_range.Goals as goal

pub returns-in_default-clause-found : goal.returns-in_default-clause-found
returns-in_default-clause-found c = λ first last w order. absurd (omega (arith, (written c.args.text.now first last w).0, c.in_default.len_below))

pub returns-in_default-2-clause-found : goal.returns-in_default-2-clause-found
returns-in_default-2-clause-found c = λ first last w order. absurd (omega (arith, (written c.args.text.now first last w).0, c.in_default.len_at_least))

pub returns-then-dash-ne45-clause-found : goal.returns-then-dash-ne45-clause-found
returns-then-dash-ne45-clause-found c = λ first last w order. absurd (c.if-dash-ne45.true (written c.args.text.now first last w).1)

pub returns-in_err-start-clause-found : goal.returns-in_err-start-clause-found
returns-in_err-start-clause-found c = λ first last w order.
    absurd (true≢false (sym (c.in_err-start.ensures.found.1 (
      refl,
      (decode_of-ok (slice_index_or c.args.text.now 0 0 ∷ slice_index_or c.args.text.now 1 0 ∷ []) (first ∷ [])
          (written c.args.text.now first last w).2).1,
    ))))

pub returns-in_err-end-clause-found : goal.returns-in_err-end-clause-found
returns-in_err-end-clause-found c = λ first last w order.
    absurd (true≢false (sym (c.in_err-end.ensures.found.1 (
      refl,
      (decode_of-ok (slice_index_or c.args.text.now 3 0 ∷ slice_index_or c.args.text.now 4 0 ∷ []) (last ∷ [])
          (written c.args.text.now first last w).3).1,
    ))))

pub returns-else-start-end-clause-found : goal.returns-else-start-end-clause-found
returns-else-start-end-clause-found c = λ first last w order.
    let text = c.args.text.now in
    let start = decode_of-same (slice_index_or text 0 0 ∷ slice_index_or text 1 0 ∷ []) (first ∷ []) (c.in_ok-start.start ∷ [])
    (written text first last w).2 c.in_ok-start.ensures.value in
    let end = decode_of-same (slice_index_or text 3 0 ∷ slice_index_or text 4 0 ∷ []) (last ∷ []) (c.in_ok-end.end ∷ []) (written text first last w).3
    c.in_ok-end.ensures.value in
    absurd (omega (arith, order, c.if-start-end.false, ap (λ s. slice_index_or s 0 0) start, ap (λ s. slice_index_or s 0 0) end))
