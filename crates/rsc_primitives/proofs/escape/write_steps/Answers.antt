use Rattle.std.proofs.Common.{◌++◌, flat_map, take, sym, ap, ◌∙◌, append-nil, rules, arith, subst, List, ℕ}
use Rattle.std.specs.Fmt.{HasWritten}
use Rattle.std.proofs.Output.{has_written_append}
use Rattle.std.proofs.lemmas.List.{nil_from_length}
use Rattle.rsc_primitives.specs.Escapes.{step_text, EncodesOnlyAscii}
use Rattle.rsc_primitives.proofs.EscapesLemmas.{EncodesOnlyAscii-rest, piece_written, byte_put}
use Rattle.rsc_primitives.proofs.escape.write_steps.Goals.{then-len+in_ok-write_piece, else-len}
use Rattle.rsc_primitives.proofs.escape.write_steps.Goals as goal

pub steps-preserved-in-None : goal.steps-preserved-in-None
steps-preserved-in-None g c =
    elim c.if-len.branch [
      | then-len+in_ok-write_piece w ↦ (
        omega (arith, w.len-is, c.put_byte-len.ensures.most),
        λ only plain.
            let now = c.steps.invariant.1 only plain in (
              now.0 ++ take c.steps.len c.steps.piece,
              rw w.f-is (has_written_append _ _ _ _ _ _ now.1 (search rules)),
              byte_put _ _ _ _ _ _ c.in-Some.byte.now c.put_byte-len.ensures.text c.in-Some.ensures.cases.0
                  (piece_written now.0 _ c.steps.piece _ _ _ w.len-is now.2),
              EncodesOnlyAscii-rest c.in-Some.byte.now c.in-Some.after.now (subst (λ (h : List ℕ). EncodesOnlyAscii h) c.in-Some.ensures.cases.0 now.3),
            ),
      )
      | else-len w ↦ (
        omega (arith, w.len-is, w.if-len.false, c.put_byte-len.ensures.most),
        λ only plain. (
          (c.steps.invariant.1 only plain).0,
          rw w.f-is (c.steps.invariant.1 only plain).1,
          byte_put _ _ _ _ _ _ c.in-Some.byte.now c.put_byte-len.ensures.text c.in-Some.ensures.cases.0 (rw w.len-is (c.steps.invariant.1 only plain).2),
          EncodesOnlyAscii-rest c.in-Some.byte.now c.in-Some.after.now
              (subst (λ (h : List ℕ). EncodesOnlyAscii h) c.in-Some.ensures.cases.0 (c.steps.invariant.1 only plain).3),
        ),
      )
    ]

pub steps-preserved : goal.steps-preserved
steps-preserved g c = (
  omega arith,
  λ only plain.
      let begins = c.in-Some-past_ascii.ensures in
      let low = (c.steps.invariant.1 only plain).3 _ _ begins.0 in
      let high = begins.1 in
      absurd (omega arith),
)

pub returns : goal.returns
returns g c only plain ok =
    let written = c.steps.invariant.1 only plain in
    let none = nil_from_length _ c.in_default.ensures.cases in
    subst (λ (t : List ℕ). HasWritten g.W.Write.write_str_gives c.args.f.now t c.write_piece-2.new.f)
    (sym (append-nil _) ∙ ap (λ l. (written.0 ++ take c.steps.len c.steps.piece) ++ flat_map step_text l) (sym none) ∙ written.2)
    (has_written_append _ _ _ _ _ _ written.1 (search rules))
