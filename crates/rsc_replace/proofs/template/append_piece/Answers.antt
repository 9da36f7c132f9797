use Rattle.std.proofs.Common.{◌≡◌, ◌++◌, ◌∙◌, ℕ, List, [], ◌∷◌, take, drop, sym, subst, arith}
use Rattle.rsc_replace.specs.Templates.{dollar, bytes_of, span_called, count_before, dollar_piece, filled}
use Rattle.rsc_replace.proofs.TemplatesLemmas.{before_dollar, piece_at, two_dollars, lone_dollar, group_dollar}
use Rattle.rsc_replace.proofs.template.append_piece.Goals as goal

pub returns-then-count-gt0-clause-piece : goal.returns-then-count-gt0-clause-piece
returns-then-count-gt0-clause-piece c =
    let t = c.args.template.now in (
      take c.count_before-count.result t,
      c.in_ok-extend_from_slice.ensures.items,
      subst (λ (n : ℕ). filled c.args.text.now c.args.captures.now t ≡ take n t ++ filled c.args.text.now c.args.captures.now (drop n t))
          (sym c.count_before-count.ensures) (before_dollar c.args.text.now c.args.captures.now t),
    )

pub returns-then-begins_with-clause-piece : goal.returns-then-begins_with-clause-piece
returns-then-begins_with-clause-piece c =
    let none : count_before dollar c.args.template.now ≡ 0 = omega (arith, c.count_before-count.ensures, c.if-count-gt0.false) in
    let two = two_dollars c.args.text.now c.args.captures.now c.after-rest.result.now (sym c.begins_with.ensures.value ∙ c.if-begins_with.true) in (
      dollar ∷ [],
      c.in_ok-push.ensures.items,
      piece_at c.args.text.now c.args.captures.now c.args.template.now (dollar ∷ []) 1 c.requires none
          (subst (λ (rest : List ℕ). dollar_piece c.args.text.now c.args.captures.now rest ≡ (dollar ∷ [], 1)) c.after-rest.ensures two),
    )

pub returns-in_ok-push-in-None-clause-piece : goal.returns-in_ok-push-in-None-clause-piece
returns-in_ok-push-in-None-clause-piece c =
    let none : count_before dollar c.args.template.now ≡ 0 = omega (arith, c.count_before-count.ensures, c.if-count-gt0.false) in
    let lone = lone_dollar c.args.text.now c.args.captures.now c.after-rest.result.now (sym c.begins_with.ensures.value ∙ c.if-begins_with.false)
    (sym c.in-None.ensures.value) in (
      dollar ∷ [],
      c.in_ok-push-in-None.ensures.items,
      piece_at c.args.text.now c.args.captures.now c.args.template.now (dollar ∷ []) 0 c.requires none
          (subst (λ (rest : List ℕ). dollar_piece c.args.text.now c.args.captures.now rest ≡ (dollar ∷ [], 0)) c.after-rest.ensures lone),
    )

pub returns-in_ok-append_span-in-Some-clause-piece : goal.returns-in_ok-append_span-in-Some-clause-piece
returns-in_ok-append_span-in-Some-clause-piece c =
    let none : count_before dollar c.args.template.now ≡ 0 = omega (arith, c.count_before-count.ensures, c.if-count-gt0.false) in
    let piece = bytes_of c.args.text.now (span_called c.args.captures.now c.in-Some.name.now) in
    let group = group_dollar c.args.text.now c.args.captures.now c.after-rest.result.now c.in-Some.name.now c.in-Some.count
    (sym c.begins_with.ensures.value ∙ c.if-begins_with.false) (sym c.in-Some.ensures.value) in (
      piece,
      rw c.span_called.ensures at c.in_ok-append_span-in-Some.ensures.appended,
      piece_at c.args.text.now c.args.captures.now c.args.template.now piece c.in-Some.count c.requires none
          (subst (λ (rest : List ℕ). dollar_piece c.args.text.now c.args.captures.now rest ≡ (piece, c.in-Some.count)) c.after-rest.ensures group),
    )
