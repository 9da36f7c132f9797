use Rattle.std.proofs.Common.{rules, ◌≡◌, ◌++◌, ◌∷◌, [], ℕ, sym, ◌∙◌, true≢false}
use Rattle.rsc_look.specs.Holds.{Holds}
use Rattle.rsc_uses.proofs.ListedLemmas.{listed_skip, listed_push}
use Rattle.rsc_uses.proofs.look.positions.Goals as goal
use Rattle.rsc_uses.proofs.look.positions.Goals.{then-matches+in_ok-push, else-matches}

pub loop-at-preserved : goal.loop-at-preserved
loop-at-preserved g c =
    let P : ℕ → Type 0 = Holds c.args.look c.args.matcher.now.0 (g.W.WordClass.word_chars c.args.matcher.now.1) c.args.haystack.now in
    elim c.if-matches.branch [
      | then-matches+in_ok-push w ↦
          let e : c.if-matches.found.items ≡ c.loop-at.found.items ++ c.loop-at.at ∷ [] = grind rules in
          rw e (listed_push P c.loop-at.at c.loop-at.found.items c.loop-at.invariant (c.matches.ensures.value.0 w.if-matches.true))
      | else-matches w ↦
          let e : c.if-matches.found.items ≡ c.loop-at.found.items = grind rules in
          rw e (listed_skip P c.loop-at.at c.loop-at.found.items c.loop-at.invariant
          (λ p. true≢false (sym (c.matches.ensures.value.1 p) ∙ w.if-matches.false)))
    ]
