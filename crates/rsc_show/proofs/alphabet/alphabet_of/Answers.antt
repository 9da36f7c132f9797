use Rattle.std.proofs.Common.{◌∙◌, ◌∷◌, [], take, get_or, subst, sym, ⊎_elim, inr}
use Rattle.std.specs.FinSet as sets
use Rattle.std.proofs.lemmas.List.{take_all, take_more}
use Rattle.std.proofs.lemmas.List.Elements.{Contains-get_or}
use Rattle.rsc_look.specs.declared.assertion.Look.TheVariants.{Start}
use Rattle.rsc_look.specs.Boundaries.{boundaries_of_look}
use Rattle.rsc_look.specs.Keeping.{Keeps}
use Rattle.rsc_show.specs.Chosen.{chosen_word_chars}
use Rattle.std.proofs.lemmas.Bool.{or_cases, or_left}
use Rattle.rsc_show.proofs.alphabet.alphabet_of.Goals as goal

pub loop-look-preserved : goal.loop-look-preserved
loop-look-preserved c =
    let t = c.args.matcher.now.0 in
    let W = chosen_word_chars c.args.matcher.now.1 in
    let looks = c.args.looks.now in
    let i = c.loop-look.look-index in
    let look = get_or looks i Start in
    let before = sets.contains c.loop-look.set in
    let added = sets.contains (boundaries_of_look look t) in
    let exact = c.add_to_byteset.ensures.boundaries (λ _. c.word_predicates_agree.ensures c.args.matcher.now.1) in (
      λ q h.
          rw (take_more looks i Start c.loop-look-test.true)
          (c.kept_lists_are_joined.ensures.both q (take i looks) (look ∷ []) t W
          (c.loop-look.invariant.0 q (λ b lt e. h b lt (c.add_to_byteset.ensures.members b ∙ or_left (before b) (added b) e)))
          (exact.kept q h)),
      λ r inside fills b lt boundary. c.add_to_byteset.ensures.members b
          ∙ or_left (before b) (added b) (c.loop-look.invariant.1 r inside fills b lt boundary),
      λ b lt e.
          ⊎_elim (λ old. c.loop-look.invariant.2 b lt old)
          (λ new. inr (record { look = look; listed = Contains-get_or looks i Start c.loop-look-test.true; boundary = new }))
          (or_cases (before b) (added b) (sym (c.add_to_byteset.ensures.members b) ∙ e)),
    )

pub returns-clause-keeps : goal.returns-clause-keeps
returns-clause-keeps c =
    subst (λ ls. Keeps (sets.contains c.loop-look.set) ls c.args.matcher.now.0 (chosen_word_chars c.args.matcher.now.1))
    (take_all c.loop-look.look-index c.args.looks.now c.loop-look-test.false)
    (c.loop-look.invariant.0 (sets.contains c.loop-look.set) (λ b lt e. e))
