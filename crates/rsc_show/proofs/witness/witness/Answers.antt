use Rattle.std.proofs.Common.{arith, refl, get_or, true≢false, sym}
use Rattle.std.proofs.lemmas.List.Elements.{Contains-get_or}
use Rattle.rsc_look.specs.declared.assertion.Look.TheVariants.{Start}
use Rattle.rsc_show.specs.Chosen.{chosen_word_chars}
use Rattle.rsc_show.proofs.ChosenLemmas.{none_tells_more, not_needed, boundary_between}
use Rattle.rsc_show.proofs.witness.witness.Goals as goal

pub loop-look-init : goal.loop-look-init
loop-look-init c = λ k d h. absurd (omega (arith, h))

pub returns-in-Some-clause-told : goal.returns-in-Some-clause-told
returns-in-Some-clause-told c =
    let told = c.in-Some.ensures.told in
    (Contains-get_or c.args.looks.now c.loop-look.look-index Start c.loop-look-test.true, told.0, told.1)

pub returns-in-Some-clause-needed : goal.returns-in-Some-clause-needed
returns-in-Some-clause-needed c =
    let told = c.in-Some.ensures.told in (
      λ _. record {
        look = get_or c.args.looks.now c.loop-look.look-index Start;
        listed = Contains-get_or c.args.looks.now c.loop-look.look-index Start c.loop-look-test.true;
        position = c.in-Some.position;
        at_an_end = told.0;
        tells = told.1;
      },
      λ _. refl,
    )

pub loop-look-preserved : goal.loop-look-preserved
loop-look-preserved c =
    none_tells_more c.args.byte c.loop-look.look-index c.args.looks.now Start c.args.matcher.now.0 (chosen_word_chars c.args.matcher.now.1)
    c.loop-look.invariant
    (c.in_default.ensures.none refl)

pub returns-clause-needed : goal.returns-clause-needed
returns-clause-needed c = (
  λ e. absurd (true≢false (sym e)),
  λ needed.
      absurd (not_needed c.args.byte c.loop-look.look-index c.args.looks.now c.args.matcher.now.0 (chosen_word_chars c.args.matcher.now.1)
      (omega (arith, c.loop-look-test.false)) c.loop-look.invariant needed),
)

pub returns-clause-boundary : goal.returns-clause-boundary
returns-clause-boundary c = λ m coarsest differs.
    absurd (not_needed c.args.byte c.loop-look.look-index c.args.looks.now c.args.matcher.now.0 (chosen_word_chars c.args.matcher.now.1)
    (omega (arith, c.loop-look-test.false)) c.loop-look.invariant
    (coarsest.needed c.args.byte c.requires
    (boundary_between m coarsest.boundaries c.args.byte c.one_class_is_together.ensures c.requires coarsest.classes differs)))
