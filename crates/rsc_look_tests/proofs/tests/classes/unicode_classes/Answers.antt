use Rattle.std.proofs.Common.{ap, ℕ, subst}
use Rattle.rsc_look.specs.Keeping.{IsCoarsestMap}
use Rattle.rsc_look.specs.Words.{is_unicode_word}
use Rattle.rsc_look.specs.KeepingLaws.{is_unicode_word-AgreesWithAscii}
use Rattle.rsc_look_tests.proofs.tests.classes.unicode_classes.Goals as goal

pub returns : goal.returns
returns c =
    subst (λ (t : ℕ). IsCoarsestMap c.classes_of.result c.args.looks.now t is_unicode_word) (ap (λ m. m.0) c.set_line_terminator.ensures.value)
    (c.classes_of.ensures.coarsest (λ l m u. is_unicode_word-AgreesWithAscii))
