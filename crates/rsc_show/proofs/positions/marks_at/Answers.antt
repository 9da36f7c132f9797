use Rattle.std.proofs.Common.{get_or, take}
use Rattle.std.proofs.lemmas.List.{take_more}
use Rattle.rsc_look.specs.declared.assertion.Look.TheVariants.{Start}
use Rattle.rsc_look.specs.Holds.{Holds}
use Rattle.rsc_show.specs.Chosen.{chosen_word_chars}
use Rattle.rsc_show.proofs.MarksLemmas.{AreMarks-push}
use Rattle.rsc_show.proofs.positions.marks_at.Goals as goal

pub loop-look-preserved : goal.loop-look-preserved
loop-look-preserved c =
    let looks = c.args.looks.now in
    let i = c.loop-look.look-index in
    rw (c.in_ok-push.ensures.items, take_more looks i Start c.loop-look-test.true)
    (AreMarks-push (λ look. Holds look c.args.matcher.now.0 (chosen_word_chars c.args.matcher.now.1) c.args.haystack.now c.args.at)
    (take i looks) c.loop-look.marks.items (get_or looks i Start) c.matches.result c.loop-look.invariant c.matches.ensures.value)
