use Rattle.std.proofs.Common.{take}
use Rattle.rsc_look.specs.Holds.{Holds}
use Rattle.rsc_show.specs.Chosen.{chosen_word_chars}
use Rattle.rsc_show.specs.Marks.{AreMarks}
use Rattle.rsc_show.proofs.positions.marks_at.Given as goal

-- there are the marks of the assertions so far
abbrev pub invariant-loop-look : goal.invariant-loop-look
invariant-loop-look l = AreMarks (λ look. Holds look l.matcher.0 (chosen_word_chars l.matcher.1) l.haystack l.at) (take l.look-index l.looks) l.marks.items
