use Rattle.rsc_show.specs.Chosen.{chosen_word_chars}
use Rattle.rsc_show.proofs.ChosenLemmas.{NoneTells}
use Rattle.rsc_show.proofs.witness.witness.Given as goal

-- no assertion so far tells the byte
abbrev pub invariant-loop-look : goal.invariant-loop-look
invariant-loop-look l = NoneTells l.byte l.look-index l.looks l.matcher.0 (chosen_word_chars l.matcher.1)
