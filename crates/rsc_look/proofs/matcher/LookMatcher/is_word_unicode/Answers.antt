use Rattle.rsc_look.proofs.HoldsLemmas.{differs}
use Rattle.rsc_look.proofs.matcher.LookMatcher.is_word_unicode.Goals as goal

pub returns : goal.returns
returns g c = differs _ _ _ _ _ _ _ c.side_before-before.ensures c.side_after-after.ensures c.is_word_character.ensures c.is_word_character-2.ensures
