-- The word characters of Unicode Technical Standard 18, Annex C, by the properties of Unicode from 128 on.
use Rattle.std.specs.Prelude.{ℕ, Bool, true, false, ◌||◌, ◌==◌, nat_lt, if◌then◌else◌}
use Rattle.unicode.specs.Binary.{is_alphabetic}
use Rattle.unicode.specs.GeneralCategory.{general_category}
use Rattle.unicode.specs.declared.properties.GeneralCategory.{GeneralCategory}
use Rattle.unicode.specs.declared.properties.GeneralCategory.TheVariants.{NonspacingMark, SpacingMark, EnclosingMark, DecimalNumber, ConnectorPunctuation}
use Rattle.rsc_primitives.specs.Utf8.{is_word_byte}

-- the general categories Mn, Mc, Me, Nd and Pc
abbrev pub is_word_category : GeneralCategory → Bool
is_word_category NonspacingMark = true
is_word_category SpacingMark = true
is_word_category EnclosingMark = true
is_word_category DecimalNumber = true
is_word_category ConnectorPunctuation = true
is_word_category _ = false

-- below 128 the word bytes; from there on what is alphabetic, of category Mn, Mc, Me, Nd or Pc, or one of the two joiners
abbrev pub is_unicode_word : ℕ → Bool
is_unicode_word c =
    if nat_lt c 128 then is_word_byte c
    else (is_alphabetic c || is_word_category (general_category c) || (c == 0x200C || c == 0x200D))
