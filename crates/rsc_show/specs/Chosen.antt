-- Which characters are word characters, by the choice of the arguments.
use Rattle.std.specs.Prelude.{ℕ, Bool}
use Rattle.rsc_primitives.specs.Utf8.{is_word_byte}
use Rattle.rsc_look.specs.Words.{is_unicode_word}
use Rattle.rsc_show.specs.declared.choices.WordPredicate.{WordPredicate}
use Rattle.rsc_show.specs.declared.choices.WordPredicate.TheVariants.{Ascii, Unicode}

-- the word bytes, or the word characters of Unicode
abbrev pub chosen_word_chars : WordPredicate → ℕ → Bool
chosen_word_chars Ascii c = is_word_byte c
chosen_word_chars Unicode c = is_unicode_word c
