-- The class `\w` of the tables, and the word characters from 128 on.
use Rattle.std.proofs.Common.{◌≡◌, ℕ, ◌≤◌, Bool, false, ◌&&◌, ◌||◌, nat_eq, nat_le, [], ◌∷◌, refl, ap₂, ◌∙◌, arith, le-ltb}
use Rattle.std.proofs.lemmas.Bool.Decides.{nat_tests}
use Rattle.std.specs.Bool.{beq}
use Rattle.unicode.specs.Rows.{in_ranges}
use Rattle.unicode.specs.Perl as perl
use Rattle.unicode.specs.Perl.{is_word_char}
use Rattle.unicode.specs.Binary.{is_alphabetic, is_join_control}
use Rattle.unicode.proofs.Stepped.{Stepped, of_ranges, zip_stepped}
use Rattle.unicode.proofs.TableComputing.{tables}
use Rattle.unicode.proofs.Facts.{Stepped-everywhere, same_from_beq}
use Rattle.unicode.proofs.BinaryLemmas.{is_join_control_stepped}
use Rattle.unicode.specs.GeneralCategory.{general_category}
use Rattle.unicode.specs.declared.properties.GeneralCategory.{GeneralCategory}
use Rattle.unicode.specs.declared.properties.GeneralCategory.TheVariants.{UppercaseLetter}
use Rattle.rsc_look.specs.Words.{is_word_category, is_unicode_word}

same_category : (g : GeneralCategory) → perl.is_word_category g ≡ is_word_category g
same_category UppercaseLetter = refl
same_category _ = refl

-- the property Join_Control is that of the two joiners: computed over the steps of its table
abbrev joiners : ℕ → Bool
joiners = in_ranges ((0x200C, 0x200D) ∷ [])

unfoldable joiners_stepped : Stepped joiners
unfolding tables
joiners_stepped = of_ranges ((0x200C, 0x200D) ∷ []) refl

is_join_control-joiners : (c : ℕ) → is_join_control c ≡ joiners c
unfolding tables is_join_control_stepped joiners_stepped
is_join_control-joiners c =
    same_from_beq _ _ (Stepped-everywhere (λ x. beq (is_join_control x) (joiners x))
    (zip_stepped beq is_join_control joiners is_join_control_stepped joiners_stepped) refl c)

one_range : (c : ℕ) → ((nat_le 0x200C c && nat_le c 0x200D) || false) ≡ (nat_eq c 0x200C || nat_eq c 0x200D)
one_range c = grind (arith, nat_tests)

is_join_control-is : (c : ℕ) → is_join_control c ≡ (nat_eq c 0x200C || nat_eq c 0x200D)
unfolding in_ranges
is_join_control-is c = is_join_control-joiners c ∙ one_range c

-- past ASCII the table of word characters is Unicode's
pub is_word_char_is_unicode_word : (c : ℕ) → 128 ≤ c → is_word_char c ≡ is_unicode_word c
unfolding is_word_char
is_word_char_is_unicode_word c h =
    let e = le-ltb c 128 h in
    rw e (ap₂ (λ x y. (is_alphabetic c || x) || y) (same_category (general_category c)) (is_join_control-is c))
