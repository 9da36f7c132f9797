-- Sets of assertions, and their members in order.
use Rattle.std.specs.Prelude.{ℕ, Bool, List, [], ◌∷◌, ◌++◌, filter}
use Rattle.std.specs.Char.{encode_utf8}
use Rattle.std.specs.List.{sum_by, list_any, flat_map}
use Rattle.std.specs.Ordering.{nat_cmp, on}
use Rattle.std.specs.declared.cmp.Ordering.{Ordering}
use Rattle.std.specs.FinSet as sets
use Rattle.rsc_look.specs.declared.assertion.Look.{Look}
use Rattle.rsc_look.specs.declared.assertion.Look.TheVariants.{Start, End, StartLF, EndLF, StartCRLF, EndCRLF, WordAscii, WordAsciiNegate, WordUnicode, WordUnicodeNegate, WordStartAscii, WordEndAscii, WordStartUnicode, WordEndUnicode, WordStartHalfAscii, WordEndHalfAscii, WordStartHalfUnicode, WordEndHalfUnicode}
use Rattle.rsc_look.specs.Looks.{repr_of, char_of, every_look}

-- assertions are ordered by their numbers
abbrev pub look_cmp : Look → Look → Ordering
look_cmp = on repr_of nat_cmp

-- a set of assertions
abbrev pub Looks : Type 0
Looks = sets.FinSet look_cmp

-- the members, by ascending number
abbrev pub members : Looks → List Look
members s = filter (λ l. sets.contains s l) every_look

-- the sum of the members' numbers
abbrev pub bits_of : Looks → ℕ
bits_of s = sum_by repr_of (members s)

-- one of these assertions is a member
abbrev pub has_one_of : Looks → List Look → Bool
has_one_of s looks = list_any (λ l. sets.contains s l) looks

-- the assertions about the ends of the haystack and of lines
abbrev pub anchors : List Look
anchors = Start ∷ End ∷ StartLF ∷ EndLF ∷ StartCRLF ∷ EndCRLF ∷ []

-- the assertions about the ends of lines alone
abbrev pub line_anchors : List Look
line_anchors = StartLF ∷ EndLF ∷ StartCRLF ∷ EndCRLF ∷ []

-- the assertions about words of ASCII
abbrev pub ascii_word_assertions : List Look
ascii_word_assertions = WordAscii ∷ WordAsciiNegate ∷ WordStartAscii ∷ WordEndAscii ∷ WordStartHalfAscii ∷ WordEndHalfAscii ∷ []

-- the assertions about words of Unicode
abbrev pub unicode_word_assertions : List Look
unicode_word_assertions = WordUnicode ∷ WordUnicodeNegate ∷ WordStartUnicode ∷ WordEndUnicode ∷ WordStartHalfUnicode ∷ WordEndHalfUnicode ∷ []

-- all twelve assertions about words
abbrev pub word_assertions : List Look
word_assertions = unicode_word_assertions ++ ascii_word_assertions

-- the character that shows an assertion, in UTF-8
abbrev pub look_text : Look → List ℕ
look_text l = encode_utf8 (char_of l)

-- the characters of the assertions in order, or `∅` without one
abbrev pub looks_text : List Look → List ℕ
looks_text [] = encode_utf8 0x2205
looks_text looks = flat_map look_text looks
