-- How the code holds a set of assertions, as eighteen bits.
use Rattle.std.specs.Prelude.{◌≡◌, ℕ, ◌==◌, Bool, filter, slice_index_or, refl}
use Rattle.std.specs.Int.{bit_at}
use Rattle.std.specs.Coded.{Coded, code_by, coded_ℕ}
use Rattle.std.specs.FinSet as sets
use Rattle.rsc_look.specs.declared.assertion.Look.{Look}
use Rattle.rsc_look.specs.declared.assertion.Look.TheVariants.{Start, End, StartLF, EndLF, StartCRLF, EndCRLF, WordAscii, WordAsciiNegate, WordUnicode, WordUnicodeNegate, WordStartAscii, WordEndAscii, WordStartUnicode, WordEndUnicode, WordStartHalfAscii, WordEndHalfAscii, WordStartHalfUnicode, WordEndHalfUnicode}
use Rattle.rsc_look.specs.Looks.{every_look}
use Rattle.rsc_look.specs.LookSets.{Looks}

-- the bit that stands for an assertion
abbrev pub bit_of : Look → ℕ
bit_of Start = 0
bit_of End = 1
bit_of StartLF = 2
bit_of EndLF = 3
bit_of StartCRLF = 4
bit_of EndCRLF = 5
bit_of WordAscii = 6
bit_of WordAsciiNegate = 7
bit_of WordUnicode = 8
bit_of WordUnicodeNegate = 9
bit_of WordStartAscii = 10
bit_of WordEndAscii = 11
bit_of WordStartUnicode = 12
bit_of WordEndUnicode = 13
bit_of WordStartHalfAscii = 14
bit_of WordEndHalfAscii = 15
bit_of WordStartHalfUnicode = 16
bit_of WordEndHalfUnicode = 17

-- two assertions are the same
abbrev pub is_same : Look → Look → Bool
is_same l m = bit_of l == bit_of m

abbrev pub has_look : ℕ → Look → Bool
has_look n l = bit_at n (bit_of l) == 1

-- the assertions whose bits are set
abbrev pub looks_of : ℕ → Looks
looks_of n = sets.from_list (filter (has_look n) every_look)

-- the assertion of a bit
unfoldable pub look_at : ℕ → Look
unfolding every_look
look_at k = slice_index_or every_look k Start

pub look_at-bit_of : (l : Look) → look_at (bit_of l) ≡ l
unfolding look_at
look_at-bit_of Start = refl
look_at-bit_of _ = refl

-- an assertion is stored as its bit
abbrev pub look_code : Coded Look
look_code = code_by ℕ coded_ℕ bit_of look_at look_at-bit_of
