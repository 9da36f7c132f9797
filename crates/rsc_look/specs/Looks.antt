-- The eighteen assertions: their numbers, their characters, their order, and what each one is from the other end.
use Rattle.std.specs.Prelude.{ℕ, Bool, true, false, List, [], ◌∷◌}
use Rattle.rsc_look.specs.declared.assertion.Look.{Look}
use Rattle.rsc_look.specs.declared.assertion.Look.TheVariants.{Start, End, StartLF, EndLF, StartCRLF, EndCRLF, WordAscii, WordAsciiNegate, WordUnicode, WordUnicodeNegate, WordStartAscii, WordEndAscii, WordStartUnicode, WordEndUnicode, WordStartHalfAscii, WordEndHalfAscii, WordStartHalfUnicode, WordEndHalfUnicode}

-- the byte `\n`
abbrev pub line_feed : ℕ
line_feed = 10

-- the byte `\r`
abbrev pub carriage_return : ℕ
carriage_return = 13

-- the number that stands for an assertion, one bit of eighteen
abbrev pub repr_of : Look → ℕ
repr_of Start = 1
repr_of End = 2
repr_of StartLF = 4
repr_of EndLF = 8
repr_of StartCRLF = 16
repr_of EndCRLF = 32
repr_of WordAscii = 64
repr_of WordAsciiNegate = 128
repr_of WordUnicode = 256
repr_of WordUnicodeNegate = 512
repr_of WordStartAscii = 1024
repr_of WordEndAscii = 2048
repr_of WordStartUnicode = 4096
repr_of WordEndUnicode = 8192
repr_of WordStartHalfAscii = 16384
repr_of WordEndHalfAscii = 32768
repr_of WordStartHalfUnicode = 65536
repr_of WordEndHalfUnicode = 131072

-- the character that shows an assertion, by its number: `A z ^ $ r R b B 𝛃 𝚩 < > 〈 〉 ◁ ▷ ◀ ▶`
abbrev pub char_of : Look → ℕ
char_of Start = 0x41
char_of End = 0x7A
char_of StartLF = 0x5E
char_of EndLF = 0x24
char_of StartCRLF = 0x72
char_of EndCRLF = 0x52
char_of WordAscii = 0x62
char_of WordAsciiNegate = 0x42
char_of WordUnicode = 0x1D6C3
char_of WordUnicodeNegate = 0x1D6A9
char_of WordStartAscii = 0x3C
char_of WordEndAscii = 0x3E
char_of WordStartUnicode = 0x3008
char_of WordEndUnicode = 0x3009
char_of WordStartHalfAscii = 0x25C1
char_of WordEndHalfAscii = 0x25B7
char_of WordStartHalfUnicode = 0x25C0
char_of WordEndHalfUnicode = 0x25B6

-- all assertions, by ascending number
unfoldable pub every_look : List Look
every_look =
    Start ∷ End ∷ StartLF ∷ EndLF ∷ StartCRLF ∷ EndCRLF ∷ WordAscii ∷ WordAsciiNegate ∷ WordUnicode ∷ WordUnicodeNegate
    ∷ WordStartAscii ∷ WordEndAscii ∷ WordStartUnicode ∷ WordEndUnicode ∷ WordStartHalfAscii ∷ WordEndHalfAscii
    ∷ WordStartHalfUnicode ∷ WordEndHalfUnicode ∷ []

-- the six that look at characters; the other twelve look at bytes
abbrev pub is_unicode : Look → Bool
is_unicode WordUnicode = true
is_unicode WordUnicodeNegate = true
is_unicode WordStartUnicode = true
is_unicode WordEndUnicode = true
is_unicode WordStartHalfUnicode = true
is_unicode WordEndHalfUnicode = true
is_unicode _ = false

-- the assertion that asks of bytes what a Unicode one asks of characters; any other is its own
abbrev pub ascii_counterpart : Look → Look
ascii_counterpart WordUnicode = WordAscii
ascii_counterpart WordUnicodeNegate = WordAsciiNegate
ascii_counterpart WordStartUnicode = WordStartAscii
ascii_counterpart WordEndUnicode = WordEndAscii
ascii_counterpart WordStartHalfUnicode = WordStartHalfAscii
ascii_counterpart WordEndHalfUnicode = WordEndHalfAscii
ascii_counterpart look = look

-- the assertion's counterpart at the other end
abbrev pub reversed : Look → Look
reversed Start = End
reversed End = Start
reversed StartLF = EndLF
reversed EndLF = StartLF
reversed StartCRLF = EndCRLF
reversed EndCRLF = StartCRLF
reversed WordAscii = WordAscii
reversed WordAsciiNegate = WordAsciiNegate
reversed WordUnicode = WordUnicode
reversed WordUnicodeNegate = WordUnicodeNegate
reversed WordStartAscii = WordEndAscii
reversed WordEndAscii = WordStartAscii
reversed WordStartUnicode = WordEndUnicode
reversed WordEndUnicode = WordStartUnicode
reversed WordStartHalfAscii = WordEndHalfAscii
reversed WordEndHalfAscii = WordStartHalfAscii
reversed WordStartHalfUnicode = WordEndHalfUnicode
reversed WordEndHalfUnicode = WordStartHalfUnicode
