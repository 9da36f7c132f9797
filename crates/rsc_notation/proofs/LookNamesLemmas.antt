-- Each assertion is in the list of all.
use Rattle.std.proofs.Common.{◌≡◌, ℕ, ◌<◌, refl, get_or, arith, length}
use Rattle.rsc_look.specs.declared.assertion.Look.{Look}
use Rattle.rsc_look.specs.declared.assertion.Look.TheVariants.{Start, End, StartLF, EndLF, StartCRLF, EndCRLF, WordAscii, WordAsciiNegate, WordUnicode, WordUnicodeNegate, WordStartAscii, WordEndAscii, WordStartUnicode, WordEndUnicode, WordStartHalfAscii, WordEndHalfAscii, WordStartHalfUnicode, WordEndHalfUnicode}
use Rattle.rsc_look.specs.Looks.{every_look}

-- there are eighteen assertions
pub eighteen : length every_look ≡ 18
unfolding every_look
eighteen = refl

-- the list has each assertion
pub is_listed : (l : Look) → (k : ℕ) × (k < 18) × (get_or every_look k Start ≡ l)
unfolding every_look
is_listed Start = (0, omega arith, refl)
is_listed End = (1, omega arith, refl)
is_listed StartLF = (2, omega arith, refl)
is_listed EndLF = (3, omega arith, refl)
is_listed StartCRLF = (4, omega arith, refl)
is_listed EndCRLF = (5, omega arith, refl)
is_listed WordAscii = (6, omega arith, refl)
is_listed WordAsciiNegate = (7, omega arith, refl)
is_listed WordUnicode = (8, omega arith, refl)
is_listed WordUnicodeNegate = (9, omega arith, refl)
is_listed WordStartAscii = (10, omega arith, refl)
is_listed WordEndAscii = (11, omega arith, refl)
is_listed WordStartUnicode = (12, omega arith, refl)
is_listed WordEndUnicode = (13, omega arith, refl)
is_listed WordStartHalfAscii = (14, omega arith, refl)
is_listed WordEndHalfAscii = (15, omega arith, refl)
is_listed WordStartHalfUnicode = (16, omega arith, refl)
is_listed WordEndHalfUnicode = (17, omega arith, refl)
