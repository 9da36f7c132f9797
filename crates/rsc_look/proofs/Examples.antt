-- The definitions, computed on examples.
use Rattle.std.proofs.Common.{◌≡◌, ℕ, Bool, true, false, List, [], ◌∷◌, refl, sym, ap, ◌∙◌, arith}
use Rattle.std.specs.FinSet as sets
use Rattle.rsc_look.proofs.Prelude.{Look, StartLF, EndLF, StartCRLF, EndCRLF, WordAscii, WordUnicode, WordUnicodeNegate, WordStartHalfUnicode, Invalid, WordCharacter, Other, every_look, bits_of, bits_of-looks_of, byte_before, byte_after, holds_at_bytes, holds_at_sides, boundaries_of_look, mirror}
use Rattle.rsc_look.proofs.BoundariesLemmas.{contains-boundaries_of_look}
use Rattle.rsc_look.proofs.LookSetLayoutLemmas.{looks_of_all}

-- what a byte assertion says at a position, for the line terminator `\n`
abbrev says : Look → List ℕ → ℕ → Bool
says l h i = holds_at_bytes l 10 (byte_before h i) (byte_after h i)

-- `\r\n`
start_inside_crlf : says StartCRLF (13 ∷ 10 ∷ []) 1 ≡ false
start_inside_crlf = refl

end_inside_crlf : says EndCRLF (13 ∷ 10 ∷ []) 1 ≡ false
end_inside_crlf = refl

start_after_crlf : says StartCRLF (13 ∷ 10 ∷ []) 2 ≡ true
start_after_crlf = refl

end_before_crlf : says EndCRLF (13 ∷ 10 ∷ []) 0 ≡ true
end_before_crlf = refl

-- the end of a line before `\n\r` read from the other end of `\r\n`: why the two bytes are exchanged in a mirror
end_in_plain_mirror : says EndCRLF (0x61 ∷ 10 ∷ 13 ∷ []) 2 ≡ true
end_in_plain_mirror = refl

mirror_of_crlf : mirror StartCRLF (13 ∷ 10 ∷ 0x61 ∷ []) ≡ 0x61 ∷ 13 ∷ 10 ∷ []
mirror_of_crlf = refl

-- a side whose bytes are no character
bad_after_word : holds_at_sides WordUnicode WordCharacter Invalid ≡ true
bad_after_word = refl

bad_before_word_negated : holds_at_sides WordUnicodeNegate Invalid Other ≡ false
bad_before_word_negated = refl

bad_before_half_start : holds_at_sides WordStartHalfUnicode Invalid WordCharacter ≡ false
bad_before_half_start = refl

-- the line terminators 0 and 255 have one boundary each
boundary_after_zero : sets.contains (boundaries_of_look StartLF 0) 0 ≡ true
boundary_after_zero = contains-boundaries_of_look StartLF 0 0

boundary_before_last : sets.contains (boundaries_of_look EndLF 255) 254 ≡ true
boundary_before_last = contains-boundaries_of_look EndLF 255 254

no_boundary_after_last : sets.contains (boundaries_of_look EndLF 255) 255 ≡ false
no_boundary_after_last = contains-boundaries_of_look EndLF 255 255

word_byte_boundary : sets.contains (boundaries_of_look WordAscii 10) 0x5E ≡ true
word_byte_boundary = contains-boundaries_of_look WordAscii 10 0x5E

-- the set of all assertions
bits_of_all : bits_of (sets.from_list every_look) ≡ 262143
bits_of_all = sym (ap bits_of looks_of_all) ∙ bits_of-looks_of 262143 (omega arith)
