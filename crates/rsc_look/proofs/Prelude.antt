-- The definitions of `specs/` that most proofs cite, passed on by one file. Declares nothing.
pub use Rattle.rsc_primitives.specs.DecodingLaws.{BeginsAt-decided, EndsAt-decided}
pub use Rattle.rsc_primitives.specs.Utf8Laws.{EncodesAll-std, position, BeginsAt-position, EndsAt-position, IsInside-begins, IsInside-ends, AgreePastAscii, EncodedFrom-agree, BeginsAt-same, EndsAt-same}
pub use Rattle.rsc_primitives.specs.Utf8.{is_word_byte, IsInside, EncodedFrom, BeginsAt, EndsAt}
pub use Rattle.rsc_alphabet.specs.ByteSets.{Numbers}
pub use Rattle.rsc_alphabet.specs.Bytes.{from_to}
pub use Rattle.rsc_alphabet.specs.BytesLaws.{from_to_parts, filter_none, filter_first, filter_same}
pub use Rattle.rsc_alphabet.specs.Partitions.{AreTogether, HasBoundariesOf, class_map, boundaries_of_range, is_boundary_of_set}
pub use Rattle.rsc_alphabet.specs.PartitionsLaws.{contains-joined, contains-boundaries_of_range, class_map_same, union_none, union_assoc}
pub use Rattle.rsc_alphabet.specs.SameMembers.{same_members, same_bools, same_from, same_to}
pub use Rattle.rsc_look.specs.Boundaries.{boundaries_of_looks, boundaries_of_look, word_byte_boundaries}
pub use Rattle.rsc_look.specs.Holds.{byte_before, is_byte, is_word_neighbor, holds_at_bytes, byte_after, Holds, IsBefore, IsAfter, holds_at_sides, exactly_one, is_invalid, is_word_side, HoldsAtSides, is_absent_or_other}
pub use Rattle.rsc_look.specs.Keeping.{AreInterchanged, IsHaystack, DifferInAscii, Keeps, IsCoarsest, AgreesWithAscii, AgreesWhereAsked, Tells, IsNeeded, IsCoarsestMap, HasNeededBoundaries}
pub use Rattle.rsc_look.specs.KeepingLaws.{alike_alone, not_told, same_as_only, is_its_member}
pub use Rattle.rsc_look.specs.LookSetLaws.{look_cmp_total, repr_of-injective, contains-filtered, repr_of-look_at, bit_of-look_at, every_look-is, contains-looks_of, tied, look_cmp-IsAntisymmetric, same_looks, repr_of-pow, bit_of-lt, bits_of-looks_of, looks_of-bits_of, bits_of-lt, every_look_has}
pub use Rattle.rsc_look.specs.LookSetLayout.{bit_of, looks_of, look_at}
pub use Rattle.rsc_look.specs.LookSets.{look_cmp, Looks, members, bits_of}
pub use Rattle.rsc_look.specs.Looks.{repr_of, is_unicode, reversed, every_look}
pub use Rattle.rsc_look.specs.Mirrors.{is_crlf, exchanged, mirror, EndsFirst, IsTextMirrored}
pub use Rattle.rsc_look.specs.SideLayout.{IsSideOf}
pub use Rattle.rsc_look.specs.declared.assertion.Look.{Look}
pub use Rattle.rsc_look.specs.declared.assertion.Look.TheVariants.{Start, End, StartLF, EndLF, StartCRLF, EndCRLF, WordAscii, WordAsciiNegate, WordStartAscii, WordEndAscii, WordStartHalfAscii, WordEndHalfAscii, WordUnicode, WordUnicodeNegate, WordStartUnicode, WordEndUnicode, WordStartHalfUnicode, WordEndHalfUnicode}
pub use Rattle.rsc_look.specs.declared.side.Side.{Side}
pub use Rattle.rsc_look.specs.declared.side.Side.TheVariants.{Absent, Invalid, WordCharacter, Other}
