-- The definitions of `specs/` that most proofs cite, passed on by one file. Declares nothing.
pub use Rattle.rsc_primitives.specs.Bits.{has_bit, mask_of}
pub use Rattle.rsc_primitives.specs.BitsLaws.{same_digit}
pub use Rattle.rsc_alphabet.specs.ByteSetLayout.{members_from, members_left, is_masked, masked}
pub use Rattle.rsc_alphabet.specs.ByteSets.{Numbers, begins_run, ends_run, runs, members, IsMaximalRun}
pub use Rattle.rsc_alphabet.specs.ByteSetsLaws.{contains-masked, is_masked-low, is_masked-high, low_again, high_again}
pub use Rattle.rsc_alphabet.specs.Bytes.{from_to, bytes}
pub use Rattle.rsc_alphabet.specs.BytesLaws.{from_to_none, filter_none, filter_same, filter_parts, filter_at, from_to_first, length-from_to, get_or-from_to, filter_first, from_to_last, filter_skip}
pub use Rattle.rsc_alphabet.specs.IteratorLayout.{symbols_left, elements_left}
pub use Rattle.rsc_alphabet.specs.Iterators.{end_symbol, symbols, elements_of, representing, end_if_unbounded, representatives_of, class_at}
pub use Rattle.rsc_alphabet.specs.Partitions.{class_of, boundaries_of_range, boundaries_of_ranges, is_boundary_of_set, LastClassIsGreatest, class_map, AreTogether}
pub use Rattle.rsc_alphabet.specs.PartitionsLaws.{class_of_more, class_of_none, contains-boundaries_of_range, contains-joined, contains-inserted, contains-removed, class_map_is, class_of_same, same_class-together, class_of-rises, slice_index-class_map, class_of-between, class_map-bounded, class_of-le, class_map_same}
pub use Rattle.rsc_alphabet.specs.Ranges.{holds, treats_alike, are_alike, are_among, has_boundary}
pub use Rattle.rsc_alphabet.specs.SameMembers.{same_bools, same_from, same_to}
pub use Rattle.rsc_alphabet.specs.Symbols.{Symbol, byte, end_of_input, byte_of, number_of}
