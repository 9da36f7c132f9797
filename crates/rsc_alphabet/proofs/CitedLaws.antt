-- The lemmas of `specs/` that laws state, under names that a source can cite. Declares nothing.
pub use Rattle.std.specs.Cmp.{nat_cmp_total as total}
pub use Rattle.std.specs.FinSet.{nat_cmp-IsAntisymmetric as exact}
pub use Rattle.rsc_alphabet.specs.PartitionsLaws.{class_map-together as class_map_together, class_map-bounded as last_class_is_greatest, class_map-rises as class_map_rises, class_of-le as class_of_le, class_reached, class_within, contains-boundaries as contains_boundaries, first_class, next_class}
pub use Rattle.rsc_alphabet.specs.SameMembers.{same_from, same_to}
