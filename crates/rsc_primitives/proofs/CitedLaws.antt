-- The lemmas of `specs/` that laws state, under names that a source can cite. Declares nothing.
pub use Rattle.rsc_primitives.specs.DecodingLaws.{IsCharBoundary-EncodesAll as is_char_boundary_encoded}
pub use Rattle.rsc_primitives.specs.Utf8Laws.{Encodes-std as encodes_std, EncodesAll-std as encodes_all_std, Encodes-no_more as encodes_no_more, Encodes-past_ascii as encodes_past_ascii}
