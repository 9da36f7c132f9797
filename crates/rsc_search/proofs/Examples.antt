-- The definitions, computed at single values.
use Rattle.std.proofs.Common.{◌≡◌, [], ◌∷◌, true, false, Some, None, refl, codes}
use Rattle.std.specs.Fmt.{digits}
use Rattle.std.specs.declared.ops.Bound.TheVariants.{Included, Excluded, Unbounded}
use Rattle.rsc_search.specs.declared.anchored.Anchored.TheVariants.{Pattern}
use Rattle.rsc_search.specs.declared.error.MatchErrorKind.TheVariants.{Quit, UnsupportedAnchored}
use Rattle.rsc_search.specs.Inputs.{span_between}
use Rattle.rsc_search.specs.PatternSets.{no_patterns, with_member, same_patterns}
use Rattle.rsc_search.specs.Spans.{cut, cut_text, is_char_boundary}
use Rattle.rsc_search.specs.Texts.{match_error_text, refused_insertion_text}

zero_and_two : with_member (with_member (no_patterns 3) 2) 0 ≡ record { capacity = 3; members = 0 ∷ 2 ∷ [] }
zero_and_two = refl

again : with_member (with_member (no_patterns 3) 2) 2 ≡ record { capacity = 3; members = 2 ∷ [] }
again = refl

other_capacity : same_patterns (with_member (no_patterns 1) 0) (with_member (no_patterns 2) 0) ≡ false
other_capacity = refl

none_of_none : same_patterns (no_patterns 0) (no_patterns 0) ≡ true
none_of_none = refl

excluded_and_included : span_between (Excluded 0) (Included 1) 3 ≡ record { start = 1; end = 2 }
excluded_and_included = refl

unbounded : span_between Unbounded (Excluded 2) 3 ≡ record { start = 0; end = 2 }
unbounded = refl

nothing_at_the_end : cut (codes "abc") (record { start = 3; end = 3 }) ≡ Some []
nothing_at_the_end = refl

reversed : cut (codes "abc") (record { start = 3; end = 2 }) ≡ None
reversed = refl

past_the_end : cut (codes "abc") (record { start = 1; end = 4 }) ≡ None
past_the_end = refl

-- C3 A9 is e with an acute accent
whole_character : cut_text (0xC3 ∷ 0xA9 ∷ []) (record { start = 0; end = 2 }) ≡ Some (0xC3 ∷ 0xA9 ∷ [])
whole_character = refl

inside_at_the_end : cut_text (0xC3 ∷ 0xA9 ∷ []) (record { start = 0; end = 1 }) ≡ None
inside_at_the_end = refl

inside_at_the_start : cut_text (0xC3 ∷ 0xA9 ∷ []) (record { start = 1; end = 2 }) ≡ None
inside_at_the_start = refl

char_boundary_past_the_end : is_char_boundary (0xF0 ∷ 0x9D ∷ 0x9B ∷ 0x83 ∷ []) 5 ≡ false
char_boundary_past_the_end = refl

char_boundary_inside : is_char_boundary (0xF0 ∷ 0x9D ∷ 0x9B ∷ 0x83 ∷ []) 1 ≡ false
char_boundary_inside = refl

char_boundary_at_the_end : is_char_boundary (0xF0 ∷ 0x9D ∷ 0x9B ∷ 0x83 ∷ []) 4 ≡ true
char_boundary_at_the_end = refl

quit_text : match_error_text (Quit 0xFF 3) ≡ codes "quit search after observing byte \\xFF at offset 3"
unfolding digits
quit_text = refl

quit_at_a_space : match_error_text (Quit 0x20 0) ≡ codes "quit search after observing byte ' ' at offset 0"
unfolding digits
quit_at_a_space = refl

unsupported_pattern : match_error_text (UnsupportedAnchored (Pattern 4)) ≡ codes "anchored searches for a specific pattern (4) are not supported or enabled"
unfolding digits
unsupported_pattern = refl

refused : refused_insertion_text (record { attempted = 3; capacity = 3 })
    ≡ codes "failed to insert pattern ID 3 into pattern set with insufficient capacity of 3"
unfolding digits
refused = refl
