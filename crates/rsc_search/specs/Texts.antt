-- The texts of the errors.
use Rattle.std.specs.Prelude.{List, ℕ, ◌++◌, codes}
use Rattle.std.specs.Fmt.{decimal}
use Rattle.rsc_primitives.specs.Escapes.{byte_text}
use Rattle.rsc_search.specs.declared.anchored.Anchored.{Anchored}
use Rattle.rsc_search.specs.declared.anchored.Anchored.TheVariants.{No, Yes, Pattern}
use Rattle.rsc_search.specs.declared.error.MatchErrorKind.{MatchErrorKind}
use Rattle.rsc_search.specs.declared.error.MatchErrorKind.TheVariants.{Quit, GaveUp, HaystackTooLong, UnsupportedAnchored}
use Rattle.rsc_search.specs.PatternSets.{RefusedInsertion}

-- what a refused mode displays
abbrev pub unsupported_text : Anchored → List ℕ
unsupported_text Yes = codes "anchored searches are not supported or enabled"
unsupported_text No = codes "unanchored searches are not supported or enabled"
unsupported_text (Pattern p) = codes "anchored searches for a specific pattern (" ++ (decimal p ++ codes ") are not supported or enabled")

-- what a `MatchError` displays
abbrev pub match_error_text : MatchErrorKind → List ℕ
match_error_text (Quit byte offset) = codes "quit search after observing byte " ++ (byte_text byte ++ (codes " at offset " ++ decimal offset))
match_error_text (GaveUp offset) = codes "gave up searching at offset " ++ decimal offset
match_error_text (HaystackTooLong len) = codes "haystack of length " ++ (decimal len ++ codes " is too long")
match_error_text (UnsupportedAnchored mode) = unsupported_text mode

-- what a `PatternSetInsertError` displays
abbrev pub refused_insertion_text : RefusedInsertion → List ℕ
refused_insertion_text e =
    codes "failed to insert pattern ID " ++ (decimal e.attempted ++ (codes " into pattern set with insufficient capacity of " ++ decimal e.capacity))
