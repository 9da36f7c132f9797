-- Texts with spans of them replaced.
use Rattle.std.specs.Prelude.{ℕ, List, [], ◌∷◌, ◌++◌, drop, nat_le, slice_range, if◌then◌else◌}
use Rattle.rsc_search.specs.declared.span.Span.{Span}

-- the haystack from a position on with each of the spans replaced: the bytes before the first, the replacement, and so on from where that
-- span ends. A span that begins before the position is passed over.
abbrev pub replaced : List ℕ → List ℕ → ℕ → List Span → List ℕ
replaced haystack replacement from [] = drop from haystack
replaced haystack replacement from (s ∷ rest) =
    if nat_le from s.start
    then slice_range haystack from s.start ++ (replacement ++ replaced haystack replacement s.end rest)
    else replaced haystack replacement from rest
