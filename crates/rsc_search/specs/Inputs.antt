-- What a search is given.
use Rattle.std.specs.Prelude.{ℕ, ◌+◌, ◌≤◌, Bool, false, List, length}
use Rattle.std.specs.declared.ops.Bound.{Bound}
use Rattle.std.specs.Range.Bound.{start_index, end_index}
use Rattle.rsc_search.specs.declared.span.Span.{Span}
use Rattle.rsc_search.specs.declared.anchored.Anchored.{Anchored}
use Rattle.rsc_search.specs.declared.anchored.Anchored.TheVariants.{No}

-- the bytes, the span of them to search, where a match may begin, and whether the first match found will do
pub record InputParts : Type 0 where
  pub haystack : List ℕ
  pub span : Span
  pub anchored : Anchored
  pub earliest : Bool

-- the span's end is a position of the haystack, and its start is at most one above its end
pub record IsSpanWithin (haystack : List ℕ) (span : Span) : Type 0 where
  pub within : span.end ≤ length haystack
  pub order : span.start ≤ span.end + 1

-- the input that searches the whole haystack
abbrev pub whole : List ℕ → InputParts
whole haystack = record { haystack = haystack; span = record { start = 0; end = length haystack }; anchored = No; earliest = false }

-- the span between two bounds, in a haystack of the given length
abbrev pub span_between : Bound ℕ → Bound ℕ → ℕ → Span
span_between start end len = record { start = start_index start; end = end_index end len }
