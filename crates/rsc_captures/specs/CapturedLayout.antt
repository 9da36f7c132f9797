-- What is left of the groups of a match, from one of them on.
use Rattle.std.specs.Prelude.{ℕ, ◌-◌, List, map, Option}
use Rattle.std.specs.List.{filter_map, range_with_len}
use Rattle.rsc_search.specs.declared.span.Span.{Span}
use Rattle.rsc_captures.specs.Captured.{Captured, group_span, matched_group_count}

-- the span of each group of the pattern that matched, from i on
abbrev pub spans_from : Captured → ℕ → List (Option Span)
spans_from c i = map (group_span c) (range_with_len i (matched_group_count c - i))

-- the spans of the groups from i on that participate in the match, in order
abbrev pub participating_from : Captured → ℕ → List Span
participating_from c i = filter_map (group_span c) (range_with_len i (matched_group_count c - i))
