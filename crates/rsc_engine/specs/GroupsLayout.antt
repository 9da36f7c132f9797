-- Slots without a match, and with the ends of one alone.
use Rattle.std.specs.Prelude.{◌≡◌, ℕ, ◌+◌, ◌*◌, ◌<◌, ◌==◌, List, length, slice_index_or, Option, Some, None, if◌then◌else◌}
use Rattle.rsc_search.specs.declared.span.Span.{Span}

-- each slot is empty
abbrev pub AreEmpty : List (Option ℕ) → Type 0
AreEmpty slots = (s : ℕ) → s < length slots → slice_index_or slots s None ≡ None

-- of a match of pattern p, what stands in a slot of the patterns' first groups
abbrev pub end_in : ℕ → Span → ℕ → Option ℕ
end_in p span s = if 2 * p + 1 == s then Some span.end else if 2 * p == s then Some span.start else None

-- each slot holds that
abbrev pub HoldEnds : ℕ → Span → List (Option ℕ) → Type 0
HoldEnds p span slots = (s : ℕ) → s < length slots → slice_index_or slots s None ≡ end_in p span s
