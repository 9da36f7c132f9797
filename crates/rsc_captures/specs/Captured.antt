-- What captures hold: the groups, the pattern that matched, if there is one, and an offset, if it is set, in each slot.
use Rattle.std.specs.Prelude.{ℕ, ◌+◌, ◌*◌, ◌<◌, ◌==◌, nat_lt, ◌-◌, ◌^◌, List, [], ◌∷◌, ◌++◌, length, take, drop, map, replicate, slice_index_or, slice_set, Option, Some, None, if◌then◌else◌, option_and_then}
use Rattle.std.specs.Option.{option_map, option_map_or}
use Rattle.std.specs.List.{filter_map, range_with_len}
use Rattle.rsc_search.specs.declared.span.Span.{Span}
use Rattle.rsc_search.specs.Matches.{Matched}
use Rattle.rsc_captures.specs.Groups.{GroupLists, groups_of, group_count, slot_of, index_of}

-- what a contract sees of captures: the groups, the pattern that matched, if there is one, and for each slot its offset, if it is set
pub record Captured : Type 0 where
  pub groups : GroupLists
  pub pattern : Option ℕ
  pub offsets : List (Option ℕ)

-- the span whose offsets are in a slot and the next, if both are there and set
abbrev pub span_at : List (Option ℕ) → ℕ → Option Span
span_at offsets slot =
    option_and_then (λ from. option_map (λ to. record { start = from; end = to }) (slice_index_or offsets (slot + 1) None))
    (slice_index_or offsets slot None)

-- the first slot of group i of pattern q; where there is one pattern, whatever q is, and whether it has the group or not
abbrev pub first_slot : GroupLists → ℕ → ℕ → Option ℕ
first_slot groups q i = if length groups == 1 then Some (2 * i) else slot_of groups q i

-- the span of group i; none where no pattern matched
abbrev pub group_span : Captured → ℕ → Option Span
group_span c i = option_and_then (λ q. option_and_then (span_at c.offsets) (first_slot c.groups q i)) c.pattern

-- the first slot of group i of the pattern that matched, where the captures have both slots of the group
abbrev pub slot_present : Captured → ℕ → Option ℕ
slot_present c i =
    option_and_then (λ q. option_and_then (λ slot. if nat_lt (slot + 1) (length c.offsets) then Some slot else None) (first_slot c.groups q i)) c.pattern

-- the offsets with those of a span in a slot and the next, or with neither set
abbrev pub with_span : List (Option ℕ) → ℕ → Option Span → List (Option ℕ)
with_span offsets slot span =
    slice_set (slice_set offsets slot (option_map (λ s. s.start) span)) (slot + 1) (option_map (λ s. s.end) span)

-- both offsets can stand in slots
abbrev pub FitsSlots : Span → Type 0
FitsSlots s = (s.start < 2 ^ 64 - 1) × (s.end < 2 ^ 64 - 1)

-- the span of the group that has the name in the pattern that matched
abbrev pub named_span : Captured → List ℕ → Option Span
named_span c name = option_and_then (group_span c) (option_and_then (λ q. index_of (groups_of c.groups q) name) c.pattern)

-- captures without a pattern, with that many slots, none of them set
abbrev pub unset_captures : GroupLists → ℕ → Captured
unset_captures groups count = record { groups = groups; pattern = None; offsets = replicate count None }

-- how many groups the pattern has that matched
abbrev pub matched_group_count : Captured → ℕ
matched_group_count c = option_map_or (group_count c.groups) c.pattern 0

-- the span of each group of the pattern that matched
abbrev pub matched_spans : Captured → List (Option Span)
matched_spans c = map (group_span c) (range_with_len 0 (matched_group_count c))

-- the spans of the groups that participate in the match, in order
abbrev pub participating_spans : Captured → List Span
participating_spans c = filter_map (group_span c) (range_with_len 0 (matched_group_count c))

-- the values, where each is there
abbrev pub all_some : {X : Type 0} → List (Option X) → Option (List X)
all_some [] = Some []
all_some (x ∷ xs) = option_and_then (λ y. option_map (λ ys. y ∷ ys) (all_some xs)) x

-- what the first n of the spans cut out, where there are n of them and each cuts
abbrev pub pieces : (Span → Option (List ℕ)) → ℕ → List Span → Option (List (List ℕ))
pieces cut n spans = if length (take n spans) == n then all_some (map cut (take n spans)) else None

-- the new offsets, in as many slots as before: a lent slice keeps its length, and then these are the new offsets
abbrev pub refilled : List (Option ℕ) → List (Option ℕ) → List (Option ℕ)
refilled old new = take (length old) (new ++ drop (length new) old)

-- the match: the pattern, and the span of its first group
abbrev pub match_of : Captured → Option Matched
match_of c = option_and_then (λ q. option_map (λ s. record { pattern = q; span = s }) (group_span c 0)) c.pattern
