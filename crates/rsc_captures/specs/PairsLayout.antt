-- Where a group's slots are looked for. These serve the proof of `captures`; no public contract cites them.
use Rattle.std.specs.Prelude.{◌≡◌, ℕ, ◌+◌, ◌*◌, ◌<◌, ◌==◌, nat_lt, Option, Some, None, if◌then◌else◌, option_and_then}
use Rattle.rsc_captures.specs.Groups.{GroupLists, group_count, slot_number}
use Rattle.rsc_captures.specs.Captured.{first_slot}

-- the slot, where it and the next are among the first n
abbrev pub slot_within : ℕ → ℕ → Option ℕ
slot_within n slot = if nat_lt (slot + 1) n then Some slot else None

-- the pair of group i: that of the first group is given by itself
abbrev pub pair_number : ℕ → ℕ → ℕ → ℕ
pair_number first rest i = if i == 0 then first else rest + i

-- the first slot of group i, where there are that many groups
abbrev pub slot_by_pairs : ℕ → ℕ → ℕ → ℕ → Option ℕ
slot_by_pairs count first rest i = if nat_lt i count then Some (2 * pair_number first rest i) else None

-- each group of the pattern whose slots are among the first n has them there
abbrev pub ArePairs : GroupLists → Option ℕ → ℕ → ℕ → ℕ → ℕ → Type 0
ArePairs groups pattern n count first rest = (i : ℕ) →
    option_and_then (λ q. option_and_then (slot_within n) (first_slot groups q i)) pattern ≡ slot_by_pairs count first rest i

-- the pair of each group of the pattern but the first is its number plus this
abbrev pub IsRest : GroupLists → ℕ → ℕ → Type 0
IsRest groups q rest = (i : ℕ) → i + 1 < group_count groups q → slot_number groups q (i + 1) ≡ 2 * (rest + (i + 1))
