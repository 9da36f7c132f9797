-- Boundaries of maps from bytes to classes, and the items that shares are of.
use Rattle.std.specs.Prelude.{ℕ, ◌+◌, ◌==◌, Bool, not, ◌&&◌, List, ◌++◌, map, slice_index}
use Rattle.rsc_look.specs.declared.assertion.Look.{Look}
use Rattle.rsc_show.specs.declared.shares.Item.{Item}

-- the byte b and the next one are in different classes
abbrev pub differ_at : List ℕ → ℕ → Bool
differ_at classes b = not (slice_index classes b == slice_index classes (b + 1))

-- and in one class of the other map
abbrev pub exceeds : List ℕ → List ℕ → ℕ → Bool
exceeds classes others b = differ_at classes b && not (differ_at others b)

-- the item of an assertion, and that of a range
abbrev pub look_item : Look → Item
look_item l = Item.Look l

abbrev pub range_item : ℕ × ℕ → Item
range_item r = Item.Range r.0 r.1
