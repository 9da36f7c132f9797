-- How the tables of the assertions that hold are read.
use Rattle.std.specs.Prelude.{ℕ, Bool, false, not, ◌&&◌, ◌==◌, Option, Some, None}
use Rattle.rsc_look.specs.declared.assertion.Look.{Look}
use Rattle.rsc_look.specs.declared.assertion.Look.TheVariants.{WordAscii, WordAsciiNegate, WordStartAscii, WordEndAscii, WordStartHalfAscii, WordEndHalfAscii}
use Rattle.rsc_look.specs.declared.side.Side.{Side}
use Rattle.rsc_look.specs.declared.side.Side.TheVariants.{Absent, Invalid, WordCharacter, Other}
use Rattle.rsc_look.specs.Looks.{line_feed, carriage_return}
use Rattle.rsc_look.specs.Holds.{exactly_one}

-- the assertion is one about words of ASCII, and holds, by whether a word byte is before, and whether one is after
abbrev pub holds_at_words : Look → Bool → Bool → Bool
holds_at_words WordAscii p n = exactly_one p n
holds_at_words WordAsciiNegate p n = not (exactly_one p n)
holds_at_words WordStartAscii p n = n && not p
holds_at_words WordEndAscii p n = p && not n
holds_at_words WordStartHalfAscii p n = not p
holds_at_words WordEndHalfAscii p n = not n
holds_at_words _ p n = false

-- a neighbour is there, and no line begins or ends beside it
abbrev pub is_within_line : ℕ → Option ℕ → Bool
is_within_line t None = false
is_within_line t (Some b) = not (b == t) && not (b == line_feed) && not (b == carriage_return)

-- the entry of a side in a table of sides
abbrev pub entry_of : Side → ℕ
entry_of Absent = 0
entry_of Invalid = 1
entry_of WordCharacter = 2
entry_of Other = 3
