-- The boundaries between bytes that an assertion can tell apart.
use Rattle.std.specs.Prelude.{ℕ, List, [], ◌∷◌}
use Rattle.std.specs.FinSet as sets
use Rattle.rsc_alphabet.specs.ByteSets.{Numbers}
use Rattle.rsc_alphabet.specs.Partitions.{boundaries_of_range}
use Rattle.rsc_look.specs.declared.assertion.Look.{Look}
use Rattle.rsc_look.specs.declared.assertion.Look.TheVariants.{Start, End, StartLF, EndLF, StartCRLF, EndCRLF}
use Rattle.rsc_look.specs.Looks.{line_feed, carriage_return}

-- where word bytes and other bytes meet: at the ends of `0-9`, `A-Z`, `_` and `a-z`
unfoldable pub word_byte_boundaries : Numbers
word_byte_boundaries = sets.from_list (0x2F ∷ 0x39 ∷ 0x40 ∷ 0x5A ∷ 0x5E ∷ 0x5F ∷ 0x60 ∷ 0x7A ∷ [])

-- the boundaries of an assertion, for the line terminator t
abbrev pub boundaries_of_look : Look → ℕ → Numbers
boundaries_of_look Start t = sets.empty
boundaries_of_look End t = sets.empty
boundaries_of_look StartLF t = boundaries_of_range (t, t)
boundaries_of_look EndLF t = boundaries_of_range (t, t)
boundaries_of_look StartCRLF t = sets.union (boundaries_of_range (carriage_return, carriage_return)) (boundaries_of_range (line_feed, line_feed))
boundaries_of_look EndCRLF t = sets.union (boundaries_of_range (carriage_return, carriage_return)) (boundaries_of_range (line_feed, line_feed))
boundaries_of_look _ t = word_byte_boundaries

-- the boundaries of all members of a list
abbrev pub boundaries_of_looks : List Look → ℕ → Numbers
boundaries_of_looks [] t = sets.empty
boundaries_of_looks (l ∷ rest) t = sets.union (boundaries_of_look l t) (boundaries_of_looks rest t)
