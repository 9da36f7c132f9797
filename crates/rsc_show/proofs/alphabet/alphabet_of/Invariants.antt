use Rattle.std.proofs.Common.{◌≡◌, ◌<◌, ◌⊎◌, ℕ, Bool, true, take}
use Rattle.std.specs.FinSet as sets
use Rattle.rsc_look.specs.Keeping.{Keeps}
use Rattle.rsc_show.specs.Chosen.{chosen_word_chars}
use Rattle.rsc_show.specs.Ranges.{HasBoundary, IsOfLook, PartsRanges}
use Rattle.rsc_show.proofs.alphabet.alphabet_of.Given as goal

-- whatever has the boundaries so far keeps the assertions so far and parts the ranges; each is a boundary or of a listed assertion
abbrev pub invariant-loop-look : goal.invariant-loop-look
invariant-loop-look l = ((q : ℕ → Bool) → ((b : ℕ) → b < 255 → sets.contains l.set b ≡ true → q b ≡ true)
    → Keeps q (take l.look-index l.looks) l.matcher.0 (chosen_word_chars l.matcher.1))
    × PartsRanges (sets.contains l.set) l.ranges
    × ((b : ℕ) → b < 255 → sets.contains l.set b ≡ true → HasBoundary b l.ranges ⊎ IsOfLook b l.looks l.matcher.0)
