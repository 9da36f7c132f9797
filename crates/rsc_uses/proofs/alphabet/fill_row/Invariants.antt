use Rattle.std.proofs.Common.{◌≡◌, ◌≤◌, ◌+◌, ℕ, length, slice_index}
use Rattle.rsc_alphabet.specs.Symbols.{number_of}
use Rattle.rsc_alphabet.specs.Iterators.{symbols}
use Rattle.rsc_uses.proofs.AlphabetLemmas.{Awaits}
use Rattle.rsc_uses.proofs.alphabet.fill_row.Given as goal

-- each unit is still to come, or its entry is marked; the entries after them are as they were
abbrev pub invariant-loop-unit : goal.invariant-loop-unit
invariant-loop-unit l =
    (goal.iterator-loop-unit).can_next l.unit-iterator × (goal.iterator-loop-unit).is_finite l.unit-iterator
    × (length l.row ≡ length l.fn.row)
    × Awaits number_of (λ _. 1) l.row l.unit-iterator (symbols l.map)
    × ((k : ℕ) → slice_index l.map 255 + 2 ≤ k → slice_index l.row k ≡ slice_index l.fn.row k)
