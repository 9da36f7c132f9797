-- Where groups begin and end.
use Rattle.std.specs.Prelude.{◌≡◌, ℕ, ◌+◌, ◌*◌, ◌≤◌, Bool, List, Some}
use Rattle.rsc_search.specs.Inputs.{InputParts}
use Rattle.rsc_nfa.specs.Steps.{recorded}
use Rattle.rsc_engine.specs.Searches.{Compiled, search_in}
use Rattle.rsc_engine.specs.Runs.{IsMatchRun}

-- in every input, each run from the start state to a match that records in a slot 2k also records in the slot 2k + 1, at that position or later
pub record ClosesGroups {W : Type 0} (chars : W → ℕ → Bool) (program : Compiled W) : Type 0 where
  pub closed : (input : InputParts) (run : List (ℕ × ℕ)) (at pair i : ℕ) → IsMatchRun (search_in chars program input) (program.start, at) run →
      recorded program.automaton.states run (2 * pair) ≡ Some i →
      (j : ℕ) × (recorded program.automaton.states run (2 * pair + 1) ≡ Some j) × (i ≤ j)
