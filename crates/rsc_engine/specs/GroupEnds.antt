-- The group of the whole match: what runs record in its slots.
use Rattle.std.specs.Prelude.{◌≡◌, ℕ, ◌+◌, ◌*◌, ◌<◌, Bool, List, length, Some, None}
use Rattle.rsc_search.specs.Inputs.{InputParts}
use Rattle.rsc_search.specs.Matches.{Matched}
use Rattle.rsc_nfa.specs.Steps.{recorded}
use Rattle.rsc_engine.specs.Searches.{Compiled, search_in}
use Rattle.rsc_engine.specs.Runs.{IsMatchRun, IsMatchOf}

-- in every input, each run from the start state to a match records the match's start and end in the two slots of its pattern's first group, and nothing in
-- the slots of other patterns' first groups
pub record RecordsEnds {W : Type 0} (chars : W → ℕ → Bool) (program : Compiled W) : Type 0 where
  pub start : (input : InputParts) (run : List (ℕ × ℕ)) (found : Matched) →
      IsMatchRun (search_in chars program input) (program.start, found.span.start) run → IsMatchOf (search_in chars program input) run found →
      recorded program.automaton.states run (2 * found.pattern) ≡ Some found.span.start
  pub end : (input : InputParts) (run : List (ℕ × ℕ)) (found : Matched) →
      IsMatchRun (search_in chars program input) (program.start, found.span.start) run → IsMatchOf (search_in chars program input) run found →
      recorded program.automaton.states run (2 * found.pattern + 1) ≡ Some found.span.end
  pub others : (input : InputParts) (run : List (ℕ × ℕ)) (found : Matched) (slot : ℕ) →
      IsMatchRun (search_in chars program input) (program.start, found.span.start) run → IsMatchOf (search_in chars program input) run found →
      slot < 2 * length program.automaton.groups → ¬ (slot ≡ 2 * found.pattern) → ¬ (slot ≡ 2 * found.pattern + 1) →
      recorded program.automaton.states run slot ≡ None
