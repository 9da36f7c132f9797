-- Which match of a program's patterns is preferred.
use Rattle.std.specs.Prelude.{◌≡◌, ℕ, ◌<◌, ◌≤◌, Bool, true, List, [], slice_get, Some}
use Rattle.rsc_nfa.specs.Steps.{place, recorded}
use Rattle.rsc_search.specs.Inputs.{InputParts}
use Rattle.rsc_search.specs.Matches.{Matched}
use Rattle.rsc_engine.specs.Searches.{Compiled, search_in}
use Rattle.rsc_engine.specs.Runs.{IsMatchRun, IsMatchOf}
use Rattle.rsc_engine.specs.Preferred.{IsPreferredTo, IsPreferred}
use Rattle.rsc_engine.specs.Patterns.{Pattern, subject_of}
use Rattle.rsc_engine.specs.FirstEnds.{loops_take_bytes, IsFirstEnd}
use Rattle.rsc_engine.specs.Ways.{last_in, GoesWith}
use Rattle.rsc_engine.specs.FirstWays.{IsFirstWay}
use Rattle.rsc_engine.specs.GroupNumbers.{as_whole}
use Rattle.rsc_engine.specs.PreferredWays.{IsPreferredWay}

-- in every input, a run to a match of a lesser pattern is preferred to one from the same position to a match of another; both begin in the start state
pub record PrefersLesser {W : Type 0} (chars : W → ℕ → Bool) (program : Compiled W) : Type 0 where
  pub lesser : (input : InputParts) (one other : List (ℕ × ℕ)) (found beaten : Matched) →
      IsMatchRun (search_in chars program input) (program.start, found.span.start) one → IsMatchOf (search_in chars program input) one found →
      IsMatchRun (search_in chars program input) (program.start, found.span.start) other → IsMatchOf (search_in chars program input) other beaten →
      found.pattern < beaten.pattern → IsPreferredTo (search_in chars program input) one other

-- in every input, the match of a preferred run ends at the first end of its pattern in the span, if the pattern's loops take bytes
pub record PrefersFirstEnds {W : Type 0} (chars : W → ℕ → Bool) (program : Compiled W) (patterns : List Pattern) : Type 0 where
  pub first : (input : InputParts) (run : List (ℕ × ℕ)) (found : Matched) (p : Pattern) →
      IsPreferred (search_in chars program input) (program.start, (place run 0).1) run → IsMatchOf (search_in chars program input) run found →
      slice_get patterns found.pattern ≡ Some p → loops_take_bytes p ≡ true →
      IsFirstEnd (subject_of (search_in chars program input)) p (λ j. j ≤ input.span.end) found.span.start found.span.end

-- in every input, a preferred run records in each slot what the first way of its pattern in the span records there last, if the pattern's loops take bytes
pub record RecordsFirstWays {W : Type 0} (chars : W → ℕ → Bool) (program : Compiled W) (patterns : List Pattern) : Type 0 where
  pub first : (input : InputParts) (run : List (ℕ × ℕ)) (found : Matched) (p : Pattern) →
      IsPreferred (search_in chars program input) (program.start, (place run 0).1) run → IsMatchOf (search_in chars program input) run found →
      slice_get patterns found.pattern ≡ Some p → loops_take_bytes p ≡ true →
      (records : List (ℕ × ℕ)) × IsFirstWay (subject_of (search_in chars program input)) (as_whole program.automaton.groups found.pattern p)
      (λ j. j ≤ input.span.end) (found.span.start, []) (found.span.end, records)
      × ((slot : ℕ) → recorded program.automaton.states run slot ≡ last_in records slot)

-- in every input, a run to a match of a pattern goes on a way of the pattern, and records in each slot what that way records there last
pub record RecordsWays {W : Type 0} (chars : W → ℕ → Bool) (program : Compiled W) (patterns : List Pattern) : Type 0 where
  pub way : (input : InputParts) (run : List (ℕ × ℕ)) (found : Matched) (p : Pattern) →
      IsMatchRun (search_in chars program input) (program.start, found.span.start) run → IsMatchOf (search_in chars program input) run found →
      slice_get patterns found.pattern ≡ Some p →
      (records : List (ℕ × ℕ)) × GoesWith (subject_of (search_in chars program input)) (as_whole program.automaton.groups found.pattern p)
      (found.span.start, []) (found.span.end, records) × ((slot : ℕ) → recorded program.automaton.states run slot ≡ last_in records slot)

-- in every input, a preferred run goes its pattern's preferred way in the span, and records in each slot what that way records there last
pub record RecordsPreferredWays {W : Type 0} (chars : W → ℕ → Bool) (program : Compiled W) (patterns : List Pattern) : Type 0 where
  pub preferred : (input : InputParts) (run : List (ℕ × ℕ)) (found : Matched) (p : Pattern) →
      IsPreferred (search_in chars program input) (program.start, (place run 0).1) run → IsMatchOf (search_in chars program input) run found →
      slice_get patterns found.pattern ≡ Some p →
      (records : List (ℕ × ℕ)) × IsPreferredWay (subject_of (search_in chars program input)) (as_whole program.automaton.groups found.pattern p)
      (λ j. j ≤ input.span.end) found.span.start found.span.end records
      × ((slot : ℕ) → recorded program.automaton.states run slot ≡ last_in records slot)
