-- How paths of states take a course of a pattern.
use Rattle.std.specs.Prelude.{◌≡◌, ℕ, ◌<◌, ◌≤◌, List, length, slice_index_or}
use Rattle.std.specs.List.{AllPairs}
use Rattle.rsc_nfa.specs.declared.state.State.{State}
use Rattle.rsc_engine.specs.Patterns.{Pattern}
use Rattle.rsc_engine.specs.Courses.{Course}
use Rattle.rsc_engine.specs.PreferredWays.{IsCourseOf, choices}
use Rattle.rsc_engine.specs.CoursesLayout.{Follows}

-- these are numbers from low on and below high, and none is there twice
pub record AreNumbers (low high : ℕ) (numbers : List ℕ) : Type 0 where
  pub within : (k d : ℕ) → k < length numbers → (low ≤ slice_index_or numbers k d) × (slice_index_or numbers k d < high)
  pub apart : AllPairs (λ v w. ¬ (v ≡ w)) numbers

-- paths from the state `first` go by a course of the pattern and then on from the state `next`; its choices are forks from low on and below high
pub record TakesCourse (low high first next : ℕ) (p : Pattern) (states : List State) : Type 0 where
  pub course : Course
  pub is : IsCourseOf p course
  pub follows : Follows states first next course
  pub numbers : AreNumbers low high (choices course)
