-- By which ways of a pattern steps lead to its match, and by which the first path does.
use Rattle.std.specs.Prelude.{◌≡◌, ℕ, ◌*◌, ◌<◌, ◌≤◌, List, length, slice_get, slice_index_or, Some}
use Rattle.rsc_nfa.specs.declared.state.State.{State}
use Rattle.rsc_engine.specs.Patterns.{Pattern, Group, Subject}
use Rattle.rsc_engine.specs.Ways.{Point, GoesWith}
use Rattle.rsc_engine.specs.GroupNumbers.{numbered}
use Rattle.rsc_engine.specs.WaysLayout.{AreStepsTo, finish}
use Rattle.rsc_engine.specs.Courses.{Course, Stand, IsFirstOnce}
use Rattle.rsc_engine.specs.PreferredWays.{HasCourse, choices}
use Rattle.rsc_engine.specs.PathsLayout.{Least, arrive}

-- the position at which steps end, and what they record
abbrev pub point_of : (ℕ × ℕ) × List (ℕ × ℕ) → Point
point_of last = (last.0.1, last.1)

-- the first way of a course up to an end leads from the one to a position and records, which are these
abbrev pub TakesFirst : Subject → Course → ℕ → Stand → Stand → Type 0
TakesFirst x c end s last = (t : Stand) × IsFirstOnce x c (λ k. k.at ≤ end) s t × (t.at ≡ last.at) × (t.records ≡ last.records)

-- p is the pattern with the number m, and its groups have these slots: then steps from the state `first` to its match go by the pattern, and the first path
-- goes the first way of a course of it, whose choices are forks below `high`
pub record OrdersOne (states : List State) (slot_of : ℕ → ℕ) (high first m : ℕ) (p : Pattern) : Type 0 where
  pub through : (x : Subject) (end : ℕ) (from : Point) (rest : List (ℕ × ℕ)) → AreStepsTo states x end m (first, from.0) rest →
      GoesWith x (Group (2 * m) (numbered slot_of 1 p)) from (point_of (finish states (first, from.0) rest from.1))
  pub course : HasCourse (Group (2 * m) (numbered slot_of 1 p))
  pub below : (k d : ℕ) → k < length (choices course.course) → slice_index_or (choices course.course) k d < high
  pub takes : (x : Subject) (end : ℕ) (s : Stand) (rest : List ℕ) → Least states x end m first s rest →
      TakesFirst x course.course end s (arrive states first s rest).1

-- this holds for each of the patterns from a number on; a group of a pattern has a slot
abbrev pub OrdersSome : List State → (ℕ → ℕ → ℕ) → ℕ → ℕ → ℕ → List Pattern → Type 0
OrdersSome states slot_of high first from patterns =
    (m : ℕ) (p : Pattern) → from ≤ m → slice_get patterns m ≡ Some p → OrdersOne states (slot_of m) high first m p
