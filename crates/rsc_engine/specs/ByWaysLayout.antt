-- By which ways of a pattern steps lead to a match.
use Rattle.std.specs.Prelude.{◌≡◌, ℕ, ◌≤◌, List, length}
use Rattle.rsc_nfa.specs.declared.state.State.{State}
use Rattle.rsc_engine.specs.Patterns.{Pattern, Subject}
use Rattle.rsc_engine.specs.Ways.{Point, GoesWith}
use Rattle.rsc_engine.specs.WaysLayout.{AreStepsTo, finish}

-- a pattern goes to a point from which steps lead from the state `next` to a match, at most `most` of them, to the place `last`, with these records
pub record GoesOnWith (states : List State) (x : Subject) (end m next : ℕ) (p : Pattern) (from : Point)
    (most : ℕ) (last : (ℕ × ℕ) × List (ℕ × ℕ)) : Type 0 where
  pub to : Point
  pub rest : List (ℕ × ℕ)
  pub goes : GoesWith x p from to
  pub way : AreStepsTo states x end m (next, to.0) rest
  pub ends : finish states (next, to.0) rest to.1 ≡ last
  pub fewer : length rest ≤ most

-- steps from the state `first` to a match go by the pattern, and record what it does
pub record ByWays (states : List State) (first next : ℕ) (p : Pattern) : Type 0 where
  pub through : (x : Subject) (end m : ℕ) (from : Point) (rest : List (ℕ × ℕ)) → AreStepsTo states x end m (first, from.0) rest →
      GoesOnWith states x end m next p from (length rest) (finish states (first, from.0) rest from.1)
