-- How paths of states take a course: a choice's number is that of its fork.
use Rattle.std.specs.Prelude.{◌≡◌, ℕ, ◌≤◌, List, length}
use Rattle.rsc_nfa.specs.declared.state.State.{State}
use Rattle.rsc_engine.specs.Patterns.{Subject}
use Rattle.rsc_engine.specs.Courses.{Course, Stand, GoesOnce, IsFirstOnce}
use Rattle.rsc_engine.specs.PathsLayout.{IsPath, HasPath, Least, arrive}

-- the course goes to where a path that isn't longer leads on from the state `next`, to the same end
pub record Through (states : List State) (x : Subject) (end m next : ℕ) (c : Course) (s : Stand) (most : ℕ) (last : ℕ × Stand) : Type 0 where
  pub to : Stand
  pub rest : List ℕ
  pub goes : GoesOnce x c s to
  pub path : IsPath states x end m next to rest
  pub ends : arrive states next to rest ≡ last
  pub fewer : length rest ≤ most

-- the course goes its first way from which a path leads on; the first such path comes to the same end
pub record FirstThrough (states : List State) (x : Subject) (end m next : ℕ) (c : Course) (s : Stand) (most : ℕ) (last : ℕ × Stand) : Type 0 where
  pub to : Stand
  pub rest : List ℕ
  pub first : IsFirstOnce x c (HasPath states x end m next) s to
  pub least : Least states x end m next to rest
  pub ends : arrive states next to rest ≡ last
  pub fewer : length rest ≤ most

-- paths from the state `first` go by the course and then on from the state `next`, and the first one goes its first way
pub record Follows (states : List State) (first next : ℕ) (c : Course) : Type 0 where
  pub through : (x : Subject) (end m : ℕ) (s : Stand) (rest : List ℕ) → IsPath states x end m first s rest →
      Through states x end m next c s (length rest) (arrive states first s rest)
  pub back : (x : Subject) (end m : ℕ) (s t : Stand) → GoesOnce x c s t → HasPath states x end m next t → HasPath states x end m first s
  pub goes : (x : Subject) (end m : ℕ) (s : Stand) (rest : List ℕ) → Least states x end m first s rest →
      FirstThrough states x end m next c s (length rest) (arrive states first s rest)
