-- A scan of an ordered list of states, and what a pass of such scans knows.
use Rattle.std.specs.Prelude.{◌≡◌, ℕ, ◌+◌, ◌<◌, ◌≤◌, Bool, true, false, List, [], ◌∷◌, slice_get, Option, Some, None}
use Rattle.rsc_nfa.specs.declared.state.State.TheVariants.{Fork}
use Rattle.rsc_engine.specs.Searches.{Search}
use Rattle.rsc_engine.specs.Runs.{Leads, IsPlace, accepts, HasNoMatchFrom}
use Rattle.rsc_engine.specs.Preferred.{HasNoFirstMatch}
use Rattle.rsc_engine.specs.RowsLayout.{AddsOne}
use Rattle.rsc_engine.specs.DecidesLayout.{IsMore, unseen, Decides, IsLastPlace}

-- no step from the state is a fork's
abbrev pub IsNoFork : Search → ℕ → Type 0
IsNoFork e s = (a b : ℕ) → slice_get e.states s ≡ Some (Fork a b) → ⊥

-- the states of a list are looked at in order: one that was seen is passed, a fork puts its ways there instead, the preferred one first, and so does a state
-- from which one step leads on with no byte; where a step leads over the byte goes to the end of the next list; a match cuts off the rest, and is the place
-- that is found
pub data Scans (e : Search) (i : ℕ) : (ℕ → Bool) → List ℕ → List ℕ → List ℕ → Option (ℕ × ℕ) → Type 0 where
  done : (seen : ℕ → Bool) (next : List ℕ) → Scans e i seen [] next next None
  again : (seen : ℕ → Bool) (s : ℕ) (list next out : List ℕ) (found : Option (ℕ × ℕ)) → seen s ≡ true → Scans e i seen list next out found
      → Scans e i seen (s ∷ list) next out found
  fork : (seen after : ℕ → Bool) (s a b : ℕ) (list next out : List ℕ) (found : Option (ℕ × ℕ)) → IsMore seen s after → seen s ≡ false
      → IsPlace e (s, i)
      → slice_get e.states s ≡ Some (Fork a b) → Scans e i after (a ∷ b ∷ list) next out found → Scans e i seen (s ∷ list) next out found
  single : (seen after : ℕ → Bool) (s t : ℕ) (list next out : List ℕ) (found : Option (ℕ × ℕ)) → IsMore seen s after → seen s ≡ false
      → IsPlace e (s, i)
      → accepts e (s, i) ≡ false → IsNoFork e s → Leads e (s, i) (t, i) → ((q : ℕ × ℕ) → Leads e (s, i) q → q ≡ (t, i))
      → Scans e i after (t ∷ list) next out found → Scans e i seen (s ∷ list) next out found
  stuck : (seen after : ℕ → Bool) (s : ℕ) (list next out : List ℕ) (found : Option (ℕ × ℕ)) → IsMore seen s after
      → accepts e (s, i) ≡ false → ((q : ℕ × ℕ) → Leads e (s, i) q → ⊥) → Scans e i after list next out found
      → Scans e i seen (s ∷ list) next out found
  over : (seen after : ℕ → Bool) (s t : ℕ) (list next new out : List ℕ) (found : Option (ℕ × ℕ)) → IsMore seen s after → seen s ≡ false
      → IsPlace e (s, i)
      → accepts e (s, i) ≡ false → IsNoFork e s → Leads e (s, i) (t, i + 1) → ((q : ℕ × ℕ) → Leads e (s, i) q → q ≡ (t, i + 1))
      → AddsOne next t new → Scans e i after list new out found → Scans e i seen (s ∷ list) next out found
  matched : (seen : ℕ → Bool) (s : ℕ) (list next : List ℕ) → seen s ≡ false → IsPlace e (s, i) → accepts e (s, i) ≡ true
      → Scans e i seen (s ∷ list) next next (Some (s, i))

-- what a pass knows besides its list: matches may begin later; or they may not, and the last match found, if there is one
pub data Status : Type 0 where
  Open : Status
  Closed : Option (ℕ × ℕ) → Status

-- after a match no other begins
abbrev pub later : Status → Option (ℕ × ℕ) → Status
later status (Some q) = Closed (Some q)
later status None = status

abbrev pub answer_of : Status → Option (ℕ × ℕ)
answer_of Open = None
answer_of (Closed last) = last

-- while matches may begin, the start state is last in the list
abbrev pub Opens : Search → Status → List ℕ → List ℕ → Type 0
Opens e Open out next = AddsOne out e.start_state next
Opens e (Closed last) out next = next ≡ out

-- what an answer says: where the leftmost-first match ends, or that there is none
abbrev pub IsFound : Search → Option (ℕ × ℕ) → Type 0
IsFound e (Some q) = IsLastPlace e q
IsFound e None = HasNoFirstMatch e

-- what is so if no match is reached from the list
abbrev pub IsLeftOver : Search → ℕ → Status → Type 0
IsLeftOver e i Open = (at : ℕ) → e.start ≤ at → at < i + 1 → HasNoMatchFrom e at
IsLeftOver e i (Closed last) = IsFound e last

-- the list and the status decide what the leftmost-first match is
abbrev pub IsDue : Search → ℕ → Status → List ℕ → Type 0
IsDue e i status list = Decides e i unseen (IsLastPlace e) (IsLeftOver e i status) list

-- the place found, at another position
abbrev pub placed : ℕ → Option (ℕ × ℕ) → Option (ℕ × ℕ)
placed i None = None
placed i (Some q) = Some (q.0, i)
