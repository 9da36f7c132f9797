-- The backward pass: from the end of a span back to where a match begins in it. These serve the proof of `dfa`; no public contract cites them.
use Rattle.std.specs.Prelude.{◌≡◌, ℕ, ◌+◌, ◌-◌, ◌<◌, ◌≤◌, ◌⊎◌, Bool, true, false, List, slice_get, slice_index_or, Option, Some, None}
use Rattle.std.specs.List.{Contains}
use Rattle.rsc_look.specs.Holds.{byte_after}
use Rattle.rsc_nfa.specs.declared.state.State.TheVariants.{Accept}
use Rattle.rsc_nfa.specs.Steps.{place}
use Rattle.rsc_engine.specs.declared.dfa.pass_table.PassRow.{PassRow}
use Rattle.rsc_engine.specs.Searches.{Search}
use Rattle.rsc_engine.specs.Runs.{Leads, IsPlace, accepts}
use Rattle.rsc_engine.specs.Preferred.{IsLeftmostFirst}
use Rattle.rsc_engine.specs.DecidesLayout.{last_of}
use Rattle.rsc_engine.specs.RowsLayout.{IsMarked, Machine, machine_of, Alike, Moves}
use Rattle.rsc_engine.specs.ArrivalsLayout.{Arrives, ArrivesOver, LeadsBack}

-- the leftmost-first match begins at the position, is of the pattern, and ends at j
pub record IsStartOf (e : Search) (p j at : ℕ) : Type 0 where
  pub run : List (ℕ × ℕ)
  pub is_first : IsLeftmostFirst e run
  pub begins : place run 0 ≡ (e.start_state, at)
  pub pattern : slice_get e.states (last_of run).0 ≡ Some (Accept p)
  pub end : (last_of run).1 ≡ j

-- ---- a step

-- the list has the states of which it is so, and no others
pub record Lists (Hit : ℕ → Type 0) (list : List ℕ) : Type 0 where
  pub only : (s : ℕ) → Contains list s → Hit s
  pub all : (s : ℕ) → Hit s → Contains list s

-- the state is of the list, or a match
abbrev pub IsSeed : Search → ℕ → List ℕ → ℕ → Type 0
IsSeed e i list s = Contains list s ⊎ (IsPlace e (s, i) × (accepts e (s, i) ≡ true))

-- steps with no byte lead from the marked states to those of the list, or to matches
abbrev pub AreLedBack : Search → ℕ → List ℕ → List Bool → Type 0
AreLedBack e i list marks = (s : ℕ) → IsMarked marks s → LeadsBack e i (IsSeed e i list) s

-- if the state is a match, or leads with no byte to a marked one, it's marked
abbrev pub IsShutAt : Search → ℕ → List Bool → ℕ → Type 0
IsShutAt e i marks s =
    (accepts e (s, i) ≡ true → IsMarked marks s) × ((t : ℕ) → Leads e (s, i) (t, i) → IsMarked marks t → IsMarked marks s)

abbrev pub IsShut : Search → ℕ → List Bool → Type 0
IsShut e i marks = (s : ℕ) → IsPlace e (s, i) → IsShutAt e i marks s

-- the marked states are those of the list, the matches, and those from which steps with no byte lead to one of these
pub record IsClosedBack (e : Search) (i : ℕ) (list : List ℕ) (marks : List Bool) : Type 0 where
  pub led : AreLedBack e i list marks
  pub kept : (s : ℕ) → Contains list s → IsMarked marks s
  pub shut : IsShut e i marks

-- a step with no byte leads from the state to a marked one
pub record LeadsToMarked (e : Search) (i : ℕ) (marks : List Bool) (s : ℕ) : Type 0 where
  pub to : ℕ
  pub leads : Leads e (s, i) (to, i)
  pub marked : IsMarked marks to

-- the byte at the position leads from the state to a marked one
pub record IsSource (m : Machine) (haystack : List ℕ) (i : ℕ) (marks : List Bool) (s : ℕ) : Type 0 where
  pub to : ℕ
  pub moves : Moves m haystack i s to
  pub marked : IsMarked marks to

-- of the states from which steps with no byte lead to the list, or to matches: whether the start state is one, and from which states the byte before leads
-- to one
pub record IsRetreated (e : Search) (i : ℕ) (list : List ℕ) (begins : Bool) (next : List ℕ) : Type 0 where
  pub marks : List Bool
  pub closed : IsClosedBack e i list marks
  pub at_start : begins ≡ slice_index_or marks e.start_state false
  pub sources : Lists (λ s. (0 < i) × IsSource (machine_of e) e.haystack (i - 1) marks s) next

-- ---- from position to position

-- whether a match begins at the position
pub record IsBegun (e : Search) (i : ℕ) (begins : Bool) : Type 0 where
  pub yes : begins ≡ true → Arrives e e.start_state i
  pub no : begins ≡ false → ¬ (Arrives e e.start_state i)

-- the list has the states that arrive over the byte before b
abbrev pub AreBefore : Search → ℕ → List ℕ → Type 0
AreBefore e b list = (i : ℕ) → b ≡ i + 1 → e.start ≤ i → Lists (λ s. ArrivesOver e s i) list

-- the least position at which a match begins, after a step at the position
abbrev pub least_with : Bool → ℕ → ℕ → ℕ
least_with true i least = i
least_with false i least = least

-- the positions from b on were looked at: `least` is the least of these at which a match begins, or the span's end
pub record IsLeastFrom (e : Search) (b least : ℕ) : Type 0 where
  pub none_less : (m : ℕ) → b ≤ m → Arrives e e.start_state m → least ≤ m
  pub found : (least ≡ e.end) ⊎ Arrives e e.start_state least

-- whether a match begins, as a row knows it
abbrev pub begins_in : Option PassRow → Bool
begins_in None = false
begins_in (Some row) = row.begins

-- the row is that of the position before b, if `least` is the least position so far
pub record StandsBackward (e : Search) (classes : List ℕ) (rows : List PassRow) (k b least : ℕ) : Type 0 where
  pub row : PassRow
  pub there : slice_get rows k ≡ Some row
  pub backward : row.backward ≡ true
  pub same_mode : row.mode ≡ e.mode
  pub alike : (i : ℕ) → b ≡ i + 1 → Alike classes (byte_after e.haystack i) row.read
  pub low : e.start ≤ b
  pub high : b ≤ e.end + 1
  pub before : AreBefore e b row.list.items
  pub begun : IsBegun e b row.begins
  pub is_least : IsLeastFrom e b least

-- from where a pass stands at the position, the row that is next is that of the one before it
abbrev pub GoesBackward : Search → List ℕ → List PassRow → List PassRow → ℕ → ℕ → ℕ → Type 0
GoesBackward e classes old new k i next = (least : ℕ) → StandsBackward e classes old k (i + 1) least
    → StandsBackward e classes new next i (least_with (begins_in (slice_get new next)) i least)
