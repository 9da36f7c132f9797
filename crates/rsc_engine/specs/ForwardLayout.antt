-- The forward pass. These serve the proof of `dfa`, whose public contracts cite `Ends`, `Preferred` and `Searches` alone.
use Rattle.std.specs.Prelude.{◌≡◌, ℕ, ◌+◌, ◌<◌, ◌≤◌, Bool, true, false, List, length, slice_get, Option, Some, None}
use Rattle.rsc_search.specs.declared.anchored.Anchored.{Anchored}
use Rattle.rsc_search.specs.declared.anchored.Anchored.TheVariants.{No}
use Rattle.rsc_look.specs.Holds.{byte_before}
use Rattle.rsc_nfa.specs.declared.state.State.TheVariants.{Accept}
use Rattle.rsc_engine.specs.declared.dfa.pass_table.PassRow.{PassRow}
use Rattle.rsc_engine.specs.Searches.{Search}
use Rattle.rsc_engine.specs.RowsLayout.{Machine, Alike, AddsOne}
use Rattle.rsc_engine.specs.PassesLayout.{Status, Open, Closed, answer_of, IsFound, IsDue}
use Rattle.rsc_engine.specs.OrderedLayout.{IsScanned}

-- the search of a small haystack
abbrev pub beside : Machine → Anchored → List ℕ → Search
beside m mode near = record {
  states = m.states;
  terminator = m.terminator;
  word_chars = m.word_chars;
  start_state = m.start_state;
  utf8 = m.utf8;
  haystack = near;
  start = 0;
  end = length near;
  mode = mode;
}

-- ---- a step

-- after a look: whether matches may begin later, and the next list, which has the start state last as long as they may
abbrev pub Continues : ℕ → Bool → Option ℕ → List ℕ → Bool → List ℕ → Type 0
Continues first begins (Some p) out after next = (after ≡ false) × (next ≡ out)
Continues first true None out after next = (after ≡ true) × AddsOne out first next
Continues first false None out after next = (after ≡ false) × (next ≡ out)

-- a scan of the list finds a match of the pattern, or none, and this is the next list
pub record IsAdvanced (e : Search) (i : ℕ) (begins : Bool) (list : List ℕ) (found : Option ℕ) (after : Bool) (next : List ℕ) : Type 0 where
  pub out : List ℕ
  pub scanned : IsScanned e i list found out
  pub continues : Continues e.start_state begins found out after next

-- the pattern and the end of the last match found, after a scan at the position
abbrev pub last_with : Option ℕ → ℕ → Option (ℕ × ℕ) → Option (ℕ × ℕ)
last_with None i last = last
last_with (Some p) i last = Some (p, i)

-- what the pass's variables say of the status
abbrev pub IsHeld : Search → Status → Bool → Option (ℕ × ℕ) → Type 0
IsHeld e Open begins last = (begins ≡ true) × (last ≡ None) × (e.mode ≡ No)
IsHeld e (Closed None) begins last = (begins ≡ false) × (last ≡ None)
IsHeld e (Closed (Some q)) begins last = (begins ≡ false) × ((p : ℕ) × (last ≡ Some (p, q.1)) × (slice_get e.states q.0 ≡ Some (Accept p)))

-- what the pass keeps, before it looks at the list at position k
pub record IsGoing (e : Search) (k : ℕ) (begins : Bool) (last : Option (ℕ × ℕ)) (list : List ℕ) : Type 0 where
  pub status : Status
  pub held : IsHeld e status begins last
  pub low : e.start ≤ k
  pub due : k ≤ e.end → IsDue e k status list
  pub over : e.end < k → IsFound e (answer_of status)

-- ---- rows

-- the pattern of the match that a row knows of
abbrev pub found_in : Option PassRow → Option ℕ
found_in None = None
found_in (Some row) = row.found

-- the row is that of the position, if this is the last match found before it
pub record StandsForward (e : Search) (classes : List ℕ) (rows : List PassRow) (k i : ℕ) (last : Option (ℕ × ℕ)) : Type 0 where
  pub row : PassRow
  pub there : slice_get rows k ≡ Some row
  pub forward : row.backward ≡ false
  pub same_mode : row.mode ≡ e.mode
  pub alike : Alike classes (byte_before e.haystack i) row.read
  pub going : IsGoing e i row.begins last row.list.items

-- the search up to another end of the span
abbrev pub search_up_to : Search → ℕ → Search
search_up_to e t = record e { end = t }

-- it is so in the search up to each end that the pass hasn't gone past by more than one
abbrev pub StandsInEach : Search → List ℕ → List PassRow → ℕ → ℕ → Option (ℕ × ℕ) → Type 0
StandsInEach e classes rows k i last = (t : ℕ) → i ≤ t + 1 → t ≤ e.end → StandsForward (search_up_to e t) classes rows k i last

-- from where a pass stands at the position, the row that is next is that of the next one
abbrev pub GoesForward : Search → List ℕ → List PassRow → List PassRow → ℕ → ℕ → ℕ → Type 0
GoesForward e classes old new k i next = (last : Option (ℕ × ℕ)) → StandsForward e classes old k i last
    → StandsForward e classes new next (i + 1) (last_with (found_in (slice_get new next)) i last)

abbrev pub GoesInEach : Search → List ℕ → List PassRow → List PassRow → ℕ → ℕ → ℕ → Type 0
GoesInEach e classes old new k i next = (t : ℕ) → i ≤ t → t ≤ e.end → GoesForward (search_up_to e t) classes old new k i next
