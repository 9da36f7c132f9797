-- The table of the rows of both passes. It serves the proof of `dfa`; no public contract cites it.
use Rattle.std.specs.Prelude.{◌≡◌, ◌↔◌, ℕ, ◌+◌, ◌*◌, ◌<◌, ◌≤◌, ◌⊎◌, Bool, true, false, List, length, slice_get, slice_index, slice_index_or, Option, Some, None, IfSome}
use Rattle.std.specs.List.{All}
use Rattle.std.specs.FinSet as sets
use Rattle.rsc_primitives.specs.Indices.{max_index}
use Rattle.rsc_look.specs.declared.assertion.Look.{Look}
use Rattle.rsc_look.specs.LookSets.{Looks}
use Rattle.rsc_look.specs.Holds.{Holds, byte_before, byte_after}
use Rattle.rsc_search.specs.declared.anchored.Anchored.{Anchored}
use Rattle.rsc_engine.specs.declared.dfa.pass_table.PassRow.{PassRow}
use Rattle.rsc_engine.specs.declared.dfa.beyond.BeyondStep.{BeyondStep}
use Rattle.rsc_engine.specs.declared.dfa.entries.Lead.{Lead}
use Rattle.rsc_engine.specs.declared.dfa.entries.Lead.TheVariants.{Unknown, To, WithMatch}
use Rattle.rsc_engine.specs.RowsLayout.{Machine, Alike, AreStates, IsPlainUnit, around, middle}
use Rattle.rsc_engine.specs.ForwardLayout.{beside, IsAdvanced}
use Rattle.rsc_engine.specs.BackwardLayout.{IsRetreated}

-- the column of a byte, or of the end of the input
abbrev pub column : List ℕ → Option ℕ → ℕ
column classes None = slice_index classes 255 + 1
column classes (Some b) = slice_index classes b

-- the row to which an entry leads
abbrev pub row_of : Lead → Option ℕ
row_of Unknown = None
row_of (To row) = Some row
row_of (WithMatch row) = Some row

-- the same, of an entry that says that the row knows of no match
abbrev pub plain_row_of : Lead → Option ℕ
plain_row_of Unknown = None
plain_row_of (To row) = Some row
plain_row_of (WithMatch row) = None

-- the row knows of no match that ends before the byte read last, or in the backward pass begins after it
abbrev pub KnowsNoMatch : Option PassRow → Type 0
KnowsNoMatch None = Unit {0}
KnowsNoMatch (Some row) = (row.found ≡ None) × (row.backward ≡ true → row.begins ≡ false)

-- the row is there, of that pass and with that list and status, of a byte of the class
pub record IsPassRow (classes : List ℕ) (rows : List PassRow) (k : ℕ) (backward : Bool) (mode : Anchored) (begins : Bool) (found : Option ℕ)
    (read : Option ℕ) (list : List ℕ) : Type 0 where
  pub to : PassRow
  pub there : slice_get rows k ≡ Some to
  pub same_pass : to.backward ≡ backward
  pub same_mode : to.mode ≡ mode
  pub same_begins : to.begins ≡ begins
  pub same_found : to.found ≡ found
  pub alike : Alike classes read to.read
  pub is_list : to.list.items ≡ list

-- what a unit makes of a row's list, between the byte read last and the unit: in the forward pass it's the byte after the position, in the backward pass the
-- one before it
abbrev pub IsPassStep : Machine → Anchored → Bool → Option ℕ → Bool → List ℕ → Option ℕ → Option ℕ → Bool → List ℕ → Type 0
IsPassStep m mode false read begins list unit found after next = IsAdvanced (beside m mode (around read unit)) (middle read) begins list found after next
IsPassStep m mode true read begins list unit found after next = IsRetreated (beside m mode (around unit read)) (middle unit) list after next

-- a step leads from the one row to the other
pub record IsPassLed (m : Machine) (classes : List ℕ) (rows : List PassRow) (from : PassRow) (unit : Option ℕ) (next : ℕ) : Type 0 where
  pub found : Option ℕ
  pub after : Bool
  pub list : List ℕ
  pub is_row : IsPassRow classes rows next from.backward from.mode after found unit list
  pub step : IsPassStep m from.mode from.backward from.read from.begins from.list.items unit found after list

-- what an entry says of the units of a class: no assertion looks at a byte above 7F there
pub record IsPassTo (m : Machine) (classes : List ℕ) (old new : List PassRow) (row : ℕ) (unit : Option ℕ) (next : ℕ) : Type 0 where
  pub from : PassRow
  pub there : slice_get old row ≡ Some from
  pub other : Option ℕ
  pub alike : Alike classes unit other
  pub plain_read : IsPlainUnit m from.read
  pub plain : IsPlainUnit m other
  pub leads : IsPassLed m classes new from other next

-- the row's list is of states; the backward pass goes through the states by their numbers
pub record IsSoundPassRow (m : Machine) (row : PassRow) : Type 0 where
  pub states : AreStates (length m.states) row.list.items
  pub numbered : row.backward ≡ true → length m.states ≤ max_index

-- ---- beside bytes above 7F

-- what a row's list becomes at a position of a haystack
abbrev pub IsPassStepAt : Machine → Anchored → Bool → List ℕ → ℕ → Bool → List ℕ → Option ℕ → Bool → List ℕ → Type 0
IsPassStepAt m mode false h i begins list found after next = IsAdvanced (beside m mode h) i begins list found after next
IsPassStepAt m mode true h i begins list found after next = IsRetreated (beside m mode h) i list after next

-- the unit that a pass reads at a position: forward the byte after it, backward the one before it
abbrev pub unit_at : Bool → List ℕ → ℕ → Option ℕ
unit_at false h i = byte_after h i
unit_at true h i = byte_before h i

-- exactly these assertions hold at the position
abbrev pub AreHolding : Machine → List ℕ → ℕ → Looks → Type 0
AreHolding m h i looks = (look : Look) → (sets.contains looks look ≡ true) ↔ Holds look m.terminator m.word_chars h i

-- from the one row a step over the unit leads to the other, at some position at which these assertions hold
pub record IsBeyondTo (m : Machine) (classes : List ℕ) (old new : List PassRow) (row : ℕ) (unit : Option ℕ) (looks : Looks) (next : ℕ) : Type 0 where
  pub from : PassRow
  pub there : slice_get old row ≡ Some from
  pub haystack : List ℕ
  pub at : ℕ
  pub within : at ≤ length haystack
  pub read : unit_at from.backward haystack at ≡ unit
  pub byte : IfSome unit (λ b. b < 256)
  pub holding : AreHolding m haystack at looks
  pub found : Option ℕ
  pub after : Bool
  pub list : List ℕ
  pub is_row : IsPassRow classes new next from.backward from.mode after found unit list
  pub step : IsPassStepAt m from.mode from.backward haystack at from.begins from.list.items found after list

-- what is kept of such a step
abbrev pub IsBeyondStep : Machine → List ℕ → List PassRow → BeyondStep → Type 0
IsBeyondStep m classes rows step = IsBeyondTo m classes rows rows step.row step.unit step.looks step.next

-- it does so at this position
pub record IsBeyondAt (m : Machine) (classes : List ℕ) (old new : List PassRow) (row : ℕ) (h : List ℕ) (i next : ℕ) : Type 0 where
  pub unit : Option ℕ
  pub looks : Looks
  pub holding : AreHolding m h i looks
  pub to : IsBeyondTo m classes old new row unit looks next
  pub read : unit_at to.from.backward h i ≡ unit

-- ---- the table

-- there are at most that many, or one
abbrev pub AreFew : ℕ → ℕ → Type 0
AreFew most n = (n ≤ most) ⊎ (n ≤ 1)

-- the rows are few, each is of states, and each entry and each step that is kept says what holds
pub record IsPassTable (m : Machine) (classes : List ℕ) (width most : ℕ) (rows : List PassRow) (leads : List Lead) (beyond : List (Option BeyondStep))
    : Type 0 where
  pub few : AreFew most (length rows)
  pub sound : All (IsSoundPassRow m) rows
  pub room : length rows * width ≤ length leads
  pub each : (k : ℕ) (unit : Option ℕ) → IfSome unit (λ b. b < 256)
      → IfSome (row_of (slice_index_or leads (k * width + column classes unit) Unknown)) (IsPassTo m classes rows rows k unit)
  pub plain : (k : ℕ) (unit : Option ℕ) → IfSome unit (λ b. b < 256)
      → IfSome (plain_row_of (slice_index_or leads (k * width + column classes unit) Unknown)) (λ next. KnowsNoMatch (slice_get rows next))
  pub steps : (i : ℕ) → IfSome (slice_index_or beyond i None) (IsBeyondStep m classes rows)

-- each row is where it was
pub record IsPassGrown (old new : List PassRow) : Type 0 where
  pub kept : (k : ℕ) (row : PassRow) → slice_get old k ≡ Some row → slice_get new k ≡ Some row
