-- What the states of a part or of patterns name, and which assertions they have.
use Rattle.std.specs.Prelude.{◌≡◌, ℕ, ◌*◌, ◌<◌, ◌≤◌, Bool, true, false, List, length, slice_get, Some}
use Rattle.rsc_captures.specs.Groups.{GroupLists, all_group_count}
use Rattle.rsc_nfa.specs.declared.state.State.{State}
use Rattle.rsc_nfa.specs.declared.state.State.TheVariants.{ByteRange, Assert, Fork, Capture, Accept}
use Rattle.rsc_nfa.specs.Classes.{asserts}
use Rattle.rsc_look.specs.declared.assertion.Look.{Look}
use Rattle.rsc_engine.specs.Patterns.{Pattern}
use Rattle.rsc_engine.specs.Asks.{asks}
use Rattle.std.specs.List.{list_any}

-- this holds for each state from low on and below high
abbrev pub EachOf : (State → Type 0) → ℕ → ℕ → List State → Type 0
EachOf P low high states = (k : ℕ) (state : State) → low ≤ k → k < high → slice_get states k ≡ Some state → P state

-- the state's range isn't empty, and it records in no slot from `most` on
abbrev pub Fits : ℕ → State → Type 0
Fits most (ByteRange a b next) = a ≤ b
Fits most (Capture slot next) = slot < most
Fits most _ = Unit {0}

-- which assertions a pattern has, and some of several patterns
abbrev pub asked_by : Pattern → Look → Bool
asked_by p look = asks look p

abbrev pub some_ask : List Pattern → Look → Bool
some_ask patterns look = list_any (asks look) patterns

-- one of these states asserts it
pub record Asserts (look : Look) (low high : ℕ) (states : List State) : Type 0 where
  pub state : ℕ
  pub its : State
  pub from : low ≤ state
  pub to : state < high
  pub here : slice_get states state ≡ Some its
  pub shows : asserts look its ≡ true

-- these states have ranges and slots that may be, and exactly the assertions that `asked` tells
pub record FitsAndAsks (most : ℕ) (asked : Look → Bool) (low high : ℕ) (states : List State) : Type 0 where
  pub fits : EachOf (Fits most) low high states
  pub lacks : (look : Look) → asked look ≡ false → EachOf (λ state. asserts look state ≡ false) low high states
  pub shows : (look : Look) → asked look ≡ true → Asserts look low high states

-- the state leads only to states below `high`, and accepts a pattern below `count`
abbrev pub LeadsBelow : ℕ → ℕ → State → Type 0
LeadsBelow high count (ByteRange a b next) = next < high
LeadsBelow high count (Assert l next) = next < high
LeadsBelow high count (Fork a b) = (a < high) × (b < high)
LeadsBelow high count (Capture slot next) = next < high
LeadsBelow high count (Accept p) = p < count

-- what these states name is there: each other among them, slots below `most`, patterns below `count`; and `first` is one of them
pub record AreSound (most count : ℕ) (asked : Look → Bool) (low high first : ℕ) (states : List State) : Type 0 where
  pub from : low ≤ first
  pub to : first < high
  pub leads : EachOf (LeadsBelow high count) low high states
  pub names : FitsAndAsks most asked low high states

-- the added states name slots and patterns of these groups
abbrev pub AreSoundIn : GroupLists → (Look → Bool) → List State → List State → ℕ → List State → Type 0
AreSoundIn groups asked old new first states = AreSound (2 * all_group_count groups) (length groups) asked (length old) (length new) first states
