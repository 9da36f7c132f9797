-- The rows of a DFA, and where a byte leads from one. These serve the proof of `dfa`, whose public contracts cite `Ends`, `Preferred` and `Searches` alone.
use Rattle.std.specs.Prelude.{◌≡◌, ◌↔◌, ◌⊎◌, ℕ, ◌+◌, ◌<◌, Bool, true, false, List, [], ◌∷◌, ◌++◌, length, slice_index, slice_index_or, Option, Some, None, IfSome}
use Rattle.std.specs.List.{All, Contains}
use Rattle.rsc_look.specs.Keeping.{AgreesWithAscii}
use Rattle.rsc_captures.specs.Groups.{GroupLists}
use Rattle.rsc_nfa.specs.declared.state.State.{State}
use Rattle.rsc_nfa.specs.Classes.{KeepsRuns, has_unicode_assertion}
use Rattle.rsc_nfa.specs.StateFaults.{AreFaultless}
use Rattle.rsc_nfa.specs.Steps.{IsStep}
use Rattle.rsc_alphabet.specs.Partitions.{LastClassIsGreatest}
use Rattle.rsc_alphabet.specs.Iterators.{symbol_count}
use Rattle.rsc_engine.specs.Searches.{Search, Compiled}

-- the part of a search that comes from the program
pub record Machine : Type 0 where
  pub states : List State
  pub terminator : ℕ
  pub word_chars : ℕ → Bool
  pub start_state : ℕ
  pub utf8 : Bool

abbrev pub machine : {W : Type 0} → (W → ℕ → Bool) → Compiled W → Machine
machine chars p = record {
  states = p.automaton.states;
  terminator = p.automaton.matcher.0;
  word_chars = chars p.automaton.matcher.1;
  start_state = p.start;
  utf8 = p.utf8;
}

abbrev pub machine_of : Search → Machine
machine_of e = record { states = e.states; terminator = e.terminator; word_chars = e.word_chars; start_state = e.start_state; utf8 = e.utf8 }

-- the byte before a position and the byte after it as a haystack, and the position in it
abbrev pub around : Option ℕ → Option ℕ → List ℕ
around None None = []
around None (Some n) = n ∷ []
around (Some p) None = p ∷ []
around (Some p) (Some n) = p ∷ n ∷ []

abbrev pub middle : Option ℕ → ℕ
middle None = 0
middle (Some p) = 1

-- a step with no byte leads from a state to another, at a position of a small haystack; or a step over a byte does
abbrev pub Stays : Machine → List ℕ → ℕ → ℕ → ℕ → Type 0
Stays m near at s u = IsStep m.states m.terminator m.word_chars near (length near) (s, at) (u, at)

abbrev pub Moves : Machine → List ℕ → ℕ → ℕ → ℕ → Type 0
Moves m near at s u = IsStep m.states m.terminator m.word_chars near (length near) (s, at) (u, at + 1)

-- each is one of n states
abbrev pub AreStates : ℕ → List ℕ → Type 0
AreStates n set = All (λ s. s < n) set

-- the number is marked
abbrev pub IsMarked : List Bool → ℕ → Type 0
IsMarked marks n = slice_index_or marks n false ≡ true

-- exactly the marked states are in the list
pub record Gathers (seen : List Bool) (list : List ℕ) : Type 0 where
  pub marked : (s : ℕ) → IsMarked seen s → Contains list s
  pub listed : (s : ℕ) → Contains list s → (s < length seen) × IsMarked seen s

-- the list has one more at its end, or has it already
abbrev pub AddsOne : List ℕ → ℕ → List ℕ → Type 0
AddsOne old s new = (new ≡ old ++ s ∷ []) ⊎ ((new ≡ old) × Contains old s)

-- the small haystack stands for the position: the same steps are there
pub record IsNear (e : Search) (i : ℕ) (near : List ℕ) (at : ℕ) : Type 0 where
  pub follows : (s u : ℕ) → IsStep e.states e.terminator e.word_chars e.haystack e.end (s, i) (u, i) ↔ Stays (machine_of e) near at s u
  pub moves : (s u : ℕ) → i < e.end → IsStep e.states e.terminator e.word_chars e.haystack e.end (s, i) (u, i + 1) ↔ Moves (machine_of e) near at s u

-- both are no byte, or both bytes of one class
abbrev pub Alike : List ℕ → Option ℕ → Option ℕ → Type 0
Alike classes None None = Unit {0}
Alike classes (Some a) (Some b) = (a < 256) × (b < 256) × (slice_index classes a ≡ slice_index classes b)
Alike classes _ _ = ⊥

-- no byte, or one below 128, if an assertion looks at characters
abbrev pub IsPlainUnit : Machine → Option ℕ → Type 0
IsPlainUnit m unit = has_unicode_assertion m.states ≡ true → IfSome unit (λ b. b < 128)

-- what a DFA is made from: the classes keep runs, and if an assertion looks at characters, no class has bytes on both sides of 128
pub record IsPlan (m : Machine) (classes : List ℕ) (width : ℕ) (unicode : Bool) : Type 0 where
  pub groups : GroupLists
  pub faultless : AreFaultless groups m.states
  pub there : m.start_state < length m.states
  pub looks : unicode ≡ has_unicode_assertion m.states
  pub keeps : KeepsRuns classes m.states m.terminator m.word_chars
  pub agreed : AgreesWithAscii m.word_chars
  pub parted : has_unicode_assertion m.states ≡ true → (b c : ℕ) → b < 128 → c < 256 → slice_index classes b ≡ slice_index classes c → c < 128
  pub columns : width ≡ symbol_count classes
  pub bounded : LastClassIsGreatest classes
