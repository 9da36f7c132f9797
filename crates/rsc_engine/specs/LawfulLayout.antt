-- The laws of steps and runs that the proof of `dfa` rests on, as one record: each is a law of a library below.
use Rattle.std.specs.Prelude.{◌≡◌, ◌↔◌, ◌⊎◌, ℕ, ◌+◌, ◌-◌, ◌<◌, ◌≤◌, Bool, false, List, [], ◌∷◌, ◌++◌, length, IfSome}
use Rattle.rsc_captures.specs.Groups.{GroupLists}
use Rattle.rsc_look.specs.declared.assertion.Look.{Look}
use Rattle.rsc_look.specs.Looks.{ascii_counterpart}
use Rattle.rsc_look.specs.Holds.{Holds, byte_before, byte_after}
use Rattle.rsc_look.specs.Keeping.{AgreesWithAscii}
use Rattle.rsc_nfa.specs.declared.state.State.{State}
use Rattle.rsc_nfa.specs.Classes.{has_unicode_assertion, KeepsRuns, AreInterchangedBy}
use Rattle.rsc_nfa.specs.StateFaults.{AreFaultless}
use Rattle.rsc_nfa.specs.Steps.{IsStep, IsRun, IsPlaceWithin, place}

pub record Lawful : Type 0 where
  pub stays : (states : List State) (t : ℕ) (chars : ℕ → Bool) (h k : List ℕ) (end last i j s u : ℕ) → has_unicode_assertion states ≡ false
      → byte_before h i ≡ byte_before k j → byte_after h i ≡ byte_after k j
      → IsStep states t chars h end (s, i) (u, i) → IsStep states t chars k last (s, j) (u, j)
  pub advances : (states : List State) (t : ℕ) (chars : ℕ → Bool) (h k : List ℕ) (end last i j s u : ℕ) → byte_after h i ≡ byte_after k j
      → (i < end → j < last) → IsStep states t chars h end (s, i) (u, i + 1) → IsStep states t chars k last (s, j) (u, j + 1)
  pub kept : (classes : List ℕ) (states : List State) (t : ℕ) (chars : ℕ → Bool) (h k : List ℕ) (end : ℕ) (p q : ℕ × ℕ)
      → KeepsRuns classes states t chars
      → AreInterchangedBy classes (has_unicode_assertion states) h k → end ≤ length h → p.1 ≤ end → q.0 < length states
      → IsStep states t chars h end p q ↔ IsStep states t chars k end p q
  pub position : (states : List State) (t : ℕ) (chars : ℕ → Bool) (h : List ℕ) (end : ℕ) (p q : ℕ × ℕ) → IsStep states t chars h end p q
      → (q.1 ≡ p.1) ⊎ ((q.1 ≡ p.1 + 1) × (p.1 < end))
  pub to : (groups : GroupLists) (states : List State) (t : ℕ) (chars : ℕ → Bool) (h : List ℕ) (end : ℕ) (p q : ℕ × ℕ)
      → AreFaultless groups states
      → IsStep states t chars h end p q → q.0 < length states
  pub one : (states : List State) (t : ℕ) (chars : ℕ → Bool) (h : List ℕ) (start end : ℕ) (p : ℕ × ℕ) → IsPlaceWithin states start end p
      → IsRun states t chars h start end (p ∷ [])
  pub more : (states : List State) (t : ℕ) (chars : ℕ → Bool) (h : List ℕ) (start end : ℕ) (run : List (ℕ × ℕ)) (p : ℕ × ℕ)
      → IsRun states t chars h start end run → 0 < length run → p.0 < length states → IsStep states t chars h end (place run (length run - 1)) p
      → IsRun states t chars h start end (run ++ p ∷ [])
  pub ascii : (l : Look) (t : ℕ) (chars : ℕ → Bool) (h : List ℕ) (i : ℕ) → i ≤ length h → AgreesWithAscii chars
      → IfSome (byte_before h i) (λ b. b < 128) → IfSome (byte_after h i) (λ b. b < 128) → Holds l t chars h i ↔ Holds (ascii_counterpart l) t chars h i
