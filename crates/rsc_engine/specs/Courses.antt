-- Courses: patterns with their copies written out, and how they go without making a choice twice at one position.
use Rattle.std.specs.Prelude.{◌≡◌, ℕ, zero, suc, ◌+◌, ◌⊎◌, Bool, true, false, IsTrue, List, [], ◌∷◌, slice_get}
use Rattle.std.specs.List.{Contains}
use Rattle.rsc_look.specs.declared.assertion.Look.{Look}
use Rattle.rsc_look.specs.Holds.{Holds}
use Rattle.rsc_nfa.specs.Steps.{is_between}
use Rattle.rsc_engine.specs.Patterns.{Subject}

-- a pattern with its copies written out, and with a number for each of its choices
pub data Course : Type 0 where
  -- no byte
  Skip : Course
  -- nothing, not even the empty string
  Dead : Course
  -- a byte from the one to the other
  Byte : ℕ → ℕ → Course
  -- a position at which an assertion holds
  Here : Look → Course
  -- the one, then the other
  After : Course → Course → Course
  -- a choice: the one or the other; the first is preferred
  Choose : ℕ → Course → Course → Course
  -- any number of rounds, greedy or lazy; before each one, and after the last, the choice to come again
  Turn : ℕ → Bool → Course → Course
  -- a round, then any number
  Again : ℕ → Bool → Course → Course
  -- a group, with the first of its two slots
  Within : ℕ → Course → Course

-- a position, what was recorded before it (the last first), and which choices were made since the last byte
pub record Stand : Type 0 where
  pub at : ℕ
  pub records : List (ℕ × ℕ)
  pub made : List ℕ

-- where nothing was recorded or chosen yet
abbrev pub fresh : ℕ → Stand
fresh i = record { at = i; records = []; made = [] }

-- where a course stands after a byte
abbrev pub further : Stand → Stand
further s = record { at = s.at + 1; records = s.records; made = [] }

-- where a course stands after the choice w
abbrev pub chosen : ℕ → Stand → Stand
chosen w s = record { at = s.at; records = s.records; made = w ∷ s.made }

-- where a course stands after a record in the slot
abbrev pub noted : ℕ → Stand → Stand
noted slot s = record { at = s.at; records = (slot, s.at) ∷ s.records; made = s.made }

-- the choice was not made at this position yet
abbrev pub IsUnmade : ℕ → Stand → Type 0
IsUnmade w s = ¬ (Contains s.made w)

-- n rounds of a loop lead from the one to the other
abbrev pub Turns : (Stand → Stand → Type 0) → ℕ → ℕ → Stand → Stand → Type 0
Turns R w zero s t = IsUnmade w s × (t ≡ chosen w s)
Turns R w (suc n) s t = IsUnmade w s × (k : Stand) × R (chosen w s) k × Turns R w n k t

-- any number of rounds of a loop lead from the one to the other
abbrev pub SomeTurns : (Stand → Stand → Type 0) → ℕ → Stand → Stand → Type 0
SomeTurns R w s t = (n : ℕ) × Turns R w n s t

-- the course goes from the one to the other, and makes no choice twice at one position
abbrev pub GoesOnce : Subject → Course → Stand → Stand → Type 0
GoesOnce x Skip s t = s ≡ t
GoesOnce x Dead s t = ⊥
GoesOnce x (Byte a b) s t = IsTrue (is_between a b (slice_get x.haystack s.at)) × (t ≡ further s)
GoesOnce x (Here look) s t = Holds look x.terminator x.word_chars x.haystack s.at × (s ≡ t)
GoesOnce x (After c d) s t = (k : Stand) × GoesOnce x c s k × GoesOnce x d k t
GoesOnce x (Choose w c d) s t = IsUnmade w s × (GoesOnce x c (chosen w s) t ⊎ GoesOnce x d (chosen w s) t)
GoesOnce x (Turn w greedy c) s t = SomeTurns (GoesOnce x c) w s t
GoesOnce x (Again w greedy c) s t = (k : Stand) × GoesOnce x c s k × SomeTurns (GoesOnce x c) w k t
GoesOnce x (Within slot c) s t = (k : Stand) × GoesOnce x c (noted slot s) k × (t ≡ noted (slot + 1) k)

-- the course goes to where something is wanted
abbrev pub Reaches : (Stand → Type 0) → (Stand → Stand → Type 0) → Stand → Type 0
Reaches Wanted R s = (t : Stand) × R s t × Wanted t

-- n rounds, each the first from which the rest leads to where something is wanted: as often as that leads there, or as seldom
abbrev pub FirstTurns : ((Stand → Type 0) → Stand → Stand → Type 0) → (Stand → Stand → Type 0) → ℕ → Bool → ℕ → (Stand → Type 0)
    → Stand → Stand → Type 0
FirstTurns First R w greedy zero Wanted s t =
    IsUnmade w s × (t ≡ chosen w s) × Wanted t × (greedy ≡ true → ¬ (Reaches (Reaches Wanted (SomeTurns R w)) R (chosen w s)))
FirstTurns First R w greedy (suc n) Wanted s t =
    IsUnmade w s × (greedy ≡ false → ¬ (Wanted (chosen w s)))
    × (k : Stand) × First (Reaches Wanted (SomeTurns R w)) (chosen w s) k × FirstTurns First R w greedy n Wanted k t

-- of the ways of the course to where something is wanted, which make no choice twice at one position, the first goes from the one to the other
abbrev pub IsFirstOnce : Subject → Course → (Stand → Type 0) → Stand → Stand → Type 0
IsFirstOnce x Skip Wanted s t = (s ≡ t) × Wanted t
IsFirstOnce x Dead Wanted s t = ⊥
IsFirstOnce x (Byte a b) Wanted s t = GoesOnce x (Byte a b) s t × Wanted t
IsFirstOnce x (Here look) Wanted s t = GoesOnce x (Here look) s t × Wanted t
IsFirstOnce x (After c d) Wanted s t = (k : Stand) × IsFirstOnce x c (Reaches Wanted (GoesOnce x d)) s k × IsFirstOnce x d Wanted k t
IsFirstOnce x (Choose w c d) Wanted s t =
    IsUnmade w s × (IsFirstOnce x c Wanted (chosen w s) t ⊎ ((¬ (Reaches Wanted (GoesOnce x c) (chosen w s))) × IsFirstOnce x d Wanted (chosen w s) t))
IsFirstOnce x (Turn w greedy c) Wanted s t =
    (n : ℕ) × FirstTurns (λ Such k l. IsFirstOnce x c Such k l) (GoesOnce x c) w greedy n Wanted s t
IsFirstOnce x (Again w greedy c) Wanted s t =
    (k : Stand) × IsFirstOnce x c (Reaches Wanted (SomeTurns (GoesOnce x c) w)) s k
    × (n : ℕ) × FirstTurns (λ Such l m. IsFirstOnce x c Such l m) (GoesOnce x c) w greedy n Wanted k t
IsFirstOnce x (Within slot c) Wanted s t =
    (k : Stand) × IsFirstOnce x c (λ l. Wanted (noted (slot + 1) l)) (noted slot s) k × (t ≡ noted (slot + 1) k)
