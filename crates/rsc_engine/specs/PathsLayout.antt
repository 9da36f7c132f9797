-- Paths of states to a match: lists of states alone, along which the position, the records and the choices are carried.
use Rattle.std.specs.Prelude.{◌≡◌, ℕ, ◌<◌, ◌≤◌, ◌⊎◌, IsTrue, List, [], ◌∷◌, slice_get, Option, Some}
use Rattle.rsc_look.specs.Holds.{Holds}
use Rattle.rsc_nfa.specs.Steps.{is_between}
use Rattle.rsc_nfa.specs.declared.state.State.{State}
use Rattle.rsc_nfa.specs.declared.state.State.TheVariants.{ByteRange, Assert, Fork, Capture, Accept}
use Rattle.rsc_engine.specs.Patterns.{Subject}
use Rattle.rsc_engine.specs.Courses.{Stand, further, chosen, noted, IsUnmade}

-- after a state with the number f
abbrev pub by_state : Option State → ℕ → Stand → Stand
by_state (Some (ByteRange a b next)) f s = further s
by_state (Some (Fork a b)) f s = chosen f s
by_state (Some (Capture slot next)) f s = noted slot s
by_state _ f s = s

-- the state with the number f leads to the state g; a fork does once at a position
abbrev pub PathLeads : Option State → Subject → ℕ → ℕ → Stand → ℕ → Type 0
PathLeads (Some (ByteRange a b next)) x end f s g = (s.at < end) × IsTrue (is_between a b (slice_get x.haystack s.at)) × (g ≡ next)
PathLeads (Some (Assert look next)) x end f s g = Holds look x.terminator x.word_chars x.haystack s.at × (g ≡ next)
PathLeads (Some (Fork a b)) x end f s g = IsUnmade f s × ((g ≡ a) ⊎ (g ≡ b))
PathLeads (Some (Capture slot next)) x end f s g = g ≡ next
PathLeads _ x end f s g = ⊥

-- states lead from the state f, one after the other, to one that accepts the pattern m, up to an end
abbrev pub IsPath : List State → Subject → ℕ → ℕ → ℕ → Stand → List ℕ → Type 0
IsPath states x end m f s [] = (slice_get states f ≡ Some (Accept m)) × (s.at ≤ end)
IsPath states x end m f s (g ∷ rest) = PathLeads (slice_get states f) x end f s g × IsPath states x end m g (by_state (slice_get states f) f s) rest

abbrev pub HasPath : List State → Subject → ℕ → ℕ → ℕ → Stand → Type 0
HasPath states x end m f s = (rest : List ℕ) × IsPath states x end m f s rest

-- two paths from the state f go together up to a fork, at which the one goes the first way and the other doesn't
abbrev pub Before : List State → ℕ → List ℕ → List ℕ → Type 0
Before states f [] other = ⊥
Before states f (g ∷ one) [] = ⊥
Before states f (g ∷ one) (h ∷ other) =
    ((a : ℕ) × (b : ℕ) × (slice_get states f ≡ Some (Fork a b)) × (g ≡ a) × (¬ (h ≡ a))) ⊎ ((g ≡ h) × Before states g one other)

-- no path is before this one
pub record Least (states : List State) (x : Subject) (end m f : ℕ) (s : Stand) (rest : List ℕ) : Type 0 where
  pub path : IsPath states x end m f s rest
  pub least : (other : List ℕ) → IsPath states x end m f s other → ¬ (Before states f other rest)

-- where a path ends
abbrev pub arrive : List State → ℕ → Stand → List ℕ → ℕ × Stand
arrive states f s [] = (f, s)
arrive states f s (g ∷ rest) = arrive states g (by_state (slice_get states f) f s) rest

-- the places of a path after the first
abbrev pub places : List State → ℕ → Stand → List ℕ → List (ℕ × ℕ)
places states f s [] = []
places states f s (g ∷ rest) = (g, (by_state (slice_get states f) f s).at) ∷ places states g (by_state (slice_get states f) f s) rest

-- the path of these steps
pub record IsPathOf (states : List State) (x : Subject) (end m f : ℕ) (s : Stand) (steps : List (ℕ × ℕ)) : Type 0 where
  pub rest : List ℕ
  pub path : IsPath states x end m f s rest
  pub its : places states f s rest ≡ steps
