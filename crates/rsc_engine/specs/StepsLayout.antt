-- Steps from a place on.
use Rattle.std.specs.Prelude.{ℕ, List, [], ◌∷◌}
use Rattle.rsc_nfa.specs.declared.state.State.{State}
use Rattle.rsc_nfa.specs.Steps.{IsStep}
use Rattle.rsc_engine.specs.Patterns.{Subject}

-- a step leads from a place to the first of these, and from each to the one after it
abbrev pub AreSteps : List State → Subject → ℕ → ℕ × ℕ → List (ℕ × ℕ) → Type 0
AreSteps states x end p [] = Unit {0}
AreSteps states x end p (q ∷ rest) = IsStep states x.terminator x.word_chars x.haystack end p q × AreSteps states x end q rest

-- the last of these places, or the one before them
abbrev pub last_place : ℕ × ℕ → List (ℕ × ℕ) → ℕ × ℕ
last_place p [] = p
last_place p (q ∷ rest) = last_place q rest
