-- The choices of a course, and which of them it may make before its first byte.
use Rattle.std.specs.Prelude.{◌≡◌, ℕ, ◌⊎◌, true, false}
use Rattle.std.specs.List.{Contains}
use Rattle.rsc_engine.specs.Patterns.{may_be_empty}
use Rattle.rsc_engine.specs.Courses.{Course, Skip, Dead, Byte, Here, After, Choose, Turn, Again, Within, Stand}
use Rattle.rsc_engine.specs.WrittenLayout.{written}

-- the choice is one of the course's
abbrev pub Makes : Course → ℕ → Type 0
Makes Skip v = ⊥
Makes Dead v = ⊥
Makes (Byte a b) v = ⊥
Makes (Here look) v = ⊥
Makes (After c d) v = Makes c v ⊎ Makes d v
Makes (Choose w c d) v = (w ≡ v) ⊎ (Makes c v ⊎ Makes d v)
Makes (Turn w greedy c) v = (w ≡ v) ⊎ Makes c v
Makes (Again w greedy c) v = (w ≡ v) ⊎ Makes c v
Makes (Within slot c) v = Makes c v

-- the course may make the choice before a byte, if its rounds take bytes
abbrev pub MakesFirst : Course → ℕ → Type 0
MakesFirst Skip v = ⊥
MakesFirst Dead v = ⊥
MakesFirst (Byte a b) v = ⊥
MakesFirst (Here look) v = ⊥
MakesFirst (After c d) v = MakesFirst c v ⊎ ((may_be_empty (written c) ≡ true) × MakesFirst d v)
MakesFirst (Choose w c d) v = (w ≡ v) ⊎ (MakesFirst c v ⊎ MakesFirst d v)
MakesFirst (Turn w greedy c) v = (w ≡ v) ⊎ MakesFirst c v
MakesFirst (Again w greedy c) v = MakesFirst c v
MakesFirst (Within slot c) v = MakesFirst c v

-- no choice is at two places of the course
abbrev pub AreApart : Course → Type 0
AreApart Skip = Unit {0}
AreApart Dead = Unit {0}
AreApart (Byte a b) = Unit {0}
AreApart (Here look) = Unit {0}
AreApart (After c d) = AreApart c × AreApart d × ((v : ℕ) → Makes c v → Makes d v → ⊥)
AreApart (Choose w c d) = AreApart c × AreApart d × ((v : ℕ) → Makes c v → Makes d v → ⊥) × ¬ (Makes c w) × (¬ (Makes d w))
AreApart (Turn w greedy c) = AreApart c × (¬ (Makes c w))
AreApart (Again w greedy c) = AreApart c × (¬ (Makes c w))
AreApart (Within slot c) = AreApart c

-- none of the choices that the course may make first was made
abbrev pub AreNew : Course → Stand → Type 0
AreNew c s = (v : ℕ) → MakesFirst c v → ¬ (Contains s.made v)

-- after the course from the one to the other: which choices were made since the last byte
pub record Leaves (c : Course) (s t : Stand) : Type 0 where
  pub from : (v : ℕ) → Contains t.made v → Makes c v ⊎ ((may_be_empty (written c) ≡ true) × Contains s.made v)
  pub fresh : may_be_empty (written c) ≡ false → (v : ℕ) → Contains t.made v → ¬ (MakesFirst c v)

-- before a round's choice: of the choices made since the last byte, which are some given ones, none is that one, or may come first in a round
abbrev pub IsFreshBefore : ℕ → Course → (ℕ → Type 0) → Stand → Type 0
IsFreshBefore w c Given s = (v : ℕ) → Contains s.made v → Given v × (¬ (w ≡ v)) × (¬ (MakesFirst c v))
