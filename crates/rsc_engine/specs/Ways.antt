-- The ways of a pattern, and what they record in the slots of groups.
use Rattle.std.specs.Prelude.{◌≡◌, ℕ, zero, suc, ◌+◌, ◌≤◌, ◌==◌, ◌⊎◌, List, [], ◌∷◌, Option, Some, None, if◌then◌else◌}
use Rattle.rsc_engine.specs.Patterns.{Pattern, Empty, Never, Class, Literal, Assertion, Then, Either, Repeat, Group, Subject, IsAtMost, Goes}

-- a position, and what was recorded before it: slots and positions, the last one first
abbrev pub Point : Type 0
Point = ℕ × List (ℕ × ℕ)

-- what was recorded in the slot last
abbrev pub last_in : List (ℕ × ℕ) → ℕ → Option ℕ
last_in [] slot = None
last_in (r ∷ earlier) slot = if r.0 == slot then Some r.1 else last_in earlier slot

-- the position is recorded in the slot
abbrev pub with_record : ℕ → Point → Point
with_record slot m = (m.0, (slot, m.0) ∷ m.1)

-- n times one after the other leads from the one point to the other
abbrev pub TimesWith : (Point → Point → Type 0) → ℕ → Point → Point → Type 0
TimesWith R zero m n = m ≡ n
TimesWith R (suc times) m n = (k : Point) × R m k × TimesWith R times k n

-- the pattern goes on one of its ways from the one point to the other. A group records where it begins and where it ends; what an earlier round of a loop
-- recorded stays, until a later one records in the same slot
abbrev pub GoesWith : Subject → Pattern → Point → Point → Type 0
GoesWith x Empty m n = m ≡ n
GoesWith x Never m n = ⊥
GoesWith x (Class ranges) m n = Goes x (Class ranges) m.0 n.0 × (m.1 ≡ n.1)
GoesWith x (Literal bytes) m n = Goes x (Literal bytes) m.0 n.0 × (m.1 ≡ n.1)
GoesWith x (Assertion look) m n = Goes x (Assertion look) m.0 n.0 × (m.1 ≡ n.1)
GoesWith x (Then a b) m n = (k : Point) × GoesWith x a m k × GoesWith x b k n
GoesWith x (Either a b) m n = GoesWith x a m n ⊎ GoesWith x b m n
GoesWith x (Repeat min max greedy a) m n = (times : ℕ) × (min ≤ times) × IsAtMost min max times × TimesWith (GoesWith x a) times m n
GoesWith x (Group slot a) m n = (k : Point) × GoesWith x a (with_record slot m) k × (n ≡ with_record (slot + 1) k)
