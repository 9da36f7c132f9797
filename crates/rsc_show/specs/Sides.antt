-- What is beside a position of a haystack.
use Rattle.std.specs.Prelude.{◌≡◌, ℕ, ◌<◌, List, length}
use Rattle.rsc_primitives.specs.Utf8.{BeginsAt, EncodedFrom, EndsAt, IsInside}
use Rattle.rsc_show.specs.declared.positions.Side.{Side}
use Rattle.rsc_show.specs.declared.positions.Side.TheVariants.{Absent, Character, Inside, NoCharacter}

-- what is before the position i of h
abbrev pub IsSideBefore : List ℕ → ℕ → Side → Type 0
IsSideBefore h i Absent = i ≡ 0
IsSideBefore h i (Character c) = EndsAt h i c
IsSideBefore h i Inside = IsInside h i
IsSideBefore h i NoCharacter = (0 < i) × ((c : ℕ) → ¬ (EndsAt h i c)) × ¬ (IsInside h i)

-- what is after it
abbrev pub IsSideAfter : List ℕ → ℕ → Side → Type 0
IsSideAfter h i Absent = i ≡ length h
IsSideAfter h i (Character c) = BeginsAt h i c
IsSideAfter h i Inside = IsInside h i
IsSideAfter h i NoCharacter = (i < length h) × ((c : ℕ) → ¬ (BeginsAt h i c)) × ¬ (IsInside h i)

-- a character begins at s and ends after i
pub record ReachesPast (h : List ℕ) (s i : ℕ) : Type 0 where
  pub to : ℕ
  pub char : ℕ
  pub past : i < to
  pub encoded : EncodedFrom h s to char
