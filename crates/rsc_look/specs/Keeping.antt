-- What it is for a partition of the bytes to keep assertions, and to be the coarsest one that does.
-- A partition is given by the test of its boundaries, which is asked of 0 to 254 alone.
use Rattle.std.specs.Prelude.{◌≡◌, ◌≢◌, ◌↔◌, ℕ, ◌+◌, ◌<◌, ◌≤◌, Bool, true, false, ◌⊎◌, List, [], ◌∷◌, length, slice_index}
use Rattle.std.specs.List.{All, Contains}
use Rattle.std.specs.FinSet as sets
use Rattle.rsc_primitives.specs.Utf8.{is_word_byte}
use Rattle.rsc_alphabet.specs.Partitions.{AreTogether, HasBoundariesOf, class_map}
use Rattle.rsc_look.specs.declared.assertion.Look.{Look}
use Rattle.rsc_look.specs.Looks.{is_unicode}
use Rattle.rsc_look.specs.Holds.{Holds}
use Rattle.rsc_look.specs.Boundaries.{boundaries_of_look}

-- a list of bytes
abbrev pub IsHaystack : List ℕ → Type 0
IsHaystack h = All (λ b. b < 256) h

-- two haystacks of one length, whose bytes at each position are together
pub record AreInterchanged (p : ℕ → Bool) (h k : List ℕ) : Type 0 where
  pub first : IsHaystack h
  pub second : IsHaystack k
  pub same_length : length h ≡ length k
  pub together : (i : ℕ) → i < length h → AreTogether p (slice_index h i) (slice_index k i)

-- wherever two haystacks differ, both bytes are below 128
abbrev pub DifferInAscii : List ℕ → List ℕ → Type 0
DifferInAscii h k = (i : ℕ) → i < length h → slice_index h i ≢ slice_index k i → (slice_index h i < 128) × (slice_index k i < 128)

-- the partition keeps a list of assertions: replacing bytes by bytes that are together with them changes none of them at any
-- position of any haystack; for a Unicode assertion, only if the two haystacks differ in ASCII
pub record Keeps (p : ℕ → Bool) (looks : List Look) (t : ℕ) (chars : ℕ → Bool) : Type 0 where
  pub at_bytes : (l : Look) → Contains looks l → is_unicode l ≡ false → (h k : List ℕ) → AreInterchanged p h k
      → (i : ℕ) → i ≤ length h → Holds l t chars h i ↔ Holds l t chars k i
  pub at_characters : (l : Look) → Contains looks l → is_unicode l ≡ true → (h k : List ℕ) → AreInterchanged p h k → DifferInAscii h k
      → (i : ℕ) → i ≤ length h → Holds l t chars h i ↔ Holds l t chars k i

-- the partition keeps the listed assertions, and each of its boundaries belongs to every partition that keeps them
pub record IsCoarsest (p : ℕ → Bool) (looks : List Look) (t : ℕ) (chars : ℕ → Bool) : Type 0 where
  pub keeps : Keeps p looks t chars
  pub least : (q : ℕ → Bool) → Keeps q looks t chars → (b : ℕ) → b < 255 → p b ≡ true → q b ≡ true

-- the word characters below 128 are the word bytes
abbrev pub AgreesWithAscii : (ℕ → Bool) → Type 0
AgreesWithAscii chars = (c : ℕ) → c < 128 → chars c ≡ is_word_byte c

-- the word characters below 128 are the word bytes, if a listed assertion asks for them
abbrev pub AgreesWhereAsked : (ℕ → Bool) → List Look → Type 0
AgreesWhereAsked chars looks = (l : Look) → Contains looks l → is_unicode l ≡ true → AgreesWithAscii chars

-- the assertion holds at i of one haystack and not of the other
abbrev pub Tells : Look → ℕ → (ℕ → Bool) → List ℕ → List ℕ → ℕ → Type 0
Tells l t chars h k i = (Holds l t chars h i × ¬ (Holds l t chars k i)) ⊎ (¬ (Holds l t chars h i) × Holds l t chars k i)

-- a listed assertion tells the byte b from the next one, at the position 0 or 1 of a haystack of that byte alone
pub record IsNeeded (b : ℕ) (looks : List Look) (t : ℕ) (chars : ℕ → Bool) : Type 0 where
  pub look : Look
  pub listed : Contains looks look
  pub position : ℕ
  pub at_an_end : position ≤ 1
  pub tells : Tells look t chars (b ∷ []) ((b + 1) ∷ []) position

-- the map is the class map of the coarsest partition that keeps the list, and each boundary of that partition is needed
pub record IsCoarsestMap (m : List ℕ) (looks : List Look) (t : ℕ) (chars : ℕ → Bool) : Type 0 where
  pub boundaries : ℕ → Bool
  pub classes : m ≡ class_map boundaries
  pub coarsest : IsCoarsest boundaries looks t chars
  pub needed : (b : ℕ) → b < 255 → boundaries b ≡ true → IsNeeded b looks t chars

-- p has the boundaries that the assertion l needs: every partition with the boundaries of p keeps l, each boundary of l belongs to every
-- partition that keeps l, and l tells the bytes on both sides of it apart
pub record HasNeededBoundaries (p : ℕ → Bool) (l : Look) (t : ℕ) (chars : ℕ → Bool) : Type 0 where
  pub kept : (q : ℕ → Bool) → HasBoundariesOf q p → Keeps q (l ∷ []) t chars
  pub least : (q : ℕ → Bool) → Keeps q (l ∷ []) t chars → (b : ℕ) → b < 255 → sets.contains (boundaries_of_look l t) b ≡ true → q b ≡ true
  pub needed : (b : ℕ) → b < 255 → sets.contains (boundaries_of_look l t) b ≡ true → IsNeeded b (l ∷ []) t chars
