-- Partitions that keep assertions and part ranges of bytes.
use Rattle.std.specs.Prelude.{◌≡◌, ℕ, ◌+◌, ◌<◌, ◌≤◌, Bool, true, ◌⊎◌, List}
use Rattle.std.specs.List.{Contains}
use Rattle.std.specs.FinSet as sets
use Rattle.rsc_alphabet.specs.Partitions.{class_map}
use Rattle.rsc_look.specs.declared.assertion.Look.{Look}
use Rattle.rsc_look.specs.Boundaries.{boundaries_of_look}
use Rattle.rsc_look.specs.Keeping.{IsNeeded, Keeps}

-- the range begins at the byte after b, or ends at b
abbrev pub BoundsRange : ℕ → ℕ × ℕ → Type 0
BoundsRange b r = (b + 1 ≡ r.0) ⊎ (b ≡ r.1)

-- a listed range that holds a byte begins or ends there
pub record HasBoundary (b : ℕ) (ranges : List (ℕ × ℕ)) : Type 0 where
  pub range : ℕ × ℕ
  pub listed : Contains ranges range
  pub holds_a_byte : range.0 ≤ range.1
  pub boundary : BoundsRange b range

-- a listed assertion has the boundary
pub record IsOfLook (b : ℕ) (looks : List Look) (t : ℕ) : Type 0 where
  pub look : Look
  pub listed : Contains looks look
  pub boundary : sets.contains (boundaries_of_look look t) b ≡ true

-- the partition has a boundary where a listed range that holds a byte begins or ends
abbrev pub PartsRanges : (ℕ → Bool) → List (ℕ × ℕ) → Type 0
PartsRanges p ranges = (r : ℕ × ℕ) → Contains ranges r → r.0 ≤ r.1 → (b : ℕ) → b < 255 → BoundsRange b r → p b ≡ true

-- the map is the class map of the coarsest partition that keeps the assertions and parts the ranges; at each of its boundaries an
-- assertion tells the two bytes apart, or a range begins or ends
pub record IsCoarsestParting (m : List ℕ) (ranges : List (ℕ × ℕ)) (looks : List Look) (t : ℕ) (chars : ℕ → Bool) : Type 0 where
  pub boundaries : ℕ → Bool
  pub classes : m ≡ class_map boundaries
  pub keeps : Keeps boundaries looks t chars
  pub parts : PartsRanges boundaries ranges
  pub least : (q : ℕ → Bool) → Keeps q looks t chars → PartsRanges q ranges → (b : ℕ) → b < 255 → boundaries b ≡ true → q b ≡ true
  pub needed : (b : ℕ) → b < 255 → boundaries b ≡ true → IsNeeded b looks t chars ⊎ HasBoundary b ranges
