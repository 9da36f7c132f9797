-- Partitions that keep assertions and part ranges: what one more range adds, and why no coarser one does.
use Rattle.std.proofs.Common.{◌≡◌, ◌↔◌, ◌<◌, ◌≤◌, ◌∷◌, ◌++◌, ◌||◌, [], ℕ, Bool, true, List, refl, sym, subst, ◌∙◌, arith, ◌⊎◌, inl, inr, ⊎_elim, Contains}
use Rattle.std.specs.FinSet as sets
use Rattle.std.proofs.lemmas.Bool.{or_cases, or_left, or_right}
use Rattle.std.proofs.lemmas.List.Elements.{Contains-append_left, Contains-push, Contains-push_cases}
use Rattle.rsc_alphabet.specs.Partitions.{class_map}
use Rattle.rsc_look.specs.declared.assertion.Look.{Look}
use Rattle.rsc_look.specs.Boundaries.{boundaries_of_look}
use Rattle.rsc_look.specs.Keeping.{IsCoarsestMap, HasNeededBoundaries, IsNeeded, Keeps}
use Rattle.rsc_look.specs.KeepingLaws.{same_as_only}
use Rattle.rsc_show.specs.Ranges.{HasBoundary, IsCoarsestParting, BoundsRange, IsOfLook, PartsRanges}

-- one more range parts, if its boundaries are added and no boundary is lost
pub parts_more : (p q : ℕ → Bool) (ranges : List (ℕ × ℕ)) (r : ℕ × ℕ) → ((b : ℕ) → p b ≡ true → q b ≡ true)
    → (r.0 ≤ r.1 → (b : ℕ) → b < 255 → BoundsRange b r → q b ≡ true) → PartsRanges p ranges → PartsRanges q (ranges ++ r ∷ [])
parts_more p q ranges r grows added before = λ x inside fills b lt boundary.
    ⊎_elim (λ (old : Contains ranges x). grows b (before x old fills b lt boundary))
    (λ (same : r ≡ x). added (subst (λ y. y.0 ≤ y.1) (sym same) fills) b lt (subst (λ y. BoundsRange b y) (sym same) boundary))
    (Contains-push_cases ranges r x inside)

-- a boundary of one of the ranges is one of them and one more
pub boundary_kept : (b : ℕ) (ranges : List (ℕ × ℕ)) (r : ℕ × ℕ) → HasBoundary b ranges → HasBoundary b (ranges ++ r ∷ [])
boundary_kept b ranges r e = record {
  range = e.range;
  listed = Contains-append_left ranges (r ∷ []) e.range e.listed;
  holds_a_byte = e.holds_a_byte;
  boundary = e.boundary;
}

pub boundary_added : (b : ℕ) (ranges : List (ℕ × ℕ)) (r : ℕ × ℕ) → r.0 ≤ r.1 → BoundsRange b r → HasBoundary b (ranges ++ r ∷ [])
boundary_added b ranges r fills boundary = record { range = r; listed = Contains-push ranges r; holds_a_byte = fills; boundary = boundary }

keeps_one : (q : ℕ → Bool) (looks : List Look) (l : Look) (t : ℕ) (chars : ℕ → Bool) → Contains looks l → Keeps q looks t chars
    → Keeps q (l ∷ []) t chars
keeps_one q looks l t chars listed keeps = record {
  at_bytes = λ m here. keeps.at_bytes m (subst (λ x. Contains looks x) (same_as_only l m here) listed);
  at_characters = λ m here. keeps.at_characters m (subst (λ x. Contains looks x) (same_as_only l m here) listed);
}

needed_in : (b : ℕ) (looks : List Look) (l : Look) (t : ℕ) (chars : ℕ → Bool) → Contains looks l → IsNeeded b (l ∷ []) t chars
    → IsNeeded b looks t chars
needed_in b looks l t chars listed needed = record {
  look = needed.look;
  listed = subst (λ x. Contains looks x) (same_as_only l needed.look needed.listed) listed;
  position = needed.position;
  at_an_end = needed.at_an_end;
  tells = needed.tells;
}

-- a partition that keeps and parts, and has no boundary but those of assertions and boundaries, is the coarsest one
pub coarsest_parting : (p : ℕ → Bool) (ranges : List (ℕ × ℕ)) (looks : List Look) (t : ℕ) (chars : ℕ → Bool)
    → ((l : Look) → HasNeededBoundaries (sets.contains (boundaries_of_look l t)) l t chars) → Keeps p looks t chars → PartsRanges p ranges
    → ((b : ℕ) → b < 255 → p b ≡ true → HasBoundary b ranges ⊎ IsOfLook b looks t) → IsCoarsestParting (class_map p) ranges looks t chars
coarsest_parting p ranges looks t chars exact keeps parts only = record {
  boundaries = p;
  classes = refl;
  keeps = keeps;
  parts = parts;
  least = λ q kept parted b lt e.
      ⊎_elim (λ (h : HasBoundary b ranges). parted h.range h.listed h.holds_a_byte b lt h.boundary)
      (λ (f : IsOfLook b looks t). (exact f.look).least q (keeps_one q looks f.look t chars f.listed kept) b lt f.boundary)
      (only b lt e);
  needed = λ b lt e.
      ⊎_elim (λ (h : HasBoundary b ranges). inr h)
      (λ (f : IsOfLook b looks t). inl (needed_in b looks f.look t chars f.listed ((exact f.look).needed b lt f.boundary)))
      (only b lt e);
}

-- without ranges it is the coarsest partition that keeps the assertions
pub without_ranges : (m : List ℕ) (looks : List Look) (t : ℕ) (chars : ℕ → Bool) → IsCoarsestParting m [] looks t chars
    → IsCoarsestMap m looks t chars
without_ranges m looks t chars c = record {
  boundaries = c.boundaries;
  classes = c.classes;
  coarsest = record {
    keeps = c.keeps;
    least = λ q kept b lt e. c.least q kept (λ r listed. let inside = listed.1 in absurd (omega (arith, inside))) b lt e;
  };
  needed = λ b lt e.
      ⊎_elim (λ (n : IsNeeded b looks t chars). n)
      (λ (h : HasBoundary b []). let inside = h.listed.1 in absurd (omega (arith, inside)))
      (c.needed b lt e);
}

-- the same without ranges
pub coarsest_map : (p : ℕ → Bool) (ranges : List (ℕ × ℕ)) (looks : List Look) (t : ℕ) (chars : ℕ → Bool)
    → ((l : Look) → HasNeededBoundaries (sets.contains (boundaries_of_look l t)) l t chars) → Keeps p looks t chars → PartsRanges p ranges
    → ((b : ℕ) → b < 255 → p b ≡ true → HasBoundary b ranges ⊎ IsOfLook b looks t) → ranges ≡ [] → IsCoarsestMap (class_map p) looks t chars
coarsest_map p ranges looks t chars exact keeps parts only none =
    without_ranges (class_map p) looks t chars
    (subst (λ r. IsCoarsestParting (class_map p) r looks t chars) none (coarsest_parting p ranges looks t chars exact keeps parts only))

-- the set has the boundaries of the ranges, and no others
abbrev pub AreBoundariesOf : (ℕ → Bool) → List (ℕ × ℕ) → Type 0
AreBoundariesOf p ranges = PartsRanges p ranges × ((b : ℕ) → b < 255 → p b ≡ true → HasBoundary b ranges)

-- and so it has with those of one more range that holds a byte
pub boundaries_added : (p q boundaries : ℕ → Bool) (ranges : List (ℕ × ℕ)) (r : ℕ × ℕ) → ((b : ℕ) → q b ≡ (p b || boundaries b))
    → ((b : ℕ) → b < 255 → (boundaries b ≡ true) ↔ BoundsRange b r) → r.0 ≤ r.1 → AreBoundariesOf p ranges
    → AreBoundariesOf q (ranges ++ r ∷ [])
boundaries_added p q boundaries ranges r joined boundary fills before = (
  parts_more p q ranges r (λ b e. joined b ∙ or_left (p b) (boundaries b) e)
      (λ _ b lt at. joined b ∙ or_right (p b) (boundaries b) ((boundary b lt).1 at)) before.0,
  λ b lt e.
      ⊎_elim (λ (old : p b ≡ true). boundary_kept b ranges r (before.1 b lt old))
      (λ new. boundary_added b ranges r fills ((boundary b lt).0 new))
      (or_cases (p b) (boundaries b) (sym (joined b) ∙ e)),
)

-- and as it is, with one more range that holds none
pub boundaries_as_they_are : (p : ℕ → Bool) (ranges : List (ℕ × ℕ)) (r : ℕ × ℕ) → ¬ (r.0 ≤ r.1) → AreBoundariesOf p ranges
    → AreBoundariesOf p (ranges ++ r ∷ [])
boundaries_as_they_are p ranges r empty before = (
  parts_more p p ranges r (λ b e. e) (λ fills. absurd (empty fills)) before.0,
  λ b lt e. boundary_kept b ranges r (before.1 b lt e),
)
