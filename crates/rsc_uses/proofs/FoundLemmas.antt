-- What a search has found so far.
use Rattle.std.proofs.Common.{◌≡◌, ◌+◌, ◌<◌, ◌≤◌, ◌⊎◌, List, [], ◌∷◌, ◌++◌, Option, Some, None, refl, sym, ap, subst}
use Rattle.std.proofs.lemmas.Bool.{le-leb, lt-leb}
use Rattle.rsc_search.specs.Inputs.{InputParts}
use Rattle.rsc_search.specs.declared.span.Span.{Span}
use Rattle.rsc_engine.specs.NextMatches.{with_start}
use Rattle.rsc_uses.specs.Found.{goes_on, AreFound}

-- these are the first matches in the input, and then the other input is left
abbrev pub AreFirstFound : (InputParts → Option Span → Type 0) → InputParts → List Span → InputParts → Type 0
AreFirstFound Finds input [] left = input ≡ left
AreFirstFound Finds input (s ∷ rest) left =
    (input.span.start ≤ input.span.end) × Finds input (Some s) × AreFirstFound Finds (with_start input (goes_on s)) rest left

-- one more
pub found_more : (Finds : InputParts → Option Span → Type 0) (input : InputParts) (found : List Span) (left : InputParts) (s : Span)
    → AreFirstFound Finds input found left → left.span.start ≤ left.span.end → Finds left (Some s)
    → AreFirstFound Finds input (found ++ s ∷ []) (with_start left (goes_on s))
found_more Finds input [] left s same opens finds = (
  subst (λ (x : InputParts). x.span.start ≤ x.span.end) (sym same) opens,
  subst (λ (x : InputParts). Finds x (Some s)) (sym same) finds,
  ap (λ (x : InputParts). with_start x (goes_on s)) same,
)
found_more Finds input (one ∷ rest) left s first opens finds =
    (first.0, first.1, found_more Finds (with_start input (goes_on one)) rest left s first.2 opens finds)

-- the search goes on one byte after an empty match
pub goes_past : (s : Span) → s.end ≤ s.start → goes_on s ≡ s.end + 1
goes_past s l = rw (le-leb s.end s.start l) refl

-- and at the end of another
pub goes_on_at : (s : Span) → s.start < s.end → goes_on s ≡ s.end
goes_on_at s l = rw (lt-leb s.end s.start l) refl

-- and none after the last
pub found_all : (Finds : InputParts → Option Span → Type 0) (input : InputParts) (found : List Span) (left : InputParts)
    → AreFirstFound Finds input found left → (left.span.end < left.span.start) ⊎ Finds left None → AreFound Finds input found
found_all Finds input [] left same over = subst (λ (x : InputParts). (x.span.end < x.span.start) ⊎ Finds x None) (sym same) over
found_all Finds input (one ∷ rest) left first over = (first.0, first.1, found_all Finds (with_start input (goes_on one)) rest left first.2 over)
