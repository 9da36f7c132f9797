-- Spans that are replaced by what they have already.
use Rattle.std.proofs.Common.{◌≡◌, ◌≤◌, ◌+◌, ◌-◌, ◌++◌, ◌∷◌, [], ℕ, List, length, drop, true, false, nat_le, refl, sym, ap, ◌∙◌, arith, slice_range, All, drop-drop, take-append-drop}
use Rattle.std.proofs.lemmas.Bool.Decides.{nat_tests}
use Rattle.std.proofs.lemmas.List.Elements.{All-tail}
use Rattle.rsc_search.specs.declared.span.Span.{Span}
use Rattle.rsc_uses.specs.Replaced.{replaced}

seam : (h : List ℕ) (i j : ℕ) → i ≤ j → slice_range h i j ++ drop j h ≡ drop i h
seam h i j le =
    let e : i + (j - i) ≡ j = omega arith in
    let later : drop (j - i) (drop i h) ≡ drop j h = drop-drop (j - i) i h ∙ ap (λ n. drop n h) e in
    ap (λ t. slice_range h i j ++ t) (sym later) ∙ take-append-drop (j - i) (drop i h)

-- from any position on
pub same_text : (h r : List ℕ) (from : ℕ) (spans : List Span) → All (λ s. (s.start ≤ s.end) × (s.end ≤ length h)) spans
    → All (λ s. slice_range h s.start s.end ≡ r) spans → replaced h r from spans ≡ drop from h
same_text h r from [] within same = refl
same_text h r from (s ∷ rest) within same =
    let later = same_text h r s.end rest (All-tail (λ s. (s.start ≤ s.end) × (s.end ≤ length h)) s rest within)
    (All-tail (λ s. slice_range h s.start s.end ≡ r) s rest same) in
    let passed = same_text h r from rest (All-tail (λ s. (s.start ≤ s.end) × (s.end ≤ length h)) s rest within)
    (All-tail (λ s. slice_range h s.start s.end ≡ r) s rest same) in
    let ordered : s.start ≤ s.end = (within 0 s (omega arith)).0 in
    let part : slice_range h s.start s.end ≡ r = same 0 s (omega arith) in
    let whole : r ++ replaced h r s.end rest ≡ drop s.start h = ap (λ t. r ++ t) later ∙ ap (λ t. t ++ drop s.end h) (sym part)
    ∙ seam h s.start s.end ordered in
    elim (nat_le from s.start) as (λ v. nat_le from s.start ≡ v → replaced h r from (s ∷ rest) ≡ drop from h) [
      | true ↦ λ e. let le : from ≤ s.start =
          grind (arith, nat_tests) in rw e (ap (λ t. slice_range h from s.start ++ t) whole ∙ seam h from s.start le)
      | false ↦ λ e. rw e passed
    ] refl
