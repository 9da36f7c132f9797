-- What stands for each match is the mask, whatever its groups are.
use Rattle.std.proofs.Common.{◌≡◌, ◌∙◌, ℕ, Bool, List, [], ◌∷◌, ◌++◌, drop, slice_range, map, inl, inr, None, refl, ap}
use Rattle.rsc_search.specs.Matches.{Matched}
use Rattle.rsc_captures.specs.Captured.{Captured}
use Rattle.rsc_search.specs.Inputs.{whole}
use Rattle.rsc_engine.specs.Searches.{Compiled, search_in}
use Rattle.rsc_engine.specs.NextMatches.{MatchesLeft, AreAllMatches, after}
use Rattle.rsc_replace.specs.Replacements.{MatchWithCaptures, AreAllWithCaptures, AreFirstWithCaptures, with_matches_filled}
use Rattle.rsc_replace.specs.Templates.{filled}
use Rattle.rsc_uses.specs.Masked.{masked, IsFirstMasked}

abbrev pub matches_of : List MatchWithCaptures → List Matched
matches_of all = map (λ (m : MatchWithCaptures). m.found) all

pub all_found : {W : Type 0} (chars : W → ℕ → Bool) (left : MatchesLeft W) (all : List MatchWithCaptures) → AreAllWithCaptures chars left all
    → AreAllMatches chars left (matches_of all)
all_found chars left [] over = over
all_found chars left (m ∷ rest) found = ((m.captures, found.0), all_found chars (after left m.found) rest found.2)

pub filled_masked : (text mask : List ℕ) → ((captures : Captured) → filled text captures mask ≡ mask) → (from : ℕ) (all : List MatchWithCaptures)
    → with_matches_filled text mask from all ≡ masked text mask from (matches_of all)
filled_masked text mask law from [] = refl
filled_masked text mask law from (m ∷ rest) =
    let between = slice_range text from m.found.span.start in
    ap (λ (x : List ℕ). between ++ (x ++ with_matches_filled text mask m.found.span.end rest)) (law m.captures)
    ∙ ap (λ (x : List ℕ). between ++ (mask ++ x)) (filled_masked text mask law m.found.span.end rest)

-- of one match at most
pub first_masked : {W : Type 0} (chars : W → ℕ → Bool) (program : Compiled W) (text mask out : List ℕ)
    → ((captures : Captured) → filled text captures mask ≡ mask) → (first : List MatchWithCaptures)
    → AreFirstWithCaptures chars 1 (record { program = program; input = whole text; last = None }) first → out ≡ with_matches_filled text mask 0 first
    → IsFirstMasked (search_in chars program (whole text)) text mask out
first_masked chars program text mask out law [] over is = inl (is, over)
first_masked chars program text mask out law (m ∷ []) next is = inr (
  m.found,
  m.captures,
  next.0,
  is ∙ ap (λ (x : List ℕ). slice_range text 0 m.found.span.start ++ (x ++ drop m.found.span.end text)) (law m.captures),
)
first_masked chars program text mask out law (m ∷ (n ∷ rest)) next is = let none : n ∷ rest ≡ [] = next.2 in absurd (cc)
