use Rattle.std.proofs.Common.{◌≡◌, ℕ, Bool, List, [], ◌∷◌, refl, sym, subst, ap, ◌∙◌, Some}
use Rattle.rsc_nfa.specs.declared.state.State.TheVariants.{Accept}
use Rattle.rsc_search.specs.Matches.{Matched}
use Rattle.rsc_engine.specs.Searches.{Search, search_in}
use Rattle.rsc_engine.specs.Runs.{IsMatchOf}
use Rattle.rsc_engine.specs.NextMatches.{MatchesLeft, AreAllMatches, after}
use Rattle.rsc_engine.proofs.NextMatchesLemmas.{one_next, next_not_over}
use Rattle.rsc_engine.proofs.laws.at_most_one_list_of_all_matches.Goals as goal

same_pattern : (p q : ℕ) → Some (Accept p) ≡ Some (Accept q) → p ≡ q
same_pattern p q h = cc

-- a run makes one match
one_match : (e : Search) (run other : List (ℕ × ℕ)) (m n : Matched) → run ≡ other → IsMatchOf e run m → IsMatchOf e other n → m ≡ n
one_match e run other m n same x y =
    let z = subst (λ (r : List (ℕ × ℕ)). IsMatchOf e r n) (sym same) y in
    ap (λ (p : ℕ). made p m.span.start m.span.end) (same_pattern m.pattern n.pattern (sym x.pattern ∙ z.pattern))
    ∙ ap (λ (i : ℕ). made n.pattern i m.span.end) (x.start ∙ sym z.start)
    ∙ ap (λ (i : ℕ). made n.pattern n.span.start i) (x.end ∙ sym z.end)
  where
    made : ℕ → ℕ → ℕ → Matched
    made p i j = record { pattern = p; span = record { start = i; end = j } }

one_list : {W : Type 0} (chars : W → ℕ → Bool) (left : MatchesLeft W) (one other : List Matched) → AreAllMatches chars left one → AreAllMatches chars left other
    → one ≡ other
one_list chars left [] [] x y = refl
one_list chars left [] (n ∷ rest) x y =
    absurd (next_not_over (search_in chars left.program left.input) left.last y.0.1.run x y.0.1.is_next)
one_list chars left (m ∷ rest) [] x y =
    absurd (next_not_over (search_in chars left.program left.input) left.last x.0.1.run y x.0.1.is_next)
one_list chars left (m ∷ rest) (n ∷ others) x y =
    let e = search_in chars left.program left.input in
    let runs = one_next e left.last x.0.1.run y.0.1.run x.0.1.is_next y.0.1.is_next in
    let same : m ≡ n = one_match e x.0.1.run y.0.1.run m n runs x.0.1.is_of.ends y.0.1.is_of.ends in
    ap (λ (found : Matched). found ∷ rest) same
    ∙ ap (λ (all : List Matched). n ∷ all)
    (one_list chars (after left n) rest others (subst (λ (found : Matched). AreAllMatches chars (after left found) rest) same x.1) y.1)

pub returns : goal.returns
returns g c = one_list g.W.WordClass.word_chars
