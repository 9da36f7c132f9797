use Rattle.std.proofs.Common.{◌≡◌, ◌-◌, ◌∙◌, ℕ, List, length, Option, Some, None, IfSome, IfNone, refl, sym, ap}
use Rattle.rsc_nfa.specs.Steps.{place}
use Rattle.rsc_engine.specs.Searches.{Search, search_in}
use Rattle.rsc_engine.specs.Preferred.{IsLeftmostFirst, HasNoFirstMatch}
use Rattle.rsc_engine.specs.Ends.{IsLeftmostEnd}
use Rattle.rsc_uses.proofs.engine.leftmost_end_twice.Goals as goal

-- without a match there is no end
no_end : (e : Search) (o : Option ℕ) → ((run : List (ℕ × ℕ)) → HasNoFirstMatch e → ¬ (IsLeftmostFirst e run)) → IfSome o (IsLeftmostEnd e)
    → HasNoFirstMatch e → o ≡ None
no_end e None law found none = refl
no_end e (Some i) law found none = absurd (law found.run none found.is_first)

-- the end of the first match is that of its run
same_end : (e : Search) (o : Option ℕ) (run : List (ℕ × ℕ)) (end : ℕ)
    → ((one other : List (ℕ × ℕ)) → IsLeftmostFirst e one → IsLeftmostFirst e other → one ≡ other)
    → ((run : List (ℕ × ℕ)) → HasNoFirstMatch e → ¬ (IsLeftmostFirst e run)) → IfSome o (IsLeftmostEnd e) → IfNone o (HasNoFirstMatch e)
    → IsLeftmostFirst e run → end ≡ (place run (length run - 1)).1 → o ≡ Some end
same_end e None run end one law found none first at = absurd (law run none first)
same_end e (Some i) run end one law found none first at =
    ap Some (sym found.ends ∙ ap (λ (r : List (ℕ × ℕ)). (place r (length r - 1)).1) (one found.run run found.is_first first) ∙ sym at)

pub returns-in-None-clause-same : goal.returns-in-None-clause-same
returns-in-None-clause-same g c =
    no_end (search_in g.W.WordClass.word_chars c.args.program.now c.args.input.now) c.in_ok-by_table.by_table
    (c.at_most_one_first_match.ensures.none _) (rw c.requires.of_program at c.in_ok-by_table.ensures.found)
    (rw c.in-None.is at c.in_ok-find.ensures.none)

pub returns-in-Some-clause-same : goal.returns-in-Some-clause-same
returns-in-Some-clause-same g c =
    let found = rw c.in-Some.is at c.in_ok-find.ensures.found in
    same_end (search_in g.W.WordClass.word_chars c.args.program.now c.args.input.now) c.in_ok-by_table.by_table found.run c.end.result
    (c.at_most_one_first_match.ensures.first _) (c.at_most_one_first_match.ensures.none _)
    (rw c.requires.of_program at c.in_ok-by_table.ensures.found) (rw c.requires.of_program at c.in_ok-by_table.ensures.none)
    found.is_first (c.end.ensures.value ∙ found.is_of.ends.end)
