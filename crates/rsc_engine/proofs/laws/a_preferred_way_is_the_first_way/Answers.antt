use Rattle.std.proofs.Common.{ℕ, ◌≤◌, ◌∙◌, [], subst}
use Rattle.rsc_captures.specs.Groups.{slot_number}
use Rattle.rsc_engine.specs.GroupNumbers.{as_whole}
use Rattle.rsc_engine.proofs.FirstWaysLemmas.{way-end}
use Rattle.rsc_engine.proofs.GroupNumbersLemmas.{numbered-end, numbered-loops}
use Rattle.rsc_engine.proofs.WrittenLayoutLemmas.{preferred-first}
use Rattle.rsc_engine.proofs.laws.a_preferred_way_is_the_first_way.Goals as goal

pub returns-clause-way : goal.returns-clause-way
returns-clause-way c = λ x p most i j records way loops. preferred-first x p (λ k. k ≤ most) i j records loops way

pub returns-clause-whole : goal.returns-clause-whole
returns-clause-whole c = λ x lists p number most i j records way loops.
    preferred-first x (as_whole lists number p) (λ k. k ≤ most) i j records (numbered-loops (slot_number lists number) 1 p ∙ loops) way

pub returns-clause-end : goal.returns-clause-end
returns-clause-end c = λ x lists p number most i j records way loops.
    subst (λ (F : (ℕ → Type 0) → ℕ → ℕ → Type 0). F (λ k. k ≤ most) i j) (numbered-end x (slot_number lists number) 1 p)
    (way-end x (as_whole lists number p) (λ k. k ≤ most) (i, []) (j, records) (returns-clause-whole c x lists p number most i j records way loops))
