use Rattle.std.proofs.Common.{inr}
use Rattle.rsc_uses.proofs.engine.both_match.Goals as goal

pub returns-in-None-2-clause-not : goal.returns-in-None-2-clause-not
returns-in-None-2-clause-not g c = λ _. inr (rw (c.in-None-2.is, c.find.ensures.kept) at c.in_ok-find-2.ensures.none)

pub returns-in-Some-2-clause-both : goal.returns-in-Some-2-clause-both
returns-in-Some-2-clause-both g c = λ _.
    let one = rw c.in-Some.is at c.in_ok-find.ensures.found in
    let other = rw (c.in-Some-2.is, c.find.ensures.kept) at c.in_ok-find-2.ensures.found in
    (λ none. c.at_most_one_first_match.ensures.none _ _ none one.is_first, λ none. c.at_most_one_first_match.ensures.none _ _ none other.is_first)
