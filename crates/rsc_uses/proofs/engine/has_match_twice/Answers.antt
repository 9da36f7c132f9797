use Rattle.std.proofs.Common.{◌≡◌, Bool, true, false, refl}
use Rattle.rsc_uses.proofs.engine.has_match_twice.Goals as goal

none_then_false : {H : Type 0} (b : Bool) → (b ≡ true → ¬ H) → H → b ≡ false
none_then_false true some none = absurd (some refl none)
none_then_false false some none = refl

some_then_true : {H : Type 0} (b : Bool) → (b ≡ false → H) → ¬ H → b ≡ true
some_then_true true none some = refl
some_then_true false none some = absurd (some (none refl))

pub returns-in-None-clause-same : goal.returns-in-None-clause-same
returns-in-None-clause-same g c =
    none_then_false c.in_ok-by_table.by_table c.in_ok-by_table.ensures.found (rw c.requires.of_program (rw c.in-None.is at c.in_ok-find.ensures.none))

pub returns-in-Some-clause-same : goal.returns-in-Some-clause-same
returns-in-Some-clause-same g c =
    let found = rw c.in-Some.is at c.in_ok-find.ensures.found in
    some_then_true c.in_ok-by_table.by_table c.in_ok-by_table.ensures.none
    (λ none. c.at_most_one_first_match.ensures.none _ _ (rw c.requires.of_program at none) found.is_first)
