use Rattle.std.proofs.Common.{◌≡◌, ◌<◌, ◌≤◌, ◌-◌, arith, ⊎_elim}
use Rattle.std.proofs.lemmas.Bool.{cases_lt}
use Rattle.std.proofs.lemmas.Bool.Decides.{nat_tests}
use Rattle.rsc_alphabet.proofs.ByteSetLayoutLemmas.{contains_masked}
use Rattle.rsc_alphabet.proofs.byte_set.ByteSet.successors.Goals as goal

pub returns : goal.returns
returns c = λ b l.
    ⊎_elim
    (λ (h : b < 128). grind (arith, nat_tests, contains_masked))
    (λ (h : 128 ≤ b). ⊎_elim
    (λ (k : b < 129). let e : b ≡ 128 = omega arith in rw e (grind (arith, nat_tests, contains_masked)))
    (λ (k : 129 ≤ b).
    let e : b - 128 - 1 ≡ b - 1 - 128 = omega arith in
    grind (arith, nat_tests, contains_masked, e, c.shifted_left-2.ensures.others (b - 128)))
    (cases_lt b 129))
    (cases_lt b 128)
