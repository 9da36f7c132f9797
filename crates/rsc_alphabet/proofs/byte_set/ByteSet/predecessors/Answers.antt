use Rattle.std.proofs.Common.{◌≡◌, ◌<◌, ◌≤◌, ◌+◌, ◌-◌, arith, ⊎_elim}
use Rattle.std.proofs.lemmas.Bool.{cases_lt}
use Rattle.std.proofs.lemmas.Bool.Decides.{nat_tests}
use Rattle.rsc_alphabet.proofs.ByteSetLayoutLemmas.{contains_masked}
use Rattle.rsc_alphabet.proofs.byte_set.ByteSet.predecessors.Goals as goal

pub returns : goal.returns
returns c = λ b.
    ⊎_elim
    (λ (h : b < 128). let e : b + 1 ≡ 128 → b ≡ 127 = λ q. omega arith in grind (arith, nat_tests, contains_masked, e))
    (λ (h : 128 ≤ b).
    let e : b + 1 - 128 ≡ b - 128 + 1 = omega arith in
    grind (arith, nat_tests, contains_masked, e, c.shifted_right-2.ensures.others (b - 128)))
    (cases_lt b 128)
