use Rattle.std.proofs.Common.{◌==◌, ℕ, not, length, sym, arith}
use Rattle.std.proofs.lemmas.Bool.Decides.{nat_tests}
use Rattle.std.proofs.lemmas.List.Sums.{prefix_len_is}
use Rattle.rsc_replace.proofs.template.count_before.Goals as goal

pub returns-then-bytes-at : goal.returns-then-bytes-at
returns-then-bytes-at c =
    sym (prefix_len_is (λ (other : ℕ). not (other == c.args.byte)) c.args.bytes.now c.loop-at.at 0 (omega arith) c.loop-at.invariant
    (λ _. grind (arith, nat_tests, c.if-bytes-at.true)))

pub returns : goal.returns
returns c =
    sym (prefix_len_is (λ (other : ℕ). not (other == c.args.byte)) c.args.bytes.now (length c.args.bytes.now) 0 (omega arith)
    (λ k lt. c.loop-at.invariant k (omega arith)) (λ lt. absurd (omega (arith, lt))))
