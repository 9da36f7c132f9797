use Rattle.std.proofs.Common.{length, sym, arith}
use Rattle.std.proofs.lemmas.List.Sums.{prefix_len_is}
use Rattle.rsc_primitives.specs.Utf8.{is_word_byte}
use Rattle.rsc_replace.proofs.template.word_count.Goals as goal

pub returns-then-not-is_word_byte : goal.returns-then-not-is_word_byte
returns-then-not-is_word_byte c =
    sym (prefix_len_is is_word_byte c.args.bytes.now c.loop-at.at 0 (omega arith) c.loop-at.invariant
    (λ _. grind (arith, c.is_word_byte.ensures, c.if-not-is_word_byte.true)))

pub returns : goal.returns
returns c =
    sym (prefix_len_is is_word_byte c.args.bytes.now (length c.args.bytes.now) 0 (omega arith) (λ k lt. c.loop-at.invariant k (omega arith))
    (λ lt. absurd (omega (arith, lt))))
