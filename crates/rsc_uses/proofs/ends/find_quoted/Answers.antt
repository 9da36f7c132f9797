use Rattle.std.proofs.Common.{refl, ◌+◌, arith}
use Rattle.rsc_primitives.specs.Utf8.{is_word_byte}
use Rattle.rsc_uses.specs.Texts.{text_of}
use Rattle.rsc_uses.proofs.EndsLemmas.{quoted_opens, quoted_closes, marks_quote}
use Rattle.rsc_uses.proofs.ends.find_quoted.Goals as goal

pub returns-in-Some-clause-closes : goal.returns-in-Some-clause-closes
returns-in-Some-clause-closes c =
    let first = rw (c.in-Some.is, c.in_ok-part.ensures.part) at c.in_ok-find_part.ensures.first_end in
    quoted_closes (text_of c.args.haystack.now is_word_byte) c.in-Some.ends.0 c.in-Some.ends.1 (first refl)

pub returns-in-Some-clause-opens : goal.returns-in-Some-clause-opens
returns-in-Some-clause-opens c =
    let first = rw (c.in-Some.is, c.in_ok-part.ensures.part) at c.in_ok-find_part.ensures.first_end in
    quoted_opens (text_of c.args.haystack.now is_word_byte) c.in-Some.ends.0 c.in-Some.ends.1 (first refl)

pub returns-in-Some-clause-earlier : goal.returns-in-Some-clause-earlier
returns-in-Some-clause-earlier c = λ k before mark.
    let opens = returns-in-Some-clause-opens c in
    let earlier = rw (c.in-Some.is, c.in_ok-part.ensures.part) at c.in_ok-find_part.ensures.first in
    let quoted = marks_quote (text_of c.args.haystack.now is_word_byte) k c.in-Some.ends.0 (λ m. let fits = c.type_inv.haystack m in omega (arith, fits))
    before mark opens in
    earlier k (c.in-Some.ends.0 + 1) before (omega (arith, quoted.1)) quoted.0

pub returns-in-None-clause-none : goal.returns-in-None-clause-none
returns-in-None-clause-none c = λ i j l one other.
    let none = rw (c.in-None.is, c.in_ok-part.ensures.part) at c.in_ok-find_part.ensures.none in
    let quoted = marks_quote (text_of c.args.haystack.now is_word_byte) i j (λ m. let fits = c.type_inv.haystack m in omega (arith, fits)) l one other in
    none i (j + 1) (omega (arith, l, quoted.1)) (omega (arith, quoted.1)) quoted.0
