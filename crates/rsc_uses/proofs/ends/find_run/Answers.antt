use Rattle.std.proofs.Common.{refl, ◌+◌, arith}
use Rattle.rsc_primitives.specs.Utf8.{is_word_byte}
use Rattle.rsc_uses.specs.Texts.{text_of}
use Rattle.rsc_uses.proofs.EndsLemmas.{a_run_is_in_range, a_run_is_longest, a_run_has_a_byte, one_is_a_run}
use Rattle.rsc_uses.proofs.ends.find_run.Goals as goal

pub returns-clause-bytes : goal.returns-clause-bytes
returns-clause-bytes c = λ k from to.
    let first = rw (c.in-Some.is, c.in_ok-run.ensures.part, c.range.ensures.part) at c.in_ok-find_part.ensures.first_end in
    a_run_is_in_range (text_of c.args.haystack.now is_word_byte) c.args.first c.args.last c.in-Some.ends.0 c.in-Some.ends.1 k (first refl) from to

pub returns-clause-longest : goal.returns-clause-longest
returns-clause-longest c = λ e.
    let first = rw (c.in-Some.is, c.in_ok-run.ensures.part, c.range.ensures.part) at c.in_ok-find_part.ensures.first_end in
    a_run_is_longest (text_of c.args.haystack.now is_word_byte) c.args.first c.args.last c.in-Some.ends.0 c.in-Some.ends.1 (first refl) e

pub returns-clause-found : goal.returns-clause-found
returns-clause-found c =
    let first = rw (c.in-Some.is, c.in_ok-run.ensures.part, c.range.ensures.part) at c.in_ok-find_part.ensures.first_end in
    a_run_has_a_byte (text_of c.args.haystack.now is_word_byte) c.args.first c.args.last c.in-Some.ends.0 c.in-Some.ends.1 (first refl)

pub returns-clause-earlier : goal.returns-clause-earlier
returns-clause-earlier c = λ k before byte.
    let earlier = rw (c.in-Some.is, c.in_ok-run.ensures.part, c.range.ensures.part) at c.in_ok-find_part.ensures.first in
    let run = one_is_a_run (text_of c.args.haystack.now is_word_byte) c.args.first c.args.last k byte in
    earlier k (k + 1) before (omega (arith, run.1)) run.0

pub returns-in-None-clause-none : goal.returns-in-None-clause-none
returns-in-None-clause-none c = λ k byte.
    let none = rw (c.in-None.is, c.in_ok-run.ensures.part, c.range.ensures.part) at c.in_ok-find_part.ensures.none in
    let run = one_is_a_run (text_of c.args.haystack.now is_word_byte) c.args.first c.args.last k byte in
    none k (k + 1) (omega (arith, run.1)) (omega (arith, run.1)) run.0
