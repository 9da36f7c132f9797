use Rattle.std.proofs.Common.{[], ◌∷◌, ◌≤◌, length, arith, refl}
use Rattle.rsc_search.specs.Inputs.{whole}
use Rattle.rsc_engine.specs.Parts.{pattern_of}
use Rattle.rsc_engine.specs.Patterns.{subject_of}
use Rattle.rsc_engine.specs.Searches.{search_in}
use Rattle.rsc_uses.specs.Texts.{text_of}
use Rattle.rsc_uses.proofs.PartsLemmas.{goes_of, goes_to, first_end_of, ends_to, match_of, goes_nowhere}
use Rattle.rsc_uses.proofs.parts.leftmost_end_of_part.Goals as goal

pub returns-clause-first : goal.returns-clause-first
returns-clause-first g c =
    let p = pattern_of c.args.part in
    let chars = g.W.WordClass.word_chars in
    let program = c.in_ok-program.program in
    let matcher = c.in_ok-program.ensures.matcher in
    let matches = rw c.new.ensures.patterns at c.in_ok-program.ensures.matches in
    let firsts = rw c.new.ensures.patterns at c.in_ok-program.ensures.first_ends in
    let ends = rw (c.in-Some.is, c.new-input.ensures, c.new-dfa.ensures) at c.in_ok-leftmost_end.ensures.found in
    let one = c.a_leftmost_end_is_of_the_least_pattern.ensures program (p ∷ []) (whole c.args.haystack.now) c.in-Some.end matches
    c.in_ok-program.ensures.prefers_lesser firsts ends in (
      one.0.span.start,
      goes_to (text_of c.args.haystack.now (chars c.args.word_class)) p one.0.span.start one.0.span.end c.in-Some.end one.2
          (goes_of chars program c.args.word_class p c.args.haystack.now one.0 matcher one.1),
      λ k j before within goes.
          let least = one.3 _ (match_of chars program c.args.word_class p [] c.args.haystack.now k j matcher within goes) in
          absurd (omega (arith, least, before)),
      λ loops.
          ends_to (text_of c.args.haystack.now (chars c.args.word_class)) p
          (λ j. j ≤ length c.args.haystack.now) one.0.span.start one.0.span.end c.in-Some.end
          one.2
          (first_end_of chars program c.args.word_class p c.args.haystack.now one.0 matcher one.1
          (λ its.
          ends_to (subject_of (search_in chars program (whole c.args.haystack.now))) p (λ j. j ≤ length c.args.haystack.now) one.0.span.start c.in-Some.end
          one.0.span.end (omega (arith, one.2)) (one.5 p its loops))),
    )

pub returns-clause-within : goal.returns-clause-within
returns-clause-within g c =
    let p = pattern_of c.args.part in
    let matches = rw c.new.ensures.patterns at c.in_ok-program.ensures.matches in
    let firsts = rw c.new.ensures.patterns at c.in_ok-program.ensures.first_ends in
    let ends = rw (c.in-Some.is, c.new-input.ensures, c.new-dfa.ensures) at c.in_ok-leftmost_end.ensures.found in
    let one = c.a_leftmost_end_is_of_the_least_pattern.ensures c.in_ok-program.program (p ∷ []) (whole c.args.haystack.now) c.in-Some.end matches
    c.in_ok-program.ensures.prefers_lesser firsts ends in
    omega (arith, one.1.end, one.2)

pub returns-in-None-clause-none : goal.returns-in-None-clause-none
returns-in-None-clause-none g c =
    let p = pattern_of c.args.part in
    let program = c.in_ok-program.program in
    let matches = rw c.new.ensures.patterns at c.in_ok-program.ensures.matches in
    let none = rw (c.in-None.is, c.new-input.ensures, c.new-dfa.ensures) at c.in_ok-leftmost_end.ensures.none in
    goes_nowhere g.W.WordClass.word_chars program c.args.word_class (p ∷ []) 0 p c.args.haystack.now c.in_ok-program.ensures.matcher refl
    (λ other. c.a_first_match_is_of_a_pattern.ensures.none program (p ∷ []) (whole c.args.haystack.now) other matches none)
