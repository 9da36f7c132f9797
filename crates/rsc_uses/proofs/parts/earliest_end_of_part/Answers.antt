use Rattle.std.proofs.Common.{[], ◌∷◌, refl}
use Rattle.rsc_search.specs.Inputs.{whole}
use Rattle.rsc_engine.specs.Parts.{pattern_of}
use Rattle.rsc_uses.specs.Texts.{text_of}
use Rattle.rsc_uses.proofs.PartsLemmas.{goes_of, goes_to, goes_nowhere}
use Rattle.rsc_uses.proofs.parts.earliest_end_of_part.Goals as goal

pub returns-clause-end : goal.returns-clause-end
returns-clause-end g c =
    let p = pattern_of c.args.part in
    let chars = g.W.WordClass.word_chars in
    let matches = rw c.new.ensures.patterns at c.in_ok-program.ensures.matches in
    let ends = rw (c.in-Some.is, c.new-input.ensures, c.new-dfa.ensures) at c.in_ok-earliest_end.ensures.found in
    let one = c.an_earliest_end_is_of_a_pattern.ensures.some c.in_ok-program.program (p ∷ []) (whole c.args.haystack.now) c.in-Some.end matches ends in (
      one.0.span.start,
      goes_to (text_of c.args.haystack.now (chars c.args.word_class)) p one.0.span.start one.0.span.end c.in-Some.end one.3
          (goes_of chars c.in_ok-program.program c.args.word_class p c.args.haystack.now one.0 c.in_ok-program.ensures.matcher one.1),
    )

pub returns-in-None-clause-none : goal.returns-in-None-clause-none
returns-in-None-clause-none g c =
    let p = pattern_of c.args.part in
    let program = c.in_ok-program.program in
    let matches = rw c.new.ensures.patterns at c.in_ok-program.ensures.matches in
    let none = rw (c.in-None.is, c.new-input.ensures, c.new-dfa.ensures) at c.in_ok-earliest_end.ensures.none in
    goes_nowhere g.W.WordClass.word_chars program c.args.word_class (p ∷ []) 0 p c.args.haystack.now c.in_ok-program.ensures.matcher refl
    (λ other. c.a_first_match_is_of_a_pattern.ensures.none program (p ∷ []) (whole c.args.haystack.now) other matches none)
