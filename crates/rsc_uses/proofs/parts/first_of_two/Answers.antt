use Rattle.std.proofs.Common.{◌≤◌, [], ◌∷◌, arith, refl}
use Rattle.rsc_search.specs.Inputs.{whole}
use Rattle.rsc_engine.specs.Parts.{pattern_of}
use Rattle.rsc_uses.proofs.PartsLemmas.{match_of, goes_nowhere}
use Rattle.rsc_uses.proofs.parts.first_of_two.Goals as goal

pub returns-clause-other : goal.returns-clause-other
returns-clause-other g c = λ second j within goes.
    let p = pattern_of c.args.one in
    let chars = g.W.WordClass.word_chars in
    let program = c.in_ok-program.program in
    let matches = rw (c.in_ok-add_pattern.ensures.patterns, c.new-builder.ensures.patterns) at c.in_ok-program.ensures.matches in
    let found = rw (c.in-Some.is, c.new-input.ensures) at c.in_ok-find.ensures.found in
    let least : c.in-Some.found.pattern ≤ 0 =
    c.a_match_is_of_the_least_pattern.ensures.first program (p ∷ (pattern_of c.args.other ∷ [])) (whole c.args.haystack.now) _ c.in-Some.found
    (record { pattern = 0; span = record { start = c.in-Some.found.span.start; end = j } }) matches c.in_ok-program.ensures.prefers_lesser found
    (match_of chars program c.args.word_class p (pattern_of c.args.other ∷ []) c.args.haystack.now c.in-Some.found.span.start j
    c.in_ok-program.ensures.matcher within goes) refl in
    absurd (omega (arith, least, second))

pub returns-in-None-clause-none : goal.returns-in-None-clause-none
returns-in-None-clause-none g c =
    let p = pattern_of c.args.one in
    let q = pattern_of c.args.other in
    let chars = g.W.WordClass.word_chars in
    let program = c.in_ok-program.program in
    let h = c.args.haystack.now in
    let matcher = c.in_ok-program.ensures.matcher in
    let matches = rw (c.in_ok-add_pattern.ensures.patterns, c.new-builder.ensures.patterns) at c.in_ok-program.ensures.matches in
    let none = rw (c.in-None.is, c.new-input.ensures) at c.in_ok-find.ensures.none in (
      goes_nowhere chars program c.args.word_class (p ∷ (q ∷ [])) 0 p h matcher refl
          (λ other. c.a_first_match_is_of_a_pattern.ensures.none program (p ∷ (q ∷ [])) (whole h) other matches none),
      goes_nowhere chars program c.args.word_class (p ∷ (q ∷ [])) 1 q h matcher refl
          (λ other. c.a_first_match_is_of_a_pattern.ensures.none program (p ∷ (q ∷ [])) (whole h) other matches none),
    )
