use Rattle.std.proofs.Common.{[], ◌∷◌, arith}
use Rattle.rsc_search.specs.Inputs.{whole}
use Rattle.rsc_engine.specs.Searches.{search_in}
use Rattle.rsc_engine.specs.Parts.{pattern_of}
use Rattle.rsc_uses.proofs.PartsLemmas.{goes_of, match_of, may_be_next, none_left_out}
use Rattle.rsc_uses.proofs.parts.first_of_iteration.Goals as goal

pub returns-in-None-clause-none : goal.returns-in-None-clause-none
returns-in-None-clause-none g c = λ i j before within goes.
    let p = pattern_of c.args.part in
    let chars = g.W.WordClass.word_chars in
    let program = c.in_ok-program.program in
    let matches = rw c.new.ensures.patterns at c.in_ok-program.ensures.matches in
    let over = rw (c.in-None.is, c.in_ok-matches.ensures.made, c.new-input.ensures) at c.in_ok-next.ensures.none in
    none_left_out (search_in chars program (whole c.args.haystack.now)) i c.in_ok-program.ensures.utf8
    (c.a_next_match_is_of_a_pattern.ensures.over program (p ∷ []) (whole c.args.haystack.now) _ _ matches over
    (may_be_next chars program c.args.haystack.now i before)
    (match_of chars program c.args.word_class p [] c.args.haystack.now i j c.in_ok-program.ensures.matcher within goes))

pub returns-clause-found : goal.returns-clause-found
returns-clause-found g c =
    let p = pattern_of c.args.part in
    let chars = g.W.WordClass.word_chars in
    let matches = rw c.new.ensures.patterns at c.in_ok-program.ensures.matches in
    let found = rw (c.in-Some.is, c.in_ok-matches.ensures.made, c.new-input.ensures) at c.in_ok-next.ensures.found in
    rw (c.start.ensures.value, c.end.ensures.value)
    (goes_of chars c.in_ok-program.program c.args.word_class p c.args.haystack.now c.in-Some.found c.in_ok-program.ensures.matcher
    (c.a_next_match_is_of_a_pattern.ensures.some c.in_ok-program.program (p ∷ []) (whole c.args.haystack.now) _ _ _ matches found))

pub returns-clause-first : goal.returns-clause-first
returns-clause-first g c = λ i j before within goes.
    let p = pattern_of c.args.part in
    let chars = g.W.WordClass.word_chars in
    let program = c.in_ok-program.program in
    let matches = rw c.new.ensures.patterns at c.in_ok-program.ensures.matches in
    let found = rw (c.in-Some.is, c.in_ok-matches.ensures.made, c.new-input.ensures) at c.in_ok-next.ensures.found in
    let earlier = rw c.start.ensures.value at before in
    let m = match_of chars program c.args.word_class p [] c.args.haystack.now i j c.in_ok-program.ensures.matcher within goes in
    none_left_out (search_in chars program (whole c.args.haystack.now)) i c.in_ok-program.ensures.utf8
    (c.a_next_match_is_of_a_pattern.ensures.earlier program (p ∷ []) (whole c.args.haystack.now) _ _ c.in-Some.found _ matches found earlier
    (may_be_next chars program c.args.haystack.now i (omega (arith, earlier, found.is_of.ends.start, found.is_next.begins.end))) m)
