use Rattle.std.proofs.Common.{◌≡◌, [], ◌∷◌, false, refl}
use Rattle.std.specs.List.{list_any}
use Rattle.rsc_search.specs.Inputs.{whole}
use Rattle.rsc_engine.specs.Patterns.{may_be_empty}
use Rattle.rsc_engine.specs.Parts.{pattern_of, groups_as_pattern}
use Rattle.rsc_uses.proofs.PartsLemmas.{match_of}
use Rattle.rsc_uses.proofs.parts.first_in_text.Goals as goal

pub returns-in-None-clause-none : goal.returns-in-None-clause-none
returns-in-None-clause-none g c = λ i j within goes.
    let p = pattern_of c.args.part in
    let chars = g.W.WordClass.word_chars in
    let program = c.in_ok-program.program in
    let takes : list_any may_be_empty (p ∷ []) ≡ false = rw c.requires refl in
    let matches = rw c.new.ensures.patterns at c.in_ok-program.ensures.matches in
    let over = rw (c.in-None.is, c.in_ok-matches.ensures.made, c.new-input.ensures) at c.in_ok-next.ensures.none in
    c.only_overlapping_matches_are_left_out.ensures.over program (p ∷ []) (whole c.args.text.now) _ _ matches takes refl over
    (match_of chars program c.args.word_class p [] c.args.text.now i j c.in_ok-program.ensures.matcher within goes)

pub returns-clause-goes : goal.returns-clause-goes
returns-clause-goes g c =
    (c.a_match_of_one_pattern.ensures.next c.in_ok-program.program (pattern_of c.args.part) (groups_as_pattern c.args.part) (10, c.args.word_class)
    (whole c.args.text.now) _ _ c.in-Some.found (rw c.new.ensures.patterns at c.in_ok-program.ensures.answers)
    (rw c.new.ensures.groups at c.in_ok-program.ensures.groups) c.in_ok-program.ensures.matcher
    (rw (c.in-Some.is, c.in_ok-matches.ensures.made, c.new-input.ensures) at c.in_ok-next.ensures.found)).0.goes

pub returns-clause-first : goal.returns-clause-first
returns-clause-first g c = λ i j before within goes.
    let p = pattern_of c.args.part in
    let chars = g.W.WordClass.word_chars in
    let program = c.in_ok-program.program in
    let takes : list_any may_be_empty (p ∷ []) ≡ false = rw c.requires refl in
    let matches = rw c.new.ensures.patterns at c.in_ok-program.ensures.matches in
    let found = rw (c.in-Some.is, c.in_ok-matches.ensures.made, c.new-input.ensures) at c.in_ok-next.ensures.found in
    c.only_overlapping_matches_are_left_out.ensures.next program (p ∷ []) (whole c.args.text.now) _ _ c.in-Some.found _ matches takes refl found before
    (match_of chars program c.args.word_class p [] c.args.text.now i j c.in_ok-program.ensures.matcher within goes)
