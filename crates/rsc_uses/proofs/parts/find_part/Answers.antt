use Rattle.std.proofs.Common.{[], ◌∷◌, ◌≡◌, refl, arith}
use Rattle.rsc_search.specs.Inputs.{whole}
use Rattle.rsc_engine.specs.Parts.{pattern_of, groups_as_pattern}
use Rattle.rsc_uses.proofs.parts.find_part.Goals as goal

pub returns-in-None-clause-none : goal.returns-in-None-clause-none
returns-in-None-clause-none g c = λ i j before within.
    c.a_match_of_one_pattern.ensures.none c.in_ok-program.program (pattern_of c.args.part) (10, c.args.word_class) (whole c.args.haystack.now)
    (rw c.new.ensures.patterns at c.in_ok-program.ensures.answers) c.in_ok-program.ensures.matcher
    (rw (c.in-None.is, c.new-input.ensures) at c.in_ok-find.ensures.none) refl i j (omega arith) before (λ other. absurd (other refl)) within

pub returns-clause-found : goal.returns-clause-found
returns-clause-found g c =
    let one = c.a_match_of_one_pattern.ensures.first c.in_ok-program.program (pattern_of c.args.part) (groups_as_pattern c.args.part) (10, c.args.word_class)
    (whole c.args.haystack.now) _ c.in-Some.found (rw c.new.ensures.patterns at c.in_ok-program.ensures.answers)
    (rw c.new.ensures.groups at c.in_ok-program.ensures.groups) c.in_ok-program.ensures.matcher
    (rw (c.in-Some.is, c.new-input.ensures) at c.in_ok-find.ensures.found) in
    rw (c.start.ensures.value, c.end.ensures.value) one.0.goes

pub returns-clause-first : goal.returns-clause-first
returns-clause-first g c = λ i j before within.
    let one = c.a_match_of_one_pattern.ensures.first c.in_ok-program.program (pattern_of c.args.part) (groups_as_pattern c.args.part) (10, c.args.word_class)
    (whole c.args.haystack.now) _ c.in-Some.found (rw c.new.ensures.patterns at c.in_ok-program.ensures.answers)
    (rw c.new.ensures.groups at c.in_ok-program.ensures.groups) c.in_ok-program.ensures.matcher
    (rw (c.in-Some.is, c.new-input.ensures) at c.in_ok-find.ensures.found) in
    one.1 i j (omega arith) (rw c.start.ensures.value at before) within

pub returns-clause-way : goal.returns-clause-way
returns-clause-way g c =
    let one = c.a_match_of_one_pattern.ensures.first c.in_ok-program.program (pattern_of c.args.part) (groups_as_pattern c.args.part) (10, c.args.word_class)
    (whole c.args.haystack.now) _ c.in-Some.found (rw c.new.ensures.patterns at c.in_ok-program.ensures.answers)
    (rw c.new.ensures.groups at c.in_ok-program.ensures.groups) c.in_ok-program.ensures.matcher
    (rw (c.in-Some.is, c.new-input.ensures) at c.in_ok-find.ensures.found) in
    rw (c.start.ensures.value, c.end.ensures.value) (one.0.records, one.0.way)

pub returns-clause-first_end : goal.returns-clause-first_end
returns-clause-first_end g c = λ loops.
    c.a_preferred_way_is_the_first_way.ensures.end _ (groups_as_pattern c.args.part ∷ []) (pattern_of c.args.part) 0 _ _ _ _ (returns-clause-way g c).1 loops
