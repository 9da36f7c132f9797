use Rattle.std.proofs.Common.{◌≡◌, [], ◌∷◌, arith}
use Rattle.rsc_engine.specs.Parts.{pattern_of, groups_of_part, groups_as_pattern}
use Rattle.rsc_uses.proofs.PartsLemmas.{has_room, first_group, count_slots}
use Rattle.rsc_uses.proofs.parts.find_with_slots.Goals as goal

pub returns-clause-start : goal.returns-clause-start
returns-clause-start g c =
    let one = c.a_match_of_one_pattern.ensures.first c.in_ok-program.program (pattern_of c.args.part) (groups_as_pattern c.args.part) (10, c.args.word_class)
    c.args.input.now _ c.in-Some.found (rw c.new.ensures.patterns at c.in_ok-program.ensures.answers)
    (rw c.new.ensures.groups at c.in_ok-program.ensures.groups) c.in_ok-program.ensures.matcher (rw c.in-Some.is at c.in_ok-find.ensures.found) in
    let room = has_room c.in_ok-program.program (groups_of_part c.args.part) c.in_ok-captures.captures c.find.new.captures
    (rw c.new.ensures.groups at c.in_ok-program.ensures.groups) c.in_ok-captures.ensures.made c.find.ensures.kept_slots in
    rw one.0.number at (c.the_first_group_is_the_match.ensures.first_start c.in_ok-program.program c.args.input.now _ _ c.in_ok-program.ensures.records_ends
    (rw c.in-Some.is at c.in_ok-find.ensures.found) (omega (arith, one.0.number, room)))

pub returns-clause-end : goal.returns-clause-end
returns-clause-end g c =
    let one = c.a_match_of_one_pattern.ensures.first c.in_ok-program.program (pattern_of c.args.part) (groups_as_pattern c.args.part) (10, c.args.word_class)
    c.args.input.now _ c.in-Some.found (rw c.new.ensures.patterns at c.in_ok-program.ensures.answers)
    (rw c.new.ensures.groups at c.in_ok-program.ensures.groups) c.in_ok-program.ensures.matcher (rw c.in-Some.is at c.in_ok-find.ensures.found) in
    let room = has_room c.in_ok-program.program (groups_of_part c.args.part) c.in_ok-captures.captures c.find.new.captures
    (rw c.new.ensures.groups at c.in_ok-program.ensures.groups) c.in_ok-captures.ensures.made c.find.ensures.kept_slots in
    rw one.0.number at (c.the_first_group_is_the_match.ensures.first_end c.in_ok-program.program c.args.input.now _ _ c.in_ok-program.ensures.records_ends
    (rw c.in-Some.is at c.in_ok-find.ensures.found) (omega (arith, one.0.number, room)))

pub returns-clause-group : goal.returns-clause-group
returns-clause-group g c =
    let one = c.a_match_of_one_pattern.ensures.first c.in_ok-program.program (pattern_of c.args.part) (groups_as_pattern c.args.part) (10, c.args.word_class)
    c.args.input.now _ c.in-Some.found (rw c.new.ensures.patterns at c.in_ok-program.ensures.answers)
    (rw c.new.ensures.groups at c.in_ok-program.ensures.groups) c.in_ok-program.ensures.matcher (rw c.in-Some.is at c.in_ok-find.ensures.found) in
    first_group c.in_ok-program.program (groups_of_part c.args.part) c.in_ok-captures.captures c.find.new.captures c.in-Some.found
    (rw c.new.ensures.groups at c.in_ok-program.ensures.groups) c.in_ok-captures.ensures.made c.find.ensures.kept_slots c.find.ensures.kept_groups one.0.number
    (c.the_first_group_is_the_match.ensures.first_group c.in_ok-program.program c.args.input.now _ _ c.in_ok-program.ensures.records_ends
    (rw c.in-Some.is at c.in_ok-find.ensures.found))

pub returns-clause-slots : goal.returns-clause-slots
returns-clause-slots g c =
    count_slots (groups_as_pattern c.args.part ∷ []) c.in_ok-program.program.automaton.groups c.in_ok-captures.captures c.find.new.captures
    (rw c.new.ensures.groups at c.in_ok-program.ensures.groups) c.in_ok-captures.ensures.made c.find.ensures.kept_slots

pub returns-clause-preferred : goal.returns-clause-preferred
returns-clause-preferred g c =
    let one = c.a_match_of_one_pattern.ensures.first c.in_ok-program.program (pattern_of c.args.part) (groups_as_pattern c.args.part) (10, c.args.word_class)
    c.args.input.now _ c.in-Some.found (rw c.new.ensures.patterns at c.in_ok-program.ensures.answers)
    (rw c.new.ensures.groups at c.in_ok-program.ensures.groups) c.in_ok-program.ensures.matcher (rw c.in-Some.is at c.in_ok-find.ensures.found) in
    (one.0.records, one.0.way, one.0.hold.slots)

pub returns-clause-way : goal.returns-clause-way
returns-clause-way g c = λ loops.
    let w = returns-clause-preferred g c in (
      w.0,
      c.a_preferred_way_is_the_first_way.ensures.whole _ (groups_as_pattern c.args.part ∷ []) (pattern_of c.args.part) 0 _ _ _ _ w.1 loops,
      w.2,
    )

pub returns-in-None-clause-none : goal.returns-in-None-clause-none
returns-in-None-clause-none g c = λ i j low high anchored wanted.
    c.a_match_of_one_pattern.ensures.none c.in_ok-program.program (pattern_of c.args.part) (10, c.args.word_class) c.args.input.now
    (rw c.new.ensures.patterns at c.in_ok-program.ensures.answers) c.in_ok-program.ensures.matcher (rw c.in-None.is at c.in_ok-find.ensures.none)
    wanted i j low high anchored
