use Rattle.std.proofs.Common.{◌≡◌, [], ◌∷◌, refl, sym, arith}
use Rattle.rsc_search.specs.Inputs.{whole}
use Rattle.rsc_engine.specs.Searches.{search_in}
use Rattle.rsc_engine.specs.Parts.{pattern_of, groups_of_part, groups_as_pattern}
use Rattle.rsc_uses.proofs.PartsLemmas.{goes_of, goes_nowhere, first_group, number_of}
use Rattle.rsc_uses.proofs.lexer.bytes_of_group.Goals as goal

pub slice_bounds-result-count : goal.slice_bounds-result-count
slice_bounds-result-count g c =
    let found = rw (c.in-Some.is, c.new-input.ensures) at c.in_ok-find.ensures.found in
    let span = c.get_group.ensures.value in
    (c.a_group_that_begins_ends.ensures.first_span c.in_ok-program.program (whole c.args.text.now) c.find.new.captures c.in-Some.whole c.args.group
    c.in-Some-get_group.span c.in_ok-program.ensures.closes_groups found (sym (rw c.in-Some-get_group.is at span))).1

pub slice_bounds-result-start : goal.slice_bounds-result-start
slice_bounds-result-start g c =
    let found = rw (c.in-Some.is, c.new-input.ensures) at c.in_ok-find.ensures.found in
    let span = c.get_group.ensures.value in
    (c.a_group_that_begins_ends.ensures.first_span c.in_ok-program.program (whole c.args.text.now) c.find.new.captures c.in-Some.whole c.args.group
    c.in-Some-get_group.span c.in_ok-program.ensures.closes_groups found (sym (rw c.in-Some-get_group.is at span))).1

pub slice_bounds-result-end : goal.slice_bounds-result-end
slice_bounds-result-end g c =
    let found = rw (c.in-Some.is, c.new-input.ensures) at c.in_ok-find.ensures.found in
    let span = c.get_group.ensures.value in
    let within = rw (c.in-Some.is, c.new-input.ensures) at c.in_ok-find.ensures.within in
    let order = c.a_group_that_begins_ends.ensures.first_span c.in_ok-program.program (whole c.args.text.now) c.find.new.captures c.in-Some.whole
    c.args.group c.in-Some-get_group.span c.in_ok-program.ensures.closes_groups found (sym (rw c.in-Some-get_group.is at span)) in
    omega (arith, order.2, within.1)

pub returns-clause-found : goal.returns-clause-found
returns-clause-found g c =
    let p = pattern_of c.args.part in
    let program = c.in_ok-program.program in
    let matches = rw c.new.ensures.patterns at c.in_ok-program.ensures.matches in
    let found = rw (c.in-Some.is, c.new-input.ensures) at c.in_ok-find.ensures.found in
    let within = rw (c.in-Some.is, c.new-input.ensures) at c.in_ok-find.ensures.within in
    let its = c.get_group.ensures.value in
    let order = c.a_group_that_begins_ends.ensures.first_span program (whole c.args.text.now) c.find.new.captures c.in-Some.whole
    c.args.group c.in-Some-get_group.span c.in_ok-program.ensures.closes_groups found (sym (rw c.in-Some-get_group.is at its)) in (
      c.in-Some.whole.span.start,
      c.in-Some-get_group.span.start,
      c.in-Some-get_group.span.end,
      c.in-Some.whole.span.end,
      order.0,
      order.1,
      order.2,
      within.2,
      refl,
      goes_of g.W.WordClass.word_chars program c.args.word_class p c.args.text.now c.in-Some.whole c.in_ok-program.ensures.matcher
          (c.a_first_match_is_of_a_pattern.ensures.some program (p ∷ []) (whole c.args.text.now) _ c.in-Some.whole matches found),
    )

pub returns-in-None-clause-none : goal.returns-in-None-clause-none
returns-in-None-clause-none g c = λ first.
    let p = pattern_of c.args.part in
    let program = c.in_ok-program.program in
    let matches = rw c.new.ensures.patterns at c.in_ok-program.ensures.matches in
    let none = rw (c.in-None.is, c.new-input.ensures) at c.in_ok-find.ensures.none in
    goes_nowhere g.W.WordClass.word_chars program c.args.word_class (p ∷ []) 0 p c.args.text.now c.in_ok-program.ensures.matcher refl
    (λ other. c.a_first_match_is_of_a_pattern.ensures.none program (p ∷ []) (whole c.args.text.now) other matches none)

pub returns-in-None-get_group-clause-none : goal.returns-in-None-get_group-clause-none
returns-in-None-get_group-clause-none g c = λ first.
    let p = pattern_of c.args.part in
    let program = c.in_ok-program.program in
    let matches = rw c.new.ensures.patterns at c.in_ok-program.ensures.matches in
    let lists : program.automaton.groups ≡ groups_as_pattern c.args.part ∷ [] = rw c.new.ensures.groups at c.in_ok-program.ensures.groups in
    let found = rw (c.in-Some.is, c.new-input.ensures) at c.in_ok-find.ensures.found in
    let span = first_group program (groups_of_part c.args.part) c.in_ok-captures.captures c.find.new.captures c.in-Some.whole lists
    c.in_ok-captures.ensures.made c.find.ensures.kept_slots c.find.ensures.kept_groups
    (number_of p (search_in g.W.WordClass.word_chars program (whole c.args.text.now)) c.in-Some.whole
    (c.a_first_match_is_of_a_pattern.ensures.some program (p ∷ []) (whole c.args.text.now) _ _ matches found))
    (c.the_first_group_is_the_match.ensures.first_group program (whole c.args.text.now) _ _ c.in_ok-program.ensures.records_ends found) in
    let none = rw (c.in-None-get_group.is, first) at c.get_group.ensures.value in
    absurd (cc)
