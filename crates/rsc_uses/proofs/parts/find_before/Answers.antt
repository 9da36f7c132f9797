use Rattle.std.proofs.Common.{◌≡◌, ◌+◌, ◌*◌, inl, [], ◌∷◌, ◌++◌, refl, sym, ap, ◌∙◌}
use Rattle.rsc_search.specs.Inputs.{whole}
use Rattle.rsc_captures.specs.Captured.{Captured}
use Rattle.rsc_engine.specs.Patterns.{Then, Group}
use Rattle.rsc_engine.specs.Parts.{pattern_of, groups_of_part}
use Rattle.rsc_engine.specs.GroupNumbers.{numbered, group_count_in}
use Rattle.rsc_engine.specs.Patterns.{subject_of}
use Rattle.rsc_engine.specs.Searches.{search_in}
use Rattle.rsc_captures.specs.Groups.{slot_number}
use Rattle.rsc_uses.proofs.PartsLemmas.{group_goes, goes_nowhere, number_of, its_of, group_there, span_set, no_span}
use Rattle.rsc_uses.proofs.parts.find_before.Goals as goal

pub returns-clause-goes : goal.returns-clause-goes
returns-clause-goes g c =
    let p = pattern_of c.args.part in
    let q = pattern_of c.args.after in
    let both = Then (Group 0 p) q in
    let program = c.in_ok-program.program in
    let matches = rw (c.new-builder.ensures.patterns, c.in_ok-both.ensures.part, c.in_ok-group.ensures.part) at c.in_ok-program.ensures.matches in
    let ways = rw (c.new-builder.ensures.patterns, c.in_ok-both.ensures.part, c.in_ok-group.ensures.part) at c.in_ok-program.ensures.ways in
    let lists = rw (c.new-builder.ensures.groups, c.in_ok-both.ensures.groups, c.in_ok-group.ensures.groups) at c.in_ok-program.ensures.groups in
    let found = rw (c.in-Some.is, c.new-input.ensures) at c.in_ok-find.ensures.found in
    let same : c.find.new.captures.groups ≡ program.automaton.groups =
    c.find.ensures.kept_groups ∙ ap (λ (k : Captured). k.groups) c.in_ok-captures.ensures.made in
    group_goes g.W.WordClass.word_chars program c.args.word_class p q (groups_of_part c.args.part ++ groups_of_part c.args.after) c.args.haystack.now
    c.in-Some.field-0 c.in-Some-get_group.span.start c.in-Some-get_group.span.end c.in_ok-program.ensures.matcher lists
    (c.a_first_match_is_of_a_pattern.ensures.some program (both ∷ []) (whole c.args.haystack.now) _ _ matches found)
    (λ its count.
    c.a_group_is_where_its_part_goes.ensures.first_span program (both ∷ []) (whole c.args.haystack.now) c.find.new.captures c.in-Some.field-0 both p 1
    c.in-Some-get_group.span ways found its same count (inl refl) (sym c.get_group.ensures.value ∙ c.in-Some-get_group.is))

pub returns-in-None-clause-none : goal.returns-in-None-clause-none
returns-in-None-clause-none g c =
    let both = Then (Group 0 (pattern_of c.args.part)) (pattern_of c.args.after) in
    let program = c.in_ok-program.program in
    let matches = rw (c.new-builder.ensures.patterns, c.in_ok-both.ensures.part, c.in_ok-group.ensures.part) at c.in_ok-program.ensures.matches in
    let none = rw (c.in-None.is, c.new-input.ensures) at c.in_ok-find.ensures.none in
    goes_nowhere g.W.WordClass.word_chars program c.args.word_class (both ∷ []) 0 both c.args.haystack.now c.in_ok-program.ensures.matcher refl
    (λ other. c.a_first_match_is_of_a_pattern.ensures.none program (both ∷ []) (whole c.args.haystack.now) other matches none)

pub returns-in-None-get_group-clause-none : goal.returns-in-None-get_group-clause-none
returns-in-None-get_group-clause-none g c =
    let p = pattern_of c.args.part in
    let q = pattern_of c.args.after in
    let both = Then (Group 0 p) q in
    let program = c.in_ok-program.program in
    let e = search_in g.W.WordClass.word_chars program (whole c.args.haystack.now) in
    let found = c.in-Some.field-0 in
    let matches = rw (c.new-builder.ensures.patterns, c.in_ok-both.ensures.part, c.in_ok-group.ensures.part) at c.in_ok-program.ensures.matches in
    let ways = rw (c.new-builder.ensures.patterns, c.in_ok-both.ensures.part, c.in_ok-group.ensures.part) at c.in_ok-program.ensures.ways in
    let lists = rw (c.new-builder.ensures.groups, c.in_ok-both.ensures.groups, c.in_ok-group.ensures.groups) at c.in_ok-program.ensures.groups in
    let first = rw (c.in-Some.is, c.new-input.ensures) at c.in_ok-find.ensures.found in
    let is_in = c.a_first_match_is_of_a_pattern.ensures.some program (both ∷ []) (whole c.args.haystack.now) _ found matches first in
    let w = c.captures_are_of_a_way.ensures.first program (both ∷ []) (whole c.args.haystack.now) c.find.new.captures found both ways first
    (its_of both e found is_in) in
    let slot_of = slot_number program.automaton.groups found.pattern in
    let room = group_there program.automaton.groups (groups_of_part c.args.part ++ groups_of_part c.args.after) c.in_ok-captures.captures c.find.new.captures
    found.pattern lists c.in_ok-captures.ensures.made c.find.ensures.kept_slots (number_of both e found is_in) in
    let same : c.find.new.captures.groups ≡ program.automaton.groups =
    c.find.ensures.kept_groups ∙ ap (λ (k : Captured). k.groups) c.in_ok-captures.ensures.made in
    let span = c.a_group_spans_what_its_way_records.ensures program.automaton.groups c.find.new.captures found w.0 1 same
    (record { pattern = first.is_of.pattern; slots = w.2 }) room.0 room.1 in
    absurd (span_set (subject_of e) (2 * found.pattern) (slot_of 1) (numbered slot_of 2 p) (numbered slot_of (1 + group_count_in (Group 0 p)) q)
    (found.span.start, []) (found.span.end, w.0) (λ r slot k l i. c.what_was_recorded_stays.ensures (subject_of e) r slot k l i) w.1
    (no_span c.find.new.captures 1 (slot_of 1) w.0 c.get_group.result c.get_group.ensures.value c.in-None-get_group.is span))
