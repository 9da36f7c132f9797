use Rattle.std.proofs.Common.{◌≡◌, ◌∙◌, ◌*◌, ◌++◌, [], ◌∷◌, length, refl, ap, subst, None}
use Rattle.rsc_captures.specs.Captured.{Captured}
use Rattle.rsc_captures.specs.Groups.{all_group_count}
use Rattle.rsc_engine.specs.Parts.{pattern_of, patterns_of}
use Rattle.rsc_engine.specs.NextMatches.{after}
use Rattle.rsc_uses.specs.Lexed.{AreLexedWith}
use Rattle.rsc_uses.specs.Texts.{text_of}
use Rattle.rsc_uses.proofs.EngineLemmas.{first_none, first_more}
use Rattle.rsc_uses.proofs.LexedLemmas.{read_by, IsNextWith, slot_within, lexed_with}
use Rattle.rsc_uses.proofs.lexer.tokens_with_group.Goals as goal

pub matches-init : goal.matches-init
matches-init g c =
    let program = ap (λ x. x.program) c.in_ok-matches.ensures.made in
    record {
      first = rw c.new-all.ensures.items
          (first_none (IsNextWith g.W.WordClass.word_chars c.args.group) (λ left both. after left both.0) c.in_ok-matches.matches);
      program = refl;
      groups = rw program (c.in_ok-captures.ensures.slots.0);
      slots = rw program (c.in_ok-captures.ensures.slots.1);
    }

pub matches-preserved : goal.matches-preserved
matches-preserved g c =
    let on = rw c.in-Some.is at c.in_ok-next.ensures.advanced in
    let groups = c.next.ensures.kept_groups ∙ c.matches.invariant.groups in
    let slots = c.next.ensures.kept_slots ∙ c.matches.invariant.slots in
    record {
      first = rw (c.in_ok-push-in-Some.ensures.items, on)
          (first_more (IsNextWith g.W.WordClass.word_chars c.args.group) (λ left both. after left both.0) c.in_ok-matches.matches c.matches.all.items
          c.matches.matches (c.in-Some.found, c.get_group.result) c.matches.invariant.first (
            _,
            rw c.in-Some.is at c.in_ok-next.ensures.found,
            (groups, slots),
            c.get_group.ensures.value,
            slot_within c.group_info.result.now c.matches.matches.program.automaton.groups c.in-Some.found.pattern c.args.group c.slot-slot.result
                (c.group_info.ensures ∙ groups) (rw c.pattern.ensures at c.slot-slot.ensures.value) c.slot-slot.ensures.within,
          ));
      program = ap (λ x. x.program) on ∙ c.matches.invariant.program;
      groups = rw on groups;
      slots = rw on slots;
    }

pub matches-smaller : goal.matches-smaller
matches-smaller g c =
    let on = rw c.in-Some.is at c.in_ok-next.ensures.advanced in
    let later = rw c.in-Some.is at c.in_ok-next.ensures.order in
    let within = rw c.in-Some.is at c.in_ok-next.ensures.within in
    rw on (c.an_iteration_ends.ensures c.matches.matches.input.span.end c.in-Some.found.span.end c.matches.matches.last later within.2)

pub returns-in-None-clause-tokens : goal.returns-in-None-clause-tokens
returns-in-None-clause-tokens g c =
    let chars = g.W.WordClass.word_chars in
    let program = c.in_ok-program.program in
    let patterns = patterns_of c.args.builder ++ pattern_of c.args.last ∷ [] in
    let matches = c.in_ok-program.ensures.matches in
    let none = c.requires in
    let all = c.matches.all.items in
    let first = rw (c.in_ok-matches.ensures.made, c.anchored-input.ensures, c.new.ensures) at c.matches.invariant.first in
    subst (λ groups. AreLexedWith (text_of c.args.text.now (chars c.args.word_class)) patterns groups c.args.group 0 all) c.in_ok-program.ensures.groups
    (subst (λ matcher. AreLexedWith (read_by chars matcher c.args.text.now) patterns program.automaton.groups c.args.group 0 all)
    c.in_ok-program.ensures.matcher
    (lexed_with chars program patterns c.args.text.now c.args.group 0 None all c.matches.matches
    (record {
      built = c.in_ok-program.ensures.answers;
      first_end = λ input last captures found p f its loops.
          c.a_match_ends_at_its_first_end.ensures.next program patterns input last captures found p c.in_ok-program.ensures.first_ends f its loops;
      start = λ input last captures found anchored f.
          c.anchored_matches_are_side_by_side.ensures.next program patterns input last captures found matches none anchored f;
      over = λ input last other over same m.
          c.anchored_matches_are_side_by_side.ensures.over program patterns input last other matches none over same m;
    })
    (λ lists captures m records g its hold there room. c.a_group_spans_what_its_way_records.ensures lists captures m records g its hold there room)
    first (rw c.in-None.is at c.in_ok-next.ensures.none)))
