use Rattle.std.proofs.Common.{arith}
use Rattle.rsc_search.specs.Inputs.{whole}
use Rattle.rsc_engine.specs.NextMatches.{with_start}
use Rattle.rsc_engine.specs.Parts.{pattern_of, groups_as_pattern}
use Rattle.rsc_replace.specs.PartReplacements.{subject_of_text}
use Rattle.rsc_replace.proofs.PartReplacementsLemmas.{part_replaced}
use Rattle.rsc_replace.proofs.replace.replace_part.Goals as goal

pub returns-clause-replaced : goal.returns-clause-replaced
returns-clause-replaced g c =
    let chars = g.W.WordClass.word_chars in
    let program = c.in_ok-program.program in
    let p = pattern_of c.args.part in
    let groups = groups_as_pattern c.args.part in
    let text = c.args.text.now in
    let one = c.a_match_of_one_pattern.ensures in
    let built = rw c.new.ensures.patterns at c.in_ok-program.ensures.answers in
    let lists = rw c.new.ensures.groups at c.in_ok-program.ensures.groups in
    let matcher = c.in_ok-program.ensures.matcher in
    let utf8 = c.in_ok-program.ensures.utf8 in
    let all = c.in_ok-out.ensures.replaced in
    part_replaced chars program groups p (subject_of_text (chars c.args.word_class) text) (record {
      lists = lists;
      some = omega arith;
      ways = λ from last captures found next.
          (one.next program p groups (10, c.args.word_class) (with_start (whole text) from) last captures found built lists matcher next).0;
      next = λ from last captures found next.
          one.next_of_one program p groups (10, c.args.word_class) _ (with_start (whole text) from) last captures found built lists matcher utf8 next;
      over = λ from last over. one.over_of_one program p groups (10, c.args.word_class) _ (with_start (whole text) from) last built lists matcher utf8 over;
      group = λ from last captures found next room some.
          c.the_first_group_is_the_match.ensures.next_group program (with_start (whole text) from) last captures found
          c.in_ok-program.ensures.records_ends next room some;
    }) c.args.template.now c.in_ok-out.out.items all.0 all.1 all.2
