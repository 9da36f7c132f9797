use Rattle.std.proofs.Common.{ℕ, suc, ap, ◌≡◌, ◌∙◌, ◌<◌, ◌≤◌, ◌-◌, add-one, arith, length, map, drop, length-drop, rules}
use Rattle.rsc_engine.proofs.RefusalsLemmas.{built-weaker, built-with, pattern_there}
use Rattle.std.proofs.lemmas.List.{length-map}
use Rattle.std.proofs.Math.Seq.{drop-length}
use Rattle.rsc_captures.specs.Groups.{slot_number, group_count}
use Rattle.rsc_engine.specs.Trees.{pattern_in}
use Rattle.rsc_engine.proofs.TreesLemmas.{pattern-empty, pattern-never, pattern-class, pattern-literal, pattern-range, pattern-assertion, pattern-then, pattern-either}
use Rattle.rsc_engine.proofs.CompileLemmas.{group-slots, Builds-assert, BuildsPart-empty, BuildsPart-then, BuildsPart-either, BuildsPart-group, BuildsPart-one_of, BuildsPart-nothing, drop-last, drop-one}
use Rattle.rsc_engine.proofs.LoopsLemmas.{BuildsCopies-none, BuildsCopies-more, BuildsCopies-up_to_none, BuildsCopies-up_to_more, BuildsPart-star, BuildsPart-again, BuildsPart-plus, BuildsPart-unlimited, BuildsPart-limited, BuildsPart-up_to, BuildsPart-zero, positive, more_than_one}
use denote.Param.Weighed.{at_most}
use Rattle.rsc_engine.proofs.builder.tree.Tree.TheLaws.{the_size}
use Rattle.std.proofs.lemmas.Grind.{common_steps}
use Rattle.rsc_engine.proofs.SizesLemmas.{sequence-room, sequence-left, one_of-last, one_of-room, copies-room, up_to-room, limited-size, unlimited-size}
use Rattle.rsc_engine.proofs.PartsLemmas.{one_of_groups}
use Rattle.rsc_engine.specs.Sizes.{size_of}
use Rattle.rsc_engine.specs.LinksLayout.{up_to, slots_between}
use Rattle.rsc_engine.proofs.builder.compile.Compiler.+part.Goals as goal

pub again-returns-clause-first : goal.again-returns-clause-first
again-returns-clause-first t c =
    rw c.as_usize.ensures.value (rw c.choice.ensures (BuildsPart-plus _ _ _ _ _ _ _ _ _ _ _ _ _ c.in_ok-again.ensures c.in_ok-first.ensures))

pub again-returns-clause-again : goal.again-returns-clause-again
again-returns-clause-again t c = λ some.
    rw c.as_usize.ensures.value (rw c.choice.ensures (BuildsPart-again _ _ _ _ _ _ _ _ _ _ _ _ _ some c.in_ok-again.ensures c.in_ok-first.ensures))

pub concat-loop-index-preserved : goal.concat-loop-index-preserved
concat-loop-index-preserved t c =
    rw (drop-last c.args.parts.now c.loop-index.index c.index-parts-index.result c.loop-index-test.true c.loop-index.auto.index, ← c.index-parts-index.is)
    (BuildsPart-then _ _ _ _ _ _ _ _ _ _ _ _ _ c.loop-index.invariant c.in_ok-first.ensures)

pub one_of-returns-then-is_empty : goal.one_of-returns-then-is_empty
one_of-returns-then-is_empty t c =
    let none : length c.args.parts.now ≡ 0 = search rules in
    built-with c.never.result _ _ _
    (λ first x one. BuildsPart-nothing _ _ _ _ _ first c.args.next (map pattern_in c.args.parts.now)
    (length-map c.args.parts.now pattern_in ∙ none) (x _) one)
    c.never.ensures.builds c.never.ensures.size

pub one_of-loop-index-init : goal.one_of-loop-index-init
one_of-loop-index-init t c =
    let some : 0 < length c.args.parts.now = search rules in
    rw (drop-one c.args.parts.now c.index-parts-last.result some, ← c.index-parts-last.is) c.in_ok-first.ensures

pub one_of-loop-index-preserved : goal.one_of-loop-index-preserved
one_of-loop-index-preserved t c =
    let last : c.loop-index.index ≤ length c.args.parts.now - 1 = c.loop-index.auto.index in
    let some : 0 < length c.args.parts.now = search rules in
    rw (drop-last c.args.parts.now c.loop-index.index c.index-parts-index.result c.loop-index-test.true (omega (arith, last)), ← c.index-parts-index.is)
    (BuildsPart-one_of _ _ _ _ _ _ _ _ _ _ _ _ _ _ (map pattern_in (drop c.loop-index.index c.args.parts.now))
    (omega (arith, last, length-map (drop c.loop-index.index c.args.parts.now) pattern_in, length-drop c.loop-index.index c.args.parts.now, some))
    c.loop-index.invariant c.in_ok-one.ensures c.in_ok-first-2.ensures)

pub one_of-returns : goal.one_of-returns
one_of-returns t c = let start : c.loop-index.index ≡ 0 = omega (arith, c.loop-index-test.false) in rw start at c.loop-index.invariant

pub copies-loop-done-preserved : goal.copies-loop-done-preserved
copies-loop-done-preserved t c = rw add-one (BuildsCopies-more _ _ _ _ _ _ _ _ _ _ _ _ _ c.loop-done.invariant c.in_ok-first.ensures)

pub part-returns-in-Range : goal.part-returns-in-Range
part-returns-in-Range t c =
    built-with c.range.result _ _ _ (λ id a size. rw (c.in-Range.is, pattern-range) (omega arith, a _, size)) c.range.ensures.builds c.range.ensures.size

pub part-returns-in-Assertion : goal.part-returns-in-Assertion
part-returns-in-Assertion t c =
    built-weaker c.add.result _ _ (λ id a. rw (c.in-Assertion.is, pattern-assertion) (omega arith, Builds-assert _ _ _ _ id _ a, a.one))
    c.add.ensures

pub part-returns-in_ok-middle-in-Then : goal.part-returns-in_ok-middle-in-Then
part-returns-in_ok-middle-in-Then t c =
    built-weaker c.part-in-Then.result _ _
    (λ first x. rw (c.in-Then.is, pattern-then, ← c.deref-in-Then.ensures, ← c.deref-in-Then-2.ensures)
    (BuildsPart-then _ _ _ _ _ _ _ _ first _ _ _ _ c.in_ok-middle-in-Then.ensures x))
    c.part-in-Then.ensures

pub part-returns-in_ok-first-in-Either : goal.part-returns-in_ok-first-in-Either
part-returns-in_ok-first-in-Either t c =
    built-weaker c.fork.result _ _
    (λ id a. rw (c.in-Either.is, pattern-either, ← c.deref-in-Either.ensures, ← c.deref-in-Either-2.ensures)
    (BuildsPart-either _ _ _ _ _ _ _ _ _ _ _ id _ _ _ c.in_ok-second-in-Either.ensures c.in_ok-first-in-Either.ensures a))
    c.fork.ensures

pub star-returns-then-may_be_empty : goal.star-returns-then-may_be_empty
star-returns-then-may_be_empty t c =
    built-weaker c.add.result _ _
    (λ id a. BuildsPart-star _ _ _ _ _ _ _ _ id _ _ _ (search rules) c.in_ok-first.ensures.first (rw c.choice.ensures at a)) c.add.ensures

pub up_to-loop-done-preserved : goal.up_to-loop-done-preserved
up_to-loop-done-preserved t c =
    rw add-one
    (BuildsCopies-up_to_more _ _ _ _ _ _ _ _ _ _ _ _ _ _ _ _ c.loop-done.invariant c.in_ok-one.ensures (rw c.choice.ensures at c.in_ok-first.ensures))

pub part-returns-in-Never : goal.part-returns-in-Never
part-returns-in-Never t c =
    built-with c.never.result _ _ _ (λ first x one. rw (c.in-Never.is, pattern-never) (omega arith, x _, one)) c.never.ensures.builds c.never.ensures.size

pub part-returns-in-Class : goal.part-returns-in-Class
part-returns-in-Class t c =
    built-with c.class.result _ _ _ (λ first x size. rw (c.in-Class.is, pattern-class, ← c.deref.ensures.value) (omega arith, x _, size))
    c.class.ensures.builds c.class.ensures.size

pub part-returns-in-Literal : goal.part-returns-in-Literal
part-returns-in-Literal t c =
    built-with c.literal.result _ _ _ (λ first x size. rw (c.in-Literal.is, pattern-literal, ← c.deref-in-Literal.ensures.value) (omega arith, x _, size))
    c.literal.ensures.builds c.literal.ensures.size

pub part-returns-in-Empty : goal.part-returns-in-Empty
part-returns-in-Empty t c = rw (c.in-Empty.is, pattern-empty) (BuildsPart-empty (slot_number c.args.slots.now.info.now c.args.slots.now.pattern) _ _ _ _)

pub concat-loop-index-init : goal.concat-loop-index-init
concat-loop-index-init t c = rw (drop-length c.args.parts.now) (BuildsPart-empty (slot_number c.args.slots.now.info.now c.args.slots.now.pattern) _ _ _ _)

pub copies-loop-done-init : goal.copies-loop-done-init
copies-loop-done-init t c = BuildsCopies-none (slot_number c.args.slots.now.info.now c.args.slots.now.pattern) _ _ _ _ (pattern_in c.args.sub.now)

pub up_to-loop-done-init : goal.up_to-loop-done-init
up_to-loop-done-init t c =
    BuildsCopies-up_to_none (slot_number c.args.slots.now.info.now c.args.slots.now.pattern) _ _ _ _ c.args.is_greedy (pattern_in c.args.sub.now)

pub group-returns : goal.group-returns
group-returns t c =
    let lists = c.args.slots.now.info.now in
    let number : ℕ = c.part.new.self.unnumbered - 1 in
    let some : 0 < number = omega (arith, c.requires.unnumbered, c.in_ok-body.ensures.0) in
    let there : number < group_count lists c.args.slots.now.pattern = omega (arith, c.requires.groups, c.requires.unnumbered, c.in_ok-body.ensures.0) in
    let above = group-slots lists c.args.slots.now.pattern number some (pattern_there lists c.args.slots.now.pattern number there) in
    built-weaker c.add-2.result _ _
    (λ id a. BuildsPart-group (slot_number lists c.args.slots.now.pattern) _ _ _ number _ _ _ _ _ _ _ _ _ id _ (pattern_in c.args.sub.now)
    (omega (arith, above, c.of_group-start.ensures.start)) c.of_group-start.ensures.end c.of_group-start.ensures.within
    c.of_group-start.ensures.start (omega (arith, some)) c.in_ok-after.ensures c.in_ok-body.ensures (rw c.as_usize.ensures.value at a))
    c.add-2.ensures

pub limited-returns-then-times-eq0 : goal.limited-returns-then-times-eq0
limited-returns-then-times-eq0 t c =
    let same : c.saturating_sub-more.result ≡ c.args.max = omega (arith, c.saturating_sub-more.ensures, c.if-times-eq0.true) in
    let more : 0 < c.saturating_sub-more.result = positive c.saturating_sub-more.result c.if-more-eq0.false in
    built-weaker c.up_to.result _ _
    (λ first x. BuildsPart-up_to (slot_number c.args.slots.now.info.now c.args.slots.now.pattern) _ _ _ _ _ c.args.times.min c.args.max first _ _
    (pattern_in c.args.sub.now) c.if-times-eq0.true (omega (arith, more, same)) (rw same at x))
    c.up_to.ensures

pub limited-returns : goal.limited-returns
limited-returns t c =
    built-weaker c.copies.result _ _
    (λ first y. BuildsPart-limited (slot_number c.args.slots.now.info.now c.args.slots.now.pattern) _ _ _ _ _ _ _ c.args.times.min c.args.max _ first _ _
    (pattern_in c.args.sub.now) (positive c.args.times.min c.if-times-eq0.false) (rw c.saturating_sub-more.ensures at c.in_ok-rest.ensures) y)
    c.copies.ensures

pub unlimited-returns : goal.unlimited-returns
unlimited-returns t c =
    built-weaker c.copies.result _ _
    (λ first y. BuildsPart-unlimited (slot_number c.args.slots.now.info.now c.args.slots.now.pattern) _ _ _ _ _ _ _ c.args.times.min _ first _ _
    (pattern_in c.args.sub.now) (more_than_one c.args.times.min c.if-times-eq0.false c.if-times-eq1.false) c.in_ok-last.ensures.first y)
    c.copies.ensures

pub copies-returns : goal.copies-returns
copies-returns t c = let all : c.loop-done.done ≡ c.args.count = search rules in rw all at c.loop-done.invariant

pub up_to-returns : goal.up_to-returns
up_to-returns t c = let all : c.loop-done.done ≡ c.args.count = search rules in rw all at c.loop-done.invariant

pub star-returns : goal.star-returns
star-returns t c = c.in_ok-first.ensures.again (search rules)

pub concat-part-requires : goal.concat-part-requires
concat-part-requires t c = (
  let within : c.loop-index.index - 1 < length c.args.parts.now = omega (arith, c.loop-index-test.true, c.loop-index.auto.index) in
      let deep = at_most the_size c.args.parts.now (c.loop-index.index - 1) c.index-parts-index.result within in
      let same = ap the_size c.index-parts-index.is in
      first_of (omega (arith, deep, same, c.decreases), grind (arith, deep, same, c.decreases)),
  let back : suc (c.loop-index.index - 1) ≡ c.loop-index.index = omega (arith, c.loop-index-test.true) in
      let there : c.loop-index.index - 1 < length c.args.parts.now = omega (arith, c.loop-index-test.true, c.loop-index.auto.index) in
      let room = rw back at (sequence-room pattern_in c.args.parts.now (c.loop-index.index - 1) c.index-parts-index.result there c.index-parts-index.is) in
      let left = rw back at (sequence-left pattern_in c.args.parts.now (c.loop-index.index - 1) c.index-parts-index.result there c.index-parts-index.is) in (
        omega (arith, c.requires.room, c.loop-index.invariant.2, room),
        (omega (arith, c.requires.unnumbered, c.loop-index.invariant.0, left), omega (arith, c.requires.groups, c.loop-index.invariant.0)),
      ),
)

pub one_of-part-requires : goal.one_of-part-requires
one_of-part-requires t c = (
  let within : length c.args.parts.now - 1 < length c.args.parts.now = search rules in
      let deep = at_most the_size c.args.parts.now (length c.args.parts.now - 1) c.index-parts-last.result within in
      let same = ap the_size c.index-parts-last.is in
      first_of (omega (arith, deep, same, c.decreases), grind (arith, deep, same, c.decreases)),
  let there : length c.args.parts.now - 1 < length c.args.parts.now = search rules in
      let room = one_of-last pattern_in c.args.parts.now (length c.args.parts.now - 1) c.index-parts-last.result there c.index-parts-last.is in
      let left = sequence-left pattern_in c.args.parts.now (length c.args.parts.now - 1) c.index-parts-last.result there c.index-parts-last.is in (
        omega (arith, c.requires.room, room),
        (omega (arith, c.requires.unnumbered, left, one_of_groups (map pattern_in c.args.parts.now)), c.requires.groups),
      ),
)

pub one_of-part-requires-in-loop-index : goal.one_of-part-requires-in-loop-index
one_of-part-requires-in-loop-index t c = (
  let within : c.loop-index.index - 1 < length c.args.parts.now = omega (arith, c.loop-index-test.true, c.loop-index.auto.index) in
      let deep = at_most the_size c.args.parts.now (c.loop-index.index - 1) c.index-parts-index.result within in
      let same = ap the_size c.index-parts-index.is in
      first_of (omega (arith, deep, same, c.decreases), grind (arith, deep, same, c.decreases)),
  let back : suc (c.loop-index.index - 1) ≡ c.loop-index.index = omega (arith, c.loop-index-test.true) in
      let some : 0 < length c.args.parts.now = search rules in
      let there : suc (c.loop-index.index - 1) < length c.args.parts.now = omega (arith, some, c.loop-index-test.true, c.loop-index.auto.index) in
      let room = rw back at (one_of-room pattern_in c.args.parts.now (c.loop-index.index - 1) c.index-parts-index.result there c.index-parts-index.is) in
      let left = rw back at (sequence-left pattern_in c.args.parts.now (c.loop-index.index - 1) c.index-parts-index.result (omega (arith, there))
      c.index-parts-index.is) in (
        omega (arith, c.requires.room, c.loop-index.invariant.2, room),
        (
          omega (
            arith,
            c.requires.unnumbered,
            c.loop-index.invariant.0,
            left,
            one_of_groups (map pattern_in c.args.parts.now),
            one_of_groups (map pattern_in (drop c.loop-index.index c.args.parts.now)),
          ),
          omega (arith, c.requires.groups, c.loop-index.invariant.0),
        ),
      ),
)

pub one_of-fork-requires : goal.one_of-fork-requires
one_of-fork-requires t c =
    let back : suc (c.loop-index.index - 1) ≡ c.loop-index.index = omega (arith, c.loop-index-test.true) in
    let some : 0 < length c.args.parts.now = search rules in
    let there : suc (c.loop-index.index - 1) < length c.args.parts.now = omega (arith, some, c.loop-index-test.true, c.loop-index.auto.index) in
    let room = rw back at (one_of-room pattern_in c.args.parts.now (c.loop-index.index - 1) c.index-parts-index.result there c.index-parts-index.is) in
    omega (arith, c.requires.room, c.loop-index.invariant.2, c.in_ok-one.ensures.2, room)

pub copies-part-requires : goal.copies-part-requires
copies-part-requires t c = (
  grind (arith, common_steps),
  (
    omega (
      arith,
      c.requires.room,
      c.loop-done.invariant.2,
      copies-room c.loop-done.done c.args.count (pattern_in c.args.sub.now) c.loop-done-test.true,
    ),
    (c.requires.unnumbered, c.requires.groups),
  ),
)

pub up_to-part-requires : goal.up_to-part-requires
up_to-part-requires t c = (
  grind (arith, common_steps),
  (
    omega (
      arith,
      c.requires.room,
      c.loop-done.invariant.2,
      up_to-room c.args.is_greedy c.loop-done.done c.args.count (pattern_in c.args.sub.now) c.loop-done-test.true,
    ),
    (c.requires.unnumbered, c.requires.groups),
  ),
)

pub up_to-add-requires : goal.up_to-add-requires
up_to-add-requires t c = omega (
  arith,
  c.requires.room,
  c.loop-done.invariant.2,
  c.in_ok-one.ensures.2,
  up_to-room c.args.is_greedy c.loop-done.done c.args.count (pattern_in c.args.sub.now) c.loop-done-test.true,
)

pub limited-up_to-requires : goal.limited-up_to-requires
limited-up_to-requires t c =
    let size = limited-size c.args.times.min c.args.max c.args.times.is_greedy (pattern_in c.args.sub.now) in
    let same = ap (λ (n : ℕ). size_of (up_to c.args.times.is_greedy n (pattern_in c.args.sub.now))) c.saturating_sub-more.ensures in
    (grind (arith, common_steps), (omega (arith, c.requires.room, size, same), (c.requires.unnumbered, c.requires.groups)))

pub limited-up_to-requires-2 : goal.limited-up_to-requires-2
limited-up_to-requires-2 t c =
    let size = limited-size c.args.times.min c.args.max c.args.times.is_greedy (pattern_in c.args.sub.now) in
    let same = ap (λ (n : ℕ). size_of (up_to c.args.times.is_greedy n (pattern_in c.args.sub.now))) c.saturating_sub-more.ensures in
    (grind (arith, common_steps), (omega (arith, c.requires.room, size, same), (c.requires.unnumbered, c.requires.groups)))

pub limited-copies-requires : goal.limited-copies-requires
limited-copies-requires t c =
    let size = limited-size c.args.times.min c.args.max c.args.times.is_greedy (pattern_in c.args.sub.now) in
    let same = ap (λ (n : ℕ). size_of (up_to c.args.times.is_greedy n (pattern_in c.args.sub.now))) c.saturating_sub-more.ensures in (
      grind (arith, common_steps),
      (omega (arith, c.requires.room, size, same, c.in_ok-rest.ensures.2), (c.requires.unnumbered, c.requires.groups)),
    )

pub unlimited-copies-requires : goal.unlimited-copies-requires
unlimited-copies-requires t c =
    let more : 1 < c.args.times.min = more_than_one c.args.times.min c.if-times-eq0.false c.if-times-eq1.false in
    let size = unlimited-size (c.args.times.min - 1) c.args.times.min c.args.times.is_greedy (pattern_in c.args.sub.now) (omega (arith, more)) in (
      grind (arith, common_steps),
      (omega (arith, c.requires.room, size, c.in_ok-last.ensures.first.2), (c.requires.unnumbered, c.requires.groups)),
    )

pub limited-returns-then-more-eq0 : goal.limited-returns-then-more-eq0
limited-returns-then-more-eq0 t c =
    BuildsPart-zero (slot_number c.args.slots.now.info.now c.args.slots.now.pattern)
    (slots_between c.args.slots.now.info.now c.args.slots.now.pattern) _ _ _ _ c.args.times.min c.args.max c.no_times.result c.args.next
    c.args.times.is_greedy (pattern_in c.args.sub.now) c.if-times-eq0.true
    (omega (arith, c.saturating_sub-more.ensures, c.if-times-eq0.true, c.if-more-eq0.true))
    c.no_times.ensures
