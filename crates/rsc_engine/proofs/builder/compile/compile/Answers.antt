use Rattle.std.proofs.Common.{[], suc, ◌≡◌, ◌<◌, ◌+◌, ◌-◌, ◌∙◌, length, map, sym, ap, arith}
use Rattle.std.proofs.lemmas.List.{length-map}
use Rattle.rsc_engine.specs.Parts.{pattern_of, groups_as_pattern}
use Rattle.rsc_engine.proofs.SizesLemmas.{program-last, program-more, program-room}
use Rattle.rsc_engine.proofs.BeginsLayoutLemmas.{Adds-last, Adds-more, Adds-now, its_pattern}
use Rattle.rsc_engine.proofs.builder.compile.compile.Goals as goal

pub loop-index-init : goal.loop-index-init
loop-index-init c =
    let all = ap length c.requires.groups in
    let last : c.pattern_len-last.result - 1 + 1 ≡ length c.args.patterns.now =
    omega (arith, c.pattern_len-last.ensures.value, all, length-map c.args.patterns.now groups_as_pattern, c.requires.some) in
    let its = its_pattern c.args.patterns.now _ c.index-patterns-last.result (omega (arith, last)) c.index-patterns-last.is in
    let first = rw c.new.ensures.items at c.in_ok-first.ensures.made in
    record {
      made = Adds-last c.args.info.now [] _ _ _ (pattern_of c.index-patterns-last.result) (map pattern_of c.args.patterns.now) its
          (last ∙ sym (length-map c.args.patterns.now pattern_of)) first;
      size = omega (
        arith,
        c.in_ok-first.ensures.size,
        ap length c.new.ensures.items,
        program-last (map pattern_of c.args.patterns.now) _ _ its (last ∙ sym (length-map c.args.patterns.now pattern_of)),
      );
    }

pub loop-index-preserved : goal.loop-index-preserved
loop-index-preserved c =
    let all = ap length c.requires.groups in
    let last : c.pattern_len-last.result - 1 + 1 ≡ length c.args.patterns.now =
    omega (arith, c.pattern_len-last.ensures.value, all, length-map c.args.patterns.now groups_as_pattern, c.requires.some) in
    let back : c.loop-index.index - 1 + 1 ≡ c.loop-index.index = omega (arith, c.loop-index-test.true) in
    let next : suc (c.loop-index.index - 1) ≡ c.loop-index.index = omega (arith, c.loop-index-test.true) in
    let there : suc (c.loop-index.index - 1) < length c.args.patterns.now = omega (arith, last, c.loop-index-test.true, c.loop-index.auto.index) in
    let its = its_pattern c.args.patterns.now _ c.index-patterns-index.result (omega (arith, there)) c.index-patterns-index.is in
    let size = rw next at (program-more (map pattern_of c.args.patterns.now) _ _ its
    (omega (arith, there, length-map c.args.patterns.now pattern_of))) in
    record {
      made = Adds-more c.args.info.now _ _ _ _ _ _ _ (c.loop-index.index - 1) (pattern_of c.index-patterns-index.result)
          (map pattern_of c.args.patterns.now) its (rw back c.loop-index.invariant.made) c.in_ok-one.ensures.made c.in_ok-first-2.ensures;
      size = omega (arith, c.loop-index.invariant.size, c.in_ok-one.ensures.size, c.in_ok-first-2.ensures.one, size);
    }

pub pattern-requires-in-loop-index-clause-room : goal.pattern-requires-in-loop-index-clause-room
pattern-requires-in-loop-index-clause-room c =
    let all = ap length c.requires.groups in
    let last : c.pattern_len-last.result - 1 + 1 ≡ length c.args.patterns.now =
    omega (arith, c.pattern_len-last.ensures.value, all, length-map c.args.patterns.now groups_as_pattern, c.requires.some) in
    let next : suc (c.loop-index.index - 1) ≡ c.loop-index.index = omega (arith, c.loop-index-test.true) in
    let there : suc (c.loop-index.index - 1) < length c.args.patterns.now = omega (arith, last, c.loop-index-test.true, c.loop-index.auto.index) in
    let its = its_pattern c.args.patterns.now _ c.index-patterns-index.result (omega (arith, there)) c.index-patterns-index.is in
    let size = rw next at (program-more (map pattern_of c.args.patterns.now) _ _ its
    (omega (arith, there, length-map c.args.patterns.now pattern_of))) in
    omega (
      arith,
      c.loop-index.invariant.size,
      size,
      c.requires.room,
      program-room (map pattern_of c.args.patterns.now) (c.loop-index.index - 1),
    )

pub fork-requires : goal.fork-requires
fork-requires c =
    let all = ap length c.requires.groups in
    let last : c.pattern_len-last.result - 1 + 1 ≡ length c.args.patterns.now =
    omega (arith, c.pattern_len-last.ensures.value, all, length-map c.args.patterns.now groups_as_pattern, c.requires.some) in
    let next : suc (c.loop-index.index - 1) ≡ c.loop-index.index = omega (arith, c.loop-index-test.true) in
    let there : suc (c.loop-index.index - 1) < length c.args.patterns.now = omega (arith, last, c.loop-index-test.true, c.loop-index.auto.index) in
    let its = its_pattern c.args.patterns.now _ c.index-patterns-index.result (omega (arith, there)) c.index-patterns-index.is in
    let size = rw next at (program-more (map pattern_of c.args.patterns.now) _ _ its
    (omega (arith, there, length-map c.args.patterns.now pattern_of))) in
    omega (
      arith,
      c.loop-index.invariant.size,
      c.in_ok-one.ensures.size,
      size,
      c.requires.room,
      program-room (map pattern_of c.args.patterns.now) (c.loop-index.index - 1),
    )

pub returns-clause-made : goal.returns-clause-made
returns-clause-made c =
    let start : c.loop-index.index ≡ 0 = omega (arith, c.loop-index-test.false) in
    let done = rw start at (Adds-now _ _ _ c.loop-index.invariant.made) in
    let all = ap length c.requires.groups in (
      done.0,
      done.1 (omega (arith, all, length-map c.args.patterns.now groups_as_pattern, length-map c.args.patterns.now pattern_of)),
      done.2,
    )
