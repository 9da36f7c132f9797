use Rattle.std.proofs.Common.{◌≤◌, ◌∙◌, ◌||◌, ap, arith, get_or, subst, sym, take}
use Rattle.std.specs.FinSet as sets
use Rattle.std.proofs.lemmas.List.{take_all, take_more}
use Rattle.rsc_alphabet.specs.Partitions.{boundaries_of_range}
use Rattle.rsc_show.specs.Ranges.{PartsRanges}
use Rattle.rsc_show.proofs.RangesLemmas.{boundaries_added, boundaries_as_they_are}
use Rattle.rsc_show.proofs.alphabet.set_of.Goals as goal
use Rattle.rsc_show.proofs.alphabet.set_of.Goals.{then-start-end, else-start-end}

pub loop-start-preserved : goal.loop-start-preserved
loop-start-preserved c =
    let ranges = c.args.ranges.now in
    let i = c.loop-start.start-index in
    let r = get_or ranges i (0, 0) in
    let before = sets.contains c.loop-start.set in
    elim c.if-start-end.branch [
      | then-start-end w ↦
          rw w.set-is
          (rw (take_more ranges i (0, 0) c.loop-start-test.true)
          (boundaries_added before (sets.contains w.set_range.new.self) (sets.contains (boundaries_of_range r)) (take i ranges) r
          (λ b. w.set_range.ensures.members b ∙ ap (λ x. before b || x) (sym (c.boundaries_part_a_range.ensures.members r.0 r.1 b)))
          (λ b lt. c.boundaries_part_a_range.ensures.boundary r b lt)
          (omega (arith, w.if-start-end))
          c.loop-start.invariant))
      | else-start-end w ↦
          rw w.set-is
          (rw (take_more ranges i (0, 0) c.loop-start-test.true)
          (boundaries_as_they_are before (take i ranges) r (λ (h : r.0 ≤ r.1). omega (arith, h, w.if-start-end)) c.loop-start.invariant))
    ]

pub returns-clause-parts : goal.returns-clause-parts
returns-clause-parts c =
    subst (λ rs. PartsRanges (sets.contains c.loop-start.set) rs) (take_all c.loop-start.start-index c.args.ranges.now c.loop-start-test.false)
    c.loop-start.invariant.0
