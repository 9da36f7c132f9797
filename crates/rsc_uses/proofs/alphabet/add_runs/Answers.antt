use Rattle.std.proofs.Common.{◌∙◌, sym, ap}
use Rattle.std.specs.FinSet as sets
use Rattle.rsc_alphabet.specs.Partitions.{boundaries_of_range, boundaries_of_ranges}
use Rattle.rsc_alphabet.specs.PartitionsLaws.{union_assoc, union_none}
use Rattle.rsc_uses.proofs.alphabet.add_runs.Goals as goal

pub loop-start-init : goal.loop-start-init
loop-start-init c = (
  tt,
  tt,
  ap (λ rs. sets.union c.args.partition.now (boundaries_of_ranges rs))
      (c.into_iter-start-iterator.ensures.into_iter_gives ∙ c.iter_ranges-start-items.ensures.value),
)

pub loop-start-preserved : goal.loop-start-preserved
loop-start-preserved c =
    let first = boundaries_of_range (c.in-Some.start, c.in-Some.end) in (
      tt,
      tt,
      ap (λ s. sets.union s (boundaries_of_ranges c.next.new.self)) c.set_range.ensures.value
          ∙ union_assoc c.loop-start.partition first (boundaries_of_ranges c.next.new.self)
          ∙ sym (ap (λ rs. sets.union c.loop-start.partition (boundaries_of_ranges rs)) c.in-Some.ensures.steps) ∙ c.loop-start.invariant.2,
    )

pub returns : goal.returns
returns c =
    sym (union_none c.loop-start.partition) ∙ sym (ap (λ rs. sets.union c.loop-start.partition (boundaries_of_ranges rs)) c.in-None.ensures.steps.0)
    ∙ c.loop-start.invariant.2
