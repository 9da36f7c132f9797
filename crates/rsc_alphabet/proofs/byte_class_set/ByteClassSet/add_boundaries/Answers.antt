use Rattle.std.proofs.Common.{◌+◌, ap, ◌∙◌, ◌||◌}
use Rattle.std.specs.FinSet as sets
use Rattle.rsc_alphabet.proofs.PartitionsLemmas.{boundaries_joined}
use Rattle.rsc_alphabet.proofs.byte_class_set.ByteClassSet.add_boundaries.Goals as goal

pub returns : goal.returns
returns c =
    let ends = c.self.inside.ends in
    rw (← c.self.view_is) (boundaries_joined ends c.union.result c.union-self-inside.result (λ k. sets.contains c.args.starts.now (k + 1))
    (sets.contains c.args.ends.now)
    (λ b. c.union.ensures.members b ∙ ap (λ x. sets.contains ends b || x) (c.predecessors.ensures b)) c.union-self-inside.ensures.members
    c.union-self-inside.ensures.most)
