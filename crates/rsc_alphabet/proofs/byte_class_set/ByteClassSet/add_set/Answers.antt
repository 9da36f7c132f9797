use Rattle.std.proofs.Common.{ℕ, ◌||◌, ap, ◌∙◌}
use Rattle.std.specs.FinSet as sets
use Rattle.rsc_alphabet.proofs.PartitionsLemmas.{boundaries_of_ends, boundaries_added}
use Rattle.rsc_alphabet.proofs.byte_class_set.ByteClassSet.add_set.Goals as goal

pub returns : goal.returns
returns c =
    let each = λ (k : ℕ). c.add_boundaries.ensures k ∙ ap (λ x. sets.contains c.args.self.now k || x)
    (boundaries_of_ends c.args.set.now c.run_starts.result c.run_ends.result c.run_starts.ensures c.run_ends.ensures k) in
    record { value = boundaries_added c.args.set.now c.args.self.now c.add_boundaries.new.self each; members = each }
