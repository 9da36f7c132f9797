use Rattle.std.proofs.Common.{ap₂, ◌∙◌, zip}
use Rattle.rsc_alphabet.proofs.ByteSetsLemmas.{runs_ordered, zip-runs}
use Rattle.rsc_alphabet.proofs.byte_set.ByteSet.iter_ranges.Goals as goal

pub returns : goal.returns
returns c =
    let list = ap₂ (λ t u. zip t u) c.new.ensures c.new-2.ensures
    ∙ zip-runs c.args.self.now c.run_starts.result c.run_ends.result c.run_starts.ensures c.run_ends.ensures in
    record { value = list; order = rw list (runs_ordered c.args.self.now) }
