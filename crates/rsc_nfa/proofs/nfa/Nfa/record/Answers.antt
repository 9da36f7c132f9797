use Rattle.std.proofs.Common.{◌∙◌, arith}
use Rattle.rsc_nfa.proofs.NfaLemmas.{HasRecorded-more, length-put}
use Rattle.rsc_nfa.proofs.nfa.Nfa.record.Goals as goal

pub loop-k-preserved : goal.loop-k-preserved
loop-k-preserved g c =
    let so_far = c.loop-k.invariant in let left = c.index-run-k.result in
    rw (c.put.ensures, c.slot_recorded.ensures) (record {
      low = omega arith;
      groups = so_far.groups;
      pattern = so_far.pattern;
      count = length-put c.loop-k.captures.offsets _ left.1 ∙ so_far.count;
      slots = HasRecorded-more c.args.self.now.states c.args.run.now c.loop-k.captures.offsets c.loop-k.k left so_far.low c.loop-k-test.true
          c.index-run-k.is so_far.slots;
    })
