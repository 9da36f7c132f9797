use Rattle.rsc_look.proofs.KeepingLemmas.{word_byte_boundaries_added}
use Rattle.rsc_look.proofs.boundaries.add_word_byte_boundaries.Goals as goal

pub returns : goal.returns
returns c = word_byte_boundaries_added c.args.set.now c.add_set.new.self c.word_bytes.result c.word_bytes.ensures c.add_set.ensures.members
