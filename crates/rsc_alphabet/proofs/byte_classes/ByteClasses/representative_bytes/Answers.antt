use Rattle.std.proofs.Common.{ap, ◌∙◌, sym, arith}
use Rattle.rsc_alphabet.specs.ByteSets.{members}
use Rattle.rsc_alphabet.proofs.IteratorsLemmas.{members_none, representing_none, representative_bytes_are}
use Rattle.rsc_alphabet.proofs.byte_classes.ByteClasses.representative_bytes.Goals as goal

pub returns-then-first-end : goal.returns-then-first-end
returns-then-first-end c = ap members c.empty.ensures.value ∙ members_none ∙ sym (representing_none c.args.self.now c.args.first c.args.end (omega arith))

pub returns : goal.returns
returns c =
    representative_bytes_are c.args.self.now c.class_starts.result c.between-bytes.result c.add.new.self c.args.first c.args.end (omega arith) c.requires
    c.class_starts.ensures c.between-bytes.ensures c.add.ensures.members
