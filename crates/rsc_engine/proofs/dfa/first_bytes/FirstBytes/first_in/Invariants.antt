use Rattle.rsc_engine.specs.FirstBytesLayout.{LacksFirst}
use Rattle.rsc_engine.proofs.dfa.first_bytes.FirstBytes.first_in.Given as goal

abbrev pub invariant-bytes : goal.invariant-bytes
invariant-bytes l = LacksFirst l.self.range l.haystack l.start l.at
