use Rattle.std.proofs.Common.{sym}
use Rattle.rsc_look.specs.LookSetLaws.{bits_of-looks_of}
use Rattle.rsc_look.proofs.look_set.LookSet.bits.Goals as goal

pub returns-clause-value : goal.returns-clause-value
returns-clause-value c = rw (← c.self.view_is) (sym (bits_of-looks_of c.self.inside.bits c.self.invariant))
