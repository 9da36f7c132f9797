use Rattle.std.proofs.Common.{refl}
use Rattle.rsc_look.specs.Looks.{every_look}
use Rattle.rsc_notation.proofs.looks.every_look.Goals as goal

pub returns : goal.returns
unfolding every_look
returns c = refl
