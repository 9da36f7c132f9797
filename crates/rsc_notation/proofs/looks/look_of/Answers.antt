use Rattle.std.proofs.Common.{arith, sym, ap, ◌∙◌, length}
use Rattle.rsc_notation.specs.LookNames.{look_name}
use Rattle.rsc_notation.proofs.LookNamesLemmas.{eighteen, is_listed}
use Rattle.rsc_notation.proofs.looks.look_of.Goals as goal

pub returns : goal.returns
returns c = λ look. (
  λ e. cc,
  λ same.
      let at = is_listed look in
      absurd (c.loop-look.invariant at.0 (omega (arith, at.1, eighteen, ap length c.every_look-look-items.ensures, c.loop-look-test.false))
      (same ∙ ap look_name (sym at.2))),
)
