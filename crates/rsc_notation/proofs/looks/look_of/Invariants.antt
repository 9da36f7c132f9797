use Rattle.std.proofs.Common.{◌≡◌, ◌<◌, ℕ, get_or}
use Rattle.rsc_look.specs.declared.assertion.Look.TheVariants.{Start}
use Rattle.rsc_look.specs.Looks.{every_look}
use Rattle.rsc_notation.specs.LookNames.{look_name}
use Rattle.rsc_notation.proofs.looks.look_of.Given as goal

-- no assertion so far has the name
abbrev pub invariant-loop-look : goal.invariant-loop-look
invariant-loop-look l = (k : ℕ) → k < l.look-index → ¬ (l.name ≡ look_name (get_or every_look k Start))
