use Rattle.std.proofs.Common.{◌≡◌, ◌+◌, ◌*◌, get_or, refl, ◌∙◌}
use Rattle.rsc_look.specs.declared.assertion.Look.{Look}
use Rattle.rsc_look.specs.declared.assertion.Look.TheVariants.{Start}
use Rattle.rsc_look.specs.declared.side.Side.{Side}
use Rattle.rsc_look.specs.declared.side.Side.TheVariants.{Absent}
use Rattle.rsc_look.specs.declared.matcher.holding.TheConstants.{AT_SIDES}
use Rattle.rsc_look.specs.Holds.{holds_at_sides}
use Rattle.rsc_look.specs.HoldingLayout.{entry_of}
use Rattle.rsc_look.specs.LookSetLayout.{has_look}
use Rattle.rsc_look.proofs.matcher.holding.holding_at_sides.Goals as goal

-- the table has the answer for each two sides
entry : (a b : Side) (l : Look) → has_look (get_or AT_SIDES (entry_of a * 4 + entry_of b) 0) l ≡ holds_at_sides l a b
entry Absent Absent Start = refl
entry Absent Absent _ = refl
entry Absent _ Start = refl
entry Absent _ _ = refl
entry _ Absent Start = refl
entry _ Absent _ = refl
entry _ _ Start = refl
entry _ _ _ = refl

pub returns : goal.returns
returns c = λ look. c.of_bits.ensures look ∙ rw (c.index.ensures, c.index-2.ensures) (entry c.args.before c.args.after look)
