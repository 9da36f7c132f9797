use Rattle.std.proofs.Common.{arith}
use Rattle.rsc_captures.specs.Groups.{slot_number}
use Rattle.rsc_engine.specs.Trees.{pattern_in}
use Rattle.rsc_engine.proofs.LoopsLemmas.{BuildsPart-no_times}
use Rattle.rsc_engine.proofs.builder.compile.Compiler.no_times.Goals as goal

pub returns : goal.returns
returns c =
    BuildsPart-no_times (slot_number c.args.slots.now.info.now c.args.slots.now.pattern) _ _ _ _ _ c.args.times.is_greedy (pattern_in c.args.sub.now)
    (omega (arith, c.groups_left-self.ensures, c.requires))
