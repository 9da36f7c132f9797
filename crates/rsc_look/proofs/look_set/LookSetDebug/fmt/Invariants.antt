use Rattle.std.proofs.Common.{◌≡◌, ℕ, List, ◌++◌, flat_map}
use Rattle.std.specs.Fmt.{HasWritten, IsPlainFormatter}
use Rattle.rsc_look.specs.LookSets.{members, look_text}
use Rattle.rsc_look.proofs.look_set.LookSetDebug.fmt.Given as goal

-- the members so far are written
abbrev pub invariant-loop-look : goal.invariant-loop-look
invariant-loop-look g l = IsPlainFormatter l.fn.f →
    (done : List ℕ) × HasWritten g.W.Write.write_str_gives l.fn.f done l.f × (done ++ flat_map look_text l.looks ≡ flat_map look_text (members l.fn.self))
