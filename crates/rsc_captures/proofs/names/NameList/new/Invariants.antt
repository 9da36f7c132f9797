use Rattle.std.proofs.Common.{take, flat_map, string_bytes}
use Rattle.rsc_captures.proofs.Prelude.{lists_in, AreHeld}
use Rattle.rsc_captures.proofs.names.NameList.new.Given as goal

-- the names of the patterns so far are held
abbrev pub invariant-loop-groups : goal.invariant-loop-groups
invariant-loop-groups g l = AreHeld (string_bytes l.text) l.entries.items (flat_map (λ groups. groups) (take l.groups-index (lists_in l.lists)))
