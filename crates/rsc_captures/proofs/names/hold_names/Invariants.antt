use Rattle.std.proofs.Common.{◌++◌, take, string_bytes}
use Rattle.rsc_captures.proofs.Prelude.{groups_in, names_held, AreHeld}
use Rattle.rsc_captures.proofs.names.hold_names.Given as goal

-- the names so far are held
abbrev pub invariant-loop-group : goal.invariant-loop-group
invariant-loop-group g l =
    AreHeld (string_bytes l.text) l.entries.items (names_held (string_bytes l.initial.text) l.initial.entries.items ++ take l.group-index (groups_in l.groups))
