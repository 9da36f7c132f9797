use Rattle.std.proofs.Common.{◌<◌, ◌∷◌, [], length, take, get_or, None, arith, option_copied, string_bytes, append_assoc}
use Rattle.rsc_captures.proofs.Prelude.{groups_in, names_held}
use Rattle.rsc_captures.proofs.GroupsLemmas.{take_groups_more}
use Rattle.rsc_captures.proofs.NamesLayoutLemmas.{held_more}
use Rattle.rsc_captures.proofs.names.hold_names.Goals as goal

pub loop-group-preserved : goal.loop-group-preserved
loop-group-preserved g c =
    let lt : c.loop-group.group-index < length c.args.groups.now = omega arith in
    rw (
      c.in_ok-entry.ensures.text,
      c.in_ok-push.ensures.items,
      c.in_ok-entry.ensures.entry,
      take_groups_more c.args.groups.now c.loop-group.group-index lt,
      ← append_assoc (names_held (string_bytes c.args.text.now) c.args.entries.now.items) (take c.loop-group.group-index (groups_in c.args.groups.now))
          (option_copied (get_or c.args.groups.now c.loop-group.group-index None) ∷ []),
    )
    (held_more (string_bytes c.loop-group.text) c.loop-group.entries.items _ (option_copied (get_or c.args.groups.now c.loop-group.group-index None))
    c.in_ok-entry.ensures.utf8 c.in_ok-entry.ensures.length c.loop-group.invariant)
