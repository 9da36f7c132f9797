use Rattle.std.proofs.Common.{refl, length}
use Rattle.std.proofs.lemmas.Option.{slice_get_read, slice_get_within}
use Rattle.rsc_engine.proofs.PassTableLayoutLemmas.{sound_at, pass_made, IsPassTo-kept}
use Rattle.rsc_engine.proofs.dfa.pass_table.PassTable.make.Goals as goal

pub step_beside-requires : goal.step_beside-requires
step_beside-requires g c =
    sound_at _ _ _ _ c.requires.exact.sound (slice_get_read _ (length c.args.self.now.rows.items) _ _ refl c.requires.row c.index-from.ensures)

pub row_of-requires-clause-sound : goal.row_of-requires-clause-sound
row_of-requires-clause-sound g c = record {
  states = c.in_ok-found.ensures.states;
  numbered = (sound_at _ _ _ _ c.requires.exact.sound
      (slice_get_read _ (length c.args.self.now.rows.items) _ _ refl c.requires.row c.index-from.ensures)).numbered;
}

pub record-requires-clause-row : goal.record-requires-clause-row
record-requires-clause-row g c =
    slice_get_within c.row_of.new.self.rows.items c.args.row c.index-from.result.now
    ((c.in_ok-made.ensures.grows c.if-made.true).kept _ _ (slice_get_read _ (length c.args.self.now.rows.items) _ _ refl c.requires.row c.index-from.ensures))

pub record-requires-clause-step : goal.record-requires-clause-step
record-requires-clause-step g c =
    IsPassTo-kept _ _ _ _ _ _ _ (c.in_ok-made.ensures.grows c.if-made.true)
    (pass_made _ _ c.args.self.now.rows.items _ _ _ c.index-from.result.now _ c.in_ok-found.found c.in_ok-found.begins c.in_ok-found.list.items
    (slice_get_read _ (length c.args.self.now.rows.items) _ _ refl c.requires.row c.index-from.ensures) c.is_byte.ensures
    (c.requires.read _ (slice_get_read _ (length c.args.self.now.rows.items) _ _ refl c.requires.row c.index-from.ensures)) c.requires.plain
    c.in_ok-made.ensures.row c.in_ok-found.ensures.step)

pub returns-then-made-clause-step : goal.returns-then-made-clause-step
returns-then-made-clause-step g c =
    rw (c.record.ensures.rows)
    (pass_made _ _ c.args.self.now.rows.items _ _ _ c.index-from.result.now _ c.in_ok-found.found c.in_ok-found.begins c.in_ok-found.list.items
    (slice_get_read _ (length c.args.self.now.rows.items) _ _ refl c.requires.row c.index-from.ensures) c.is_byte.ensures
    (c.requires.read _ (slice_get_read _ (length c.args.self.now.rows.items) _ _ refl c.requires.row c.index-from.ensures)) c.requires.plain
    c.in_ok-made.ensures.row c.in_ok-found.ensures.step)

pub returns-else-made-clause-step : goal.returns-else-made-clause-step
returns-else-made-clause-step g c =
    pass_made _ _ c.args.self.now.rows.items _ _ _ c.index-from.result.now _ c.in_ok-found.found c.in_ok-found.begins c.in_ok-found.list.items
    (slice_get_read _ (length c.args.self.now.rows.items) _ _ refl c.requires.row c.index-from.ensures) c.is_byte.ensures
    (c.requires.read _ (slice_get_read _ (length c.args.self.now.rows.items) _ _ refl c.requires.row c.index-from.ensures)) c.requires.plain
    c.in_ok-made.ensures.row c.in_ok-found.ensures.step
