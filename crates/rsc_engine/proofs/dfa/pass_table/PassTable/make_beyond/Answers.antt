use Rattle.std.proofs.Common.{refl, length}
use Rattle.std.proofs.lemmas.Option.{slice_get_read}
use Rattle.rsc_engine.proofs.PassTableLayoutLemmas.{beyond_made, IsBeyondTo-kept}
use Rattle.rsc_engine.proofs.dfa.pass_table.PassTable.make_beyond.Goals as goal

pub returns-in_err-keep_beyond-clause-exact : goal.returns-in_err-keep_beyond-clause-exact
returns-in_err-keep_beyond-clause-exact g c = c.keep_beyond.ensures.exact _ _ _ _ c.row_of.ensures.exact
    (IsBeyondTo-kept _ _ _ _ _ _ _ _ (c.in_ok-made.ensures.grows c.if-made.true)
    (beyond_made _ _ c.args.self.now.rows.items _ _ _ c.index-from.result.now _ _ c.args.haystack.now c.args.at c.in_ok-found.found c.in_ok-found.begins
    c.in_ok-found.list.items (slice_get_read _ (length c.args.self.now.rows.items) _ _ refl c.requires.row c.index-from.ensures) c.requires.at
    c.requires.unit c.requires.byte c.requires.looks c.in_ok-made.ensures.row c.in_ok-found.ensures.step))

pub returns-in_ok-keep_beyond-clause-exact : goal.returns-in_ok-keep_beyond-clause-exact
returns-in_ok-keep_beyond-clause-exact g c = c.keep_beyond.ensures.exact _ _ _ _ c.row_of.ensures.exact
    (IsBeyondTo-kept _ _ _ _ _ _ _ _ (c.in_ok-made.ensures.grows c.if-made.true)
    (beyond_made _ _ c.args.self.now.rows.items _ _ _ c.index-from.result.now _ _ c.args.haystack.now c.args.at c.in_ok-found.found c.in_ok-found.begins
    c.in_ok-found.list.items (slice_get_read _ (length c.args.self.now.rows.items) _ _ refl c.requires.row c.index-from.ensures) c.requires.at
    c.requires.unit c.requires.byte c.requires.looks c.in_ok-made.ensures.row c.in_ok-found.ensures.step))

pub returns-in_ok-keep_beyond-clause-step : goal.returns-in_ok-keep_beyond-clause-step
returns-in_ok-keep_beyond-clause-step g c = rw (c.keep_beyond.ensures.rows)
    (beyond_made _ _ c.args.self.now.rows.items _ _ _ c.index-from.result.now _ _ c.args.haystack.now c.args.at c.in_ok-found.found c.in_ok-found.begins
    c.in_ok-found.list.items (slice_get_read _ (length c.args.self.now.rows.items) _ _ refl c.requires.row c.index-from.ensures) c.requires.at
    c.requires.unit c.requires.byte c.requires.looks c.in_ok-made.ensures.row c.in_ok-found.ensures.step)

pub returns-else-made-clause-step : goal.returns-else-made-clause-step
returns-else-made-clause-step g c =
    beyond_made _ _ c.args.self.now.rows.items _ _ _ c.index-from.result.now _ _ c.args.haystack.now c.args.at c.in_ok-found.found c.in_ok-found.begins
    c.in_ok-found.list.items (slice_get_read _ (length c.args.self.now.rows.items) _ _ refl c.requires.row c.index-from.ensures) c.requires.at
    c.requires.unit c.requires.byte c.requires.looks c.in_ok-made.ensures.row c.in_ok-found.ensures.step
