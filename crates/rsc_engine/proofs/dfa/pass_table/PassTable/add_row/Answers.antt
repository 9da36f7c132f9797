use Rattle.std.proofs.Common.{◌≡◌, ◌+◌, ◌*◌, ◌≤◌, length, rules}
use Rattle.rsc_engine.proofs.PassTableLayoutLemmas.{IsPassTable-push, IsPassTable-wider, IsPassRow-last, IsPassGrown-push}
use Rattle.rsc_engine.proofs.dfa.pass_table.PassTable.add_row.Goals as goal

pub returns-in_err-push-clause-exact : goal.returns-in_err-push-clause-exact
returns-in_err-push-clause-exact g c =
    rw (c.in_err-push.ensures.items) (IsPassTable-wider _ _ _ _ _ _ _ _ c.requires.exact c.widen.ensures.same c.widen.ensures.longer)

pub returns-clause-exact : goal.returns-clause-exact
returns-clause-exact g c =
    let wider = IsPassTable-wider _ _ _ _ _ _ _ _ c.requires.exact c.widen.ensures.same c.widen.ensures.longer in
    let rows : c.len-index.result ≡ length c.args.self.now.rows.items = search rules in
    let room : length c.args.self.now.rows.items * c.args.plan.now.width + c.args.plan.now.width ≤ length c.widen.new.leads.items =
    rw rows at c.in_ok-widen.ensures.room in
    rw (c.in_ok-push.ensures.items) (IsPassTable-push _ _ _ _ _ _ _ _ wider c.requires.room c.requires.sound room)

pub returns-clause-row : goal.returns-clause-row
returns-clause-row g c = rw (c.in_ok-push.ensures.items) (IsPassRow-last _ _ _ _ (search rules) c.is_byte.ensures)

pub returns-clause-grows : goal.returns-clause-grows
returns-clause-grows g c = rw (c.in_ok-push.ensures.items) (IsPassGrown-push _ _)
