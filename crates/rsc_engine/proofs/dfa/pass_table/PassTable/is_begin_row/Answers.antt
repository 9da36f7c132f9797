use Rattle.std.proofs.Common.{rules, arith, ◌≡◌, ◌∙◌, ◌<◌, refl, sym, length}
use Rattle.std.proofs.lemmas.Grind.{common_steps}
use Rattle.std.proofs.lemmas.Option.{slice_get_read}
use Rattle.rsc_engine.proofs.dfa.pass_table.PassTable.is_begin_row.Goals as goal

pub returns : goal.returns
returns g c =
    let l : c.args.row < length c.args.self.now.rows.items = grind (arith, common_steps) in
    let backward : c.index-there.result.now.backward ≡ c.args.backward = search rules in
    let mode : c.index-there.result.now.mode ≡ c.args.mode.now = search rules in
    let begins : c.index-there.result.now.begins ≡ c.args.begins = search rules in
    λ e. record {
      to = c.index-there.result.now;
      there = slice_get_read _ (length c.args.self.now.rows.items) _ _ refl l c.index-there.ensures;
      same_pass = backward;
      same_mode = mode;
      same_begins = begins;
      same_found = c.if-not-is_same_pattern.ensures refl;
      alike = c.if-not-are_alike.ensures refl;
      is_list = sym c.as_slice.ensures.value ∙ c.are_same.ensures e;
    }
