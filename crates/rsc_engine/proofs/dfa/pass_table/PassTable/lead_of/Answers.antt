use Rattle.std.proofs.Common.{◌≡◌, ◌<◌, ◌+◌, ◌*◌, sym, get_or, length, Some, rules}
use Rattle.std.proofs.lemmas.List.{get_or_read}
use Rattle.rsc_engine.specs.declared.dfa.entries.Lead.TheVariants.{Unknown}
use Rattle.rsc_engine.specs.PassTableLayout.{column}
use Rattle.rsc_engine.proofs.dfa.pass_table.PassTable.lead_of.Goals as goal

pub returns-clause-row : goal.returns-clause-row
returns-clause-row g c =
    let leads = c.args.self.now.leads.items in
    let below : c.entry_index-entry.result < length leads = search rules in
    let entry : get_or leads (c.args.row * c.args.plan.now.width + column c.args.plan.now.classes (Some c.args.byte)) Unknown ≡ c.index.result.now =
    rw c.entry_index-entry.ensures.value at (sym (get_or_read leads _ _ below c.index.ensures Unknown)) in
    rw entry at (c.requires.exact.each c.args.row (Some c.args.byte) c.ranges.byte.fits)

pub returns-clause-plain : goal.returns-clause-plain
returns-clause-plain g c =
    let leads = c.args.self.now.leads.items in
    let below : c.entry_index-entry.result < length leads = search rules in
    let entry : get_or leads (c.args.row * c.args.plan.now.width + column c.args.plan.now.classes (Some c.args.byte)) Unknown ≡ c.index.result.now =
    rw c.entry_index-entry.ensures.value at (sym (get_or_read leads _ _ below c.index.ensures Unknown)) in
    rw entry at (c.requires.exact.plain c.args.row (Some c.args.byte) c.ranges.byte.fits)
