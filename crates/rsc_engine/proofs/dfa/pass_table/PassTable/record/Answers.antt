use Rattle.std.proofs.Common.{◌<◌, length, rules}
use Rattle.rsc_engine.proofs.PassTableLayoutLemmas.{IsPassTable-set, plain-made}
use Rattle.rsc_engine.proofs.dfa.pass_table.PassTable.record.Goals as goal

pub returns-clause-exact : goal.returns-clause-exact
returns-clause-exact g c =
    let below : c.entry_index-entry.result < length c.args.self.now.leads.items = search rules in
    IsPassTable-set c.entries_of_a_table_are_apart.ensures.distinct _ _ _ _ _ _ _ _ _ _ _ _ c.requires.exact
    c.requires.plan.columns c.requires.plan.bounded c.is_byte.ensures c.requires.step
    c.lead_to.ensures.row (plain-made _ _ _ _ c.has_match.ensures c.lead_to.ensures.plain) c.entry_index-entry.ensures.value below
