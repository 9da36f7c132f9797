use Rattle.std.proofs.Common.{◌≢◌, ◌<◌, ◌≤◌, ◌^◌, ◌∙◌, ℕ, inl, inr, sym, ap, cond, arith, slice_index, length-set, get_or-set_other}
use Rattle.std.proofs.lemmas.Bool.{cases_eq}
use Rattle.std.proofs.lemmas.Grind.{get_or-set_at}
use Rattle.rsc_alphabet.specs.Iterators.{stride2_of, symbol_count}
use Rattle.rsc_uses.specs.declared.tokenizer.TheConstants.{RANGES}
use Rattle.rsc_uses.proofs.tokenizer.write_row.Goals as goal

-- the entry is in the table, and of the entries of bytes only those of this row and class are the same
pub loop-byte-preserved : goal.loop-byte-preserved
loop-byte-preserved c =
    let classes = c.args.classes.now in
    let entries = c.loop-byte.entries.items in
    let so_far = c.loop-byte.invariant in
    let byte = c.loop-byte.byte in
    let is_byte : byte < 256 = c.loop-byte-test.true in
    let lead = c.lead_in.result in
    let entry = c.entry_index-entry.result in
    let here = c.entry_index-entry.ensures in
    let law = c.entries_of_a_table_are_apart.ensures in
    let enough : symbol_count classes ≤ 2 ^ stride2_of classes = rw c.stride2-stride2.ensures.value at c.stride2-stride2.ensures.enough in
    let column : (b : ℕ) → b < 256 → slice_index classes b < 2 ^ stride2_of classes = λ b l. law.column classes _ b c.requires.bounded enough l in
    let small = column byte is_byte in
    record {
      len = length-set entries entry lead ∙ so_far.len;
      row = λ b l. elim (cases_eq (slice_index classes b) (slice_index classes byte)) [
        | inl same ↦
            get_or-set_at entries entry _ lead 0 (omega (arith, same, here)) (omega (arith, small, c.requires.room, so_far.len, here)) ∙ c.lead_in.ensures
            ∙ ap (λ x. cond x 1 0) (c.alike_bytes_share_their_ranges.ensures.among RANGES c.args.ranges.now byte b
            (c.requires.alike byte b is_byte (omega (arith, l, is_byte)) (sym same)) c.requires.among)
        | inr differs ↦
            let before : b ≢ byte = λ e. differs (ap (slice_index classes) e) in
            get_or-set_other entries entry _ lead 0 (λ e. differs (omega (arith, e, here))) ∙ so_far.row b (omega (arith, l, before))
      ];
      others = λ other b apart l.
          get_or-set_other entries entry _ lead 0 (λ e. apart (law.distinct _ other _ c.args.row _ (column b l) small (e ∙ here)).0)
          ∙ so_far.others other b apart l;
    }
