use Rattle.std.proofs.Common.{◌≡◌, ◌≢◌, ◌+◌, ◌*◌, ◌^◌, ◌<◌, ℕ, length, slice_index}
use Rattle.rsc_alphabet.specs.Iterators.{stride2_of}
use Rattle.rsc_uses.specs.Leads.{lead_in}
use Rattle.rsc_uses.proofs.tokenizer.write_row.Given as goal

-- the bytes so far have their entries, and those of other rows are as they were
abbrev pub invariant-loop-byte : goal.invariant-loop-byte
invariant-loop-byte l =
    record {
      len : length l.entries.items ≡ length l.fn.entries.items;
      row : (b : ℕ) → b < l.byte → slice_index l.entries.items (l.row * 2 ^ stride2_of l.classes + slice_index l.classes b) ≡ lead_in l.ranges b;
      others : (other b : ℕ) → other ≢ l.row → b < 256 →
          slice_index l.entries.items (other * 2 ^ stride2_of l.classes + slice_index l.classes b)
          ≡ slice_index l.fn.entries.items (other * 2 ^ stride2_of l.classes + slice_index l.classes b);
    }
