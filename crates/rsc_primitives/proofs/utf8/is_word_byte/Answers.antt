use Rattle.std.proofs.Common.{ℕ, Bool, ◌/◌, ◌%◌, nat_eq, get_or, refl, ◌∙◌, arith}
use Rattle.std.proofs.lemmas.Bool.{agree_below_at}
use Rattle.std.specs.Int.{bit_at}
use Rattle.rsc_primitives.specs.Utf8.{is_word_byte}
use Rattle.rsc_primitives.specs.declared.utf8.TheConstants.{WORD_BYTES}
use Rattle.rsc_primitives.proofs.utf8.is_word_byte.Goals as goal

-- the bit that stands for a byte
abbrev masked : ℕ → Bool
masked b = nat_eq (bit_at (get_or WORD_BYTES (b / 64) 0) (b % 64)) 1

-- the masks have the answer for each byte
pub returns : goal.returns
returns c = c.has_bit.ensures ∙ rw c.from.ensures (agree_below_at masked is_word_byte 256 c.args.byte refl (omega arith))
