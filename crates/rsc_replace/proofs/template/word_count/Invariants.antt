use Rattle.std.proofs.Common.{◌≡◌, ◌<◌, ℕ, true, get_or}
use Rattle.rsc_primitives.specs.Utf8.{is_word_byte}
use Rattle.rsc_replace.proofs.template.word_count.Given as goal

abbrev pub invariant-loop-at : goal.invariant-loop-at
invariant-loop-at l = (k : ℕ) → k < l.at → is_word_byte (get_or l.bytes k 0) ≡ true
