use Rattle.std.proofs.Common.{◌≡◌, take, true}
use Rattle.std.specs.List.{list_all}
use Rattle.rsc_primitives.specs.Utf8.{is_word_byte}
use Rattle.rsc_notation.proofs.groups.all_word_bytes.Given as goal

abbrev pub invariant-loop-byte : goal.invariant-loop-byte
invariant-loop-byte l = list_all is_word_byte (take l.byte-index l.name) ≡ true
