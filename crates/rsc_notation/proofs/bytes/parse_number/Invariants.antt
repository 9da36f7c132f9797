use Rattle.std.proofs.Common.{◌<◌, ◌^◌}
use Rattle.rsc_notation.proofs.RangeTextsLemmas.{Reads}
use Rattle.rsc_notation.proofs.bytes.parse_number.Given as goal

abbrev pub invariant-loop-digit : goal.invariant-loop-digit
invariant-loop-digit l = record {
  reads : Reads l.digits l.digit-index l.number;
  small : l.number < 2 ^ 64;
}
