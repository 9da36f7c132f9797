use Rattle.std.proofs.Common.{◌≡◌, ◌-◌, ◌<◌, ◌≤◌, length}
use Rattle.rsc_engine.specs.Lines.{BeginsLine, NoSuchLine, HasMatchIn}
use Rattle.rsc_engine.proofs.lines.first_line.Given as goal

-- no line before this position has a match
abbrev pub invariant-loop-at : goal.invariant-loop-at
invariant-loop-at g l = record {
  program : l.dfa ≡ l.fn.dfa;
  begins : l.at < length l.haystack → BeginsLine l.haystack l.at;
  low : l.from ≤ l.at;
  passed : NoSuchLine l.haystack (HasMatchIn g.W.WordClass.word_chars l.fn.dfa l.haystack) l.from l.at;
}

abbrev pub decreases-loop-at : goal.decreases-loop-at
decreases-loop-at g l = length l.haystack - l.at
