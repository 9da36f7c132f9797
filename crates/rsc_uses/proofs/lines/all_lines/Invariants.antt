use Rattle.std.proofs.Common.{◌≡◌, ◌+◌, ◌-◌, length}
use Rattle.rsc_engine.specs.Lines.{IsNextLine, after_line}
use Rattle.rsc_uses.proofs.EngineLemmas.{AreFirst}
use Rattle.rsc_uses.proofs.lines.all_lines.Given as goal

abbrev pub invariant-lines : goal.invariant-lines
invariant-lines g l = record {
  first : AreFirst (IsNextLine g.W.WordClass.word_chars) after_line (record { program = l.fn.dfa; haystack = l.fn.text; from = 0 }) l.all.items l.lines;
  program : l.lines.program ≡ l.fn.dfa;
}

abbrev pub decreases-lines : goal.decreases-lines
decreases-lines g l = length l.lines.haystack + 1 - l.lines.from
