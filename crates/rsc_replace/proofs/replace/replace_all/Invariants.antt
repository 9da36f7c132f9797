use Rattle.std.proofs.Common.{◌≡◌, ◌≤◌, None, length}
use Rattle.rsc_search.specs.Inputs.{whole}
use Rattle.rsc_engine.specs.NextMatches.{calls_left}
use Rattle.rsc_engine.specs.PatternMatches.{HasSlotsOf}
use Rattle.rsc_replace.proofs.ReplacementsLemmas.{IsBegun}
use Rattle.rsc_replace.proofs.replace.replace_all.Given as goal

abbrev pub invariant-matches : goal.invariant-matches
invariant-matches g l = record {
  begun : IsBegun g.W.WordClass.word_chars l.template (record { program = l.fn.program; input = whole l.text; last = None }) l.matches l.out.items;
  haystack : l.matches.input.haystack ≡ l.text;
  end : l.matches.input.span.end ≡ length l.text;
  from : l.matches.input.span.start ≡ l.from;
  slots : HasSlotsOf l.matches.program l.captures;
  within : l.from ≤ length l.text;
}

abbrev pub decreases-matches : goal.decreases-matches
decreases-matches g l = calls_left l.matches.input.span.end l.matches.last
