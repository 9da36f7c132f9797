use Rattle.std.proofs.Common.{◌≡◌, ◌*◌, length}
use Rattle.rsc_captures.specs.Groups.{all_group_count}
use Rattle.rsc_engine.specs.NextMatches.{after, calls_left}
use Rattle.rsc_uses.proofs.EngineLemmas.{AreFirst}
use Rattle.rsc_uses.proofs.LexedLemmas.{IsNextWith}
use Rattle.rsc_uses.proofs.lexer.tokens_with_group.Given as goal

-- the tokens so far are the first ones, and what is left is of the same program; the captures have its groups and their slots
abbrev pub invariant-matches : goal.invariant-matches
invariant-matches g l = record {
  first : AreFirst (IsNextWith g.W.WordClass.word_chars l.fn.group) (λ left both. after left both.0) l.initial.matches l.all.items l.matches;
  program : l.matches.program ≡ l.initial.matches.program;
  groups : l.captures.groups ≡ l.matches.program.automaton.groups;
  slots : length l.captures.offsets ≡ 2 * all_group_count l.matches.program.automaton.groups;
}

abbrev pub decreases-matches : goal.decreases-matches
decreases-matches g l = calls_left l.matches.input.span.end l.matches.last
