use Rattle.std.proofs.Common.{◌≤◌, ◌-◌, length}
use Rattle.rsc_uses.specs.Tokens.{Tile}
use Rattle.rsc_uses.proofs.tokenizer.tokenize.Given as goal

-- the tokens so far tile the text up to here
abbrev pub invariant-loop-at : goal.invariant-loop-at
invariant-loop-at l =
    record {
      within : l.at ≤ length l.text;
      tile : Tile l.text 0 l.at l.tokens.items;
    }

abbrev pub decreases-loop-at : goal.decreases-loop-at
decreases-loop-at l = length l.text - l.at
