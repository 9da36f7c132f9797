use Rattle.std.proofs.Common.{◌≡◌, ◌<◌, ◌≤◌, ◌-◌, ℕ, true, length, slice_index}
use Rattle.rsc_uses.specs.Tokens.{continues}
use Rattle.rsc_uses.proofs.tokenizer.Table.token_at.Given as goal

-- the bytes up to here are the token's
abbrev pub invariant-loop-end : goal.invariant-loop-end
invariant-loop-end l =
    record {
      some : l.at < l.end;
      within : l.end ≤ length l.text;
      rest : (i : ℕ) → l.at < i → i < l.end → continues l.kind (slice_index l.text i) ≡ true;
    }

abbrev pub decreases-loop-end : goal.decreases-loop-end
decreases-loop-end l = length l.text - l.end
