use Rattle.std.proofs.Common.{◌≡◌, ◌≤◌, length, take}
use Rattle.rsc_nfa.proofs.NfaLemmas.{HasRecorded}
use Rattle.rsc_nfa.proofs.nfa.Nfa.record.Given as goal

-- the slots have what the places so far record
abbrev pub invariant-loop-k : goal.invariant-loop-k
invariant-loop-k g l =
    record {
      low : 1 ≤ l.k;
      groups : l.captures.groups ≡ l.fn.captures.groups;
      pattern : l.captures.pattern ≡ l.fn.captures.pattern;
      count : length l.captures.offsets ≡ length l.fn.captures.offsets;
      slots : HasRecorded l.self.states (take l.k l.run) l.captures.offsets;
    }
