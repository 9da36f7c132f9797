-- A program, and what a search is over.
use Rattle.std.specs.Prelude.{ℕ, Bool, List}
use Rattle.rsc_search.specs.Inputs.{InputParts}
use Rattle.rsc_search.specs.declared.anchored.Anchored.{Anchored}
use Rattle.rsc_nfa.specs.Automata.{Automaton}
use Rattle.rsc_nfa.specs.declared.state.State.{State}

-- an automaton, the state at which each match begins, and whether haystacks are text, so that an iteration leaves out empty matches within a character
pub record Compiled (W : Type 0) : Type 0 where
  pub automaton : Automaton W
  pub start : ℕ
  pub utf8 : Bool

-- what a search is over: of the program the states, the line terminator, the word characters, the state at which each match begins, and whether
-- haystacks are text; of the input the haystack, the span that is searched, and where a match may begin, or one pattern alone
pub record Search : Type 0 where
  pub states : List State
  pub terminator : ℕ
  pub word_chars : ℕ → Bool
  pub start_state : ℕ
  pub utf8 : Bool
  pub haystack : List ℕ
  pub start : ℕ
  pub end : ℕ
  pub mode : Anchored

-- the search of an input by a program; chars gives the word characters of a predicate
abbrev pub search_in : {W : Type 0} → (W → ℕ → Bool) → Compiled W → InputParts → Search
search_in chars p input = record {
  states = p.automaton.states;
  terminator = p.automaton.matcher.0;
  word_chars = chars p.automaton.matcher.1;
  start_state = p.start;
  utf8 = p.utf8;
  haystack = input.haystack;
  start = input.span.start;
  end = input.span.end;
  mode = input.anchored;
}
