-- The symbols that an automaton reads: bytes, and the end of the input.
use Rattle.std.specs.Prelude.{ℕ, Bool, false, List, Option, Some, None, codes}
use Rattle.std.specs.declared.cmp.Ordering.{Ordering}
use Rattle.std.specs.Ordering.{nat_cmp, on, then_cmp}
use Rattle.rsc_primitives.specs.Escapes.{byte_text}
use Rattle.rsc_primitives.specs.Utf8.{is_word_byte}

-- a byte, or an end of the input with the number that stands for it
pub data Symbol : Type 0 where
  byte : ℕ → Symbol
  end_of_input : ℕ → Symbol

-- the byte, if the symbol is one
abbrev pub byte_of : Symbol → Option ℕ
byte_of (byte b) = Some b
byte_of (end_of_input n) = None

-- the number of an end of the input, if the symbol is one
abbrev pub end_number_of : Symbol → Option ℕ
end_number_of (byte b) = None
end_number_of (end_of_input n) = Some n

-- the number of a byte, or of an end of the input
abbrev pub number_of : Symbol → ℕ
number_of (byte b) = b
number_of (end_of_input n) = n

-- a word byte; no end of the input is one
abbrev pub is_word_symbol : Symbol → Bool
is_word_symbol (byte b) = is_word_byte b
is_word_symbol (end_of_input n) = false

-- how a symbol is shown
abbrev pub symbol_text : Symbol → List ℕ
symbol_text (byte b) = byte_text b
symbol_text (end_of_input n) = codes "EOI"

-- bytes come before ends of the input
abbrev pub rank_of : Symbol → ℕ
rank_of (byte b) = 0
rank_of (end_of_input n) = 1

-- bytes come first, and within each kind the number decides
abbrev pub symbol_cmp : Symbol → Symbol → Ordering
symbol_cmp = then_cmp (on rank_of nat_cmp) (on number_of nat_cmp)
