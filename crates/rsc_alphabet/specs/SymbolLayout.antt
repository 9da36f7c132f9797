-- How the code holds a symbol.
use Rattle.std.specs.Prelude.{◌≡◌, refl}
use Rattle.rsc_alphabet.specs.declared.unit.UnitKind.{UnitKind}
use Rattle.rsc_alphabet.specs.declared.unit.UnitKind.TheVariants.{U8, EOI}
use Rattle.rsc_alphabet.specs.Symbols.{Symbol, byte, end_of_input}

abbrev pub symbol_of : UnitKind → Symbol
symbol_of (U8 b) = byte b
symbol_of (EOI n) = end_of_input n

abbrev pub kind_of : Symbol → UnitKind
kind_of (byte b) = U8 b
kind_of (end_of_input n) = EOI n

pub kind_of-symbol_of : (k : UnitKind) → kind_of (symbol_of k) ≡ k
kind_of-symbol_of (U8 b) = refl
kind_of-symbol_of (EOI n) = refl
