-- The iterators of any map from byte to class, given as the list of the bytes' classes.
use Rattle.std.specs.Prelude.{ℕ, ◌+◌, ◌-◌, ◌^◌, nat_lt, count_by, ◌==◌, ◌||◌, not, List, [], ◌∷◌, ◌++◌, map, filter, slice_index}
use Rattle.std.specs.declared.ops.Bound.{Bound}
use Rattle.std.specs.declared.ops.Bound.TheVariants.{Included, Excluded, Unbounded}
use Rattle.std.specs.Range.Bound.{start_index, end_index}
use Rattle.rsc_alphabet.specs.Bytes.{from_to, bytes}
use Rattle.rsc_alphabet.specs.Symbols.{Symbol, byte, end_of_input}

-- the class of a byte, and the number of an end of the input
abbrev pub class_at : List ℕ → Symbol → ℕ
class_at classes (byte b) = slice_index classes b
class_at classes (end_of_input n) = n

-- the end of the input: its number is one more than the class of the last byte
abbrev pub end_symbol : List ℕ → Symbol
end_symbol classes = end_of_input (slice_index classes 255 + 1)

-- how many symbols there are: the classes from 0 to that of the last byte, and the end of the input
abbrev pub symbol_count : List ℕ → ℕ
symbol_count classes = slice_index classes 255 + 2

-- the exponent of the least power of two that is at least the number of symbols: as many as there are lesser powers of two.
-- A class is below 256, so the exponent is at most 9.
abbrev pub stride2_of : List ℕ → ℕ
stride2_of classes = count_by (λ k. nat_lt (2 ^ k) (symbol_count classes)) (from_to 0 9)

-- the symbols 0 to the class of the last byte, and then the end of the input
abbrev pub symbols : List ℕ → List Symbol
symbols classes = map (λ c. byte c) (from_to 0 (slice_index classes 255 + 1)) ++ end_symbol classes ∷ []

-- the bytes of a class, ascending; of any end of the input, the end after 256 classes
abbrev pub elements_of : List ℕ → Symbol → List Symbol
elements_of classes (byte c) = map (λ b. byte b) (filter (λ b. slice_index classes b == c) bytes)
elements_of classes (end_of_input n) = end_of_input 256 ∷ []

-- the bytes from `low` up to, and without, `high` that represent their classes: the first, and each whose class isn't its predecessor's
abbrev pub representing : List ℕ → ℕ → ℕ → List ℕ
representing classes low high =
    filter (λ b. b == low || not (slice_index classes b == slice_index classes (b - 1))) (from_to low high)

-- the end of the input, if the range has no end
abbrev pub end_if_unbounded : List ℕ → Bound ℕ → List Symbol
end_if_unbounded classes (Included n) = []
end_if_unbounded classes (Excluded n) = []
end_if_unbounded classes Unbounded = end_symbol classes ∷ []

-- the representatives of a range, ascending, and then the end of the input if the range has no end
abbrev pub representatives_of : List ℕ → Bound ℕ → Bound ℕ → List Symbol
representatives_of classes from to =
    map (λ b. byte b) (representing classes (start_index from) (end_index to 256)) ++ end_if_unbounded classes to
