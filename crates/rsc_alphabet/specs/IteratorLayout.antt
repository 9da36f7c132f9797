-- How far an iterator over a map from byte to class has come.
use Rattle.std.specs.Prelude.{ℕ, ◌+◌, if◌then◌else◌, nat_le, Bool, List, [], ◌∷◌, ◌++◌, map, slice_index}
use Rattle.rsc_alphabet.specs.Bytes.{from_to}
use Rattle.rsc_alphabet.specs.Symbols.{Symbol, byte, end_of_input}
use Rattle.rsc_alphabet.specs.Iterators.{end_symbol}

-- what an iterator over the classes has left at the class `next`
abbrev pub symbols_left : List ℕ → ℕ → List Symbol
symbols_left classes next =
    map (λ c. byte c) (from_to next (slice_index classes 255 + 1)) ++ (if nat_le next (slice_index classes 255 + 1) then end_symbol classes ∷ [] else [])

-- what an iterator over the elements of a class has left, where `bytes` are left
abbrev pub elements_left : List ℕ → Bool → List Symbol
elements_left bytes with_end = map (λ b. byte b) bytes ++ (if with_end then end_of_input 256 ∷ [] else [])

-- what an iterator over the representatives has left, where `bytes` are left
abbrev pub representatives_left : List ℕ → List ℕ → Bool → List Symbol
representatives_left classes bytes with_end = map (λ b. byte b) bytes ++ (if with_end then end_symbol classes ∷ [] else [])
