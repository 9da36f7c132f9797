-- How the code holds a set of bytes, as two numbers of 128 bits, and how far an iterator over it has come.
use Rattle.std.specs.Prelude.{ℕ, ◌+◌, ◌-◌, ◌*◌, Bool, nat_lt, List, ◌++◌, filter, if◌then◌else◌}
use Rattle.std.specs.FinSet as sets
use Rattle.rsc_primitives.specs.Bits.{has_bit}
use Rattle.rsc_alphabet.specs.Bytes.{from_to, bytes}
use Rattle.rsc_alphabet.specs.ByteSets.{Numbers}

-- bit b of the low number stands for the byte b, and bit b of the high one for the byte b + 128
abbrev pub is_masked : ℕ → ℕ → ℕ → Bool
is_masked low high b = if nat_lt b 128 then has_bit low b else has_bit high (b - 128)

-- the bytes whose bit is 1
abbrev pub masked : ℕ → ℕ → Numbers
masked low high = sets.from_list (filter (is_masked low high) bytes)

-- the members from `low` on
abbrev pub members_from : Numbers → ℕ → List ℕ
members_from s low = filter (λ b. sets.contains s b) (from_to low 256)

-- of the 64 numbers from `byte` on those whose bit of `block` is 1, and the members above the block
abbrev pub members_left : Numbers → ℕ → ℕ → ℕ → List ℕ
members_left s number byte block = filter (λ b. has_bit block (b - byte)) (from_to byte (byte + 64)) ++ members_from s (64 * number + 64)
