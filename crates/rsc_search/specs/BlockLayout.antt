-- `u64` as lists of bits, and lists of them.
use Rattle.std.specs.Prelude.{◌≡◌, ◌<◌, ◌≤◌, ◌==◌, ◌&&◌, not, ◌+◌, ◌-◌, ◌*◌, ◌/◌, ◌%◌, ◌^◌, ℕ, Bool, false, List, length, filter, slice_index_or}
use Rattle.std.specs.Int.{leading_zeros, trailing_zeros, w64}
use Rattle.std.specs.List.{range_with_len}
use Rattle.rsc_primitives.specs.Bits.{has_bit}

-- the block of that number, or zero past the end
abbrev pub block_of : List ℕ → ℕ → ℕ
block_of blocks index = slice_index_or blocks index 0

-- bit p % 64 of block p / 64 is set
abbrev pub is_set : List ℕ → ℕ → Bool
is_set blocks p = has_bit (block_of blocks (p / 64)) (p % 64)

-- the numbers from a on and below b whose bits are set, ascending
abbrev pub set_between : List ℕ → ℕ → ℕ → List ℕ
set_between blocks a b = filter (is_set blocks) (range_with_len a (b - a))

-- as many blocks, with the same bits set
pub record SameBits (blocks others : List ℕ) : Type 0 where
  pub as_many : length blocks ≡ length others
  pub bits_are : (p : ℕ) → is_set blocks p ≡ is_set others p

-- where the rest of a block begins: at its lowest set bit, or with the next block
abbrev pub rest_start : ℕ → ℕ → ℕ
rest_start index rest = 64 * index + trailing_zeros w64 rest

-- the bit of the highest set bit of a block that isn't zero
abbrev pub highest_bit : ℕ → ℕ
highest_bit block = 63 - leading_zeros w64 block

-- how many bits a block has up to its highest set one
abbrev pub bit_length : ℕ → ℕ
bit_length block = 64 - leading_zeros w64 block

-- where the rest of a block ends: after its highest set bit, or with the block before
abbrev pub rest_end : ℕ → ℕ → ℕ
rest_end index rest = 64 * index + bit_length rest

-- the rest has the bits of the block but one
pub record IsWithout (block bit rest : ℕ) : Type 0 where
  pub bits_are : (i : ℕ) → has_bit rest i ≡ (not (i == bit) && has_bit block i)

-- from its lowest set bit on the rest is the block of that number
pub record IsRestFrom (blocks : List ℕ) (index rest : ℕ) : Type 0 where
  pub bits_are : (i : ℕ) → trailing_zeros w64 rest ≤ i → i < 64 → has_bit rest i ≡ has_bit (block_of blocks index) i

-- up to its highest set bit the rest is the block of that number
pub record IsRestTo (blocks : List ℕ) (index rest : ℕ) : Type 0 where
  pub bits_are : (i : ℕ) → i < bit_length rest → has_bit rest i ≡ has_bit (block_of blocks index) i

-- the first rest that isn't zero, from a rest on; where each is zero, so is it
pub record IsBlockFrom (blocks : List ℕ) (index rest found block : ℕ) : Type 0 where
  pub fits : block < 2 ^ 64
  pub is_rest : IsRestFrom blocks found block
  pub order : rest_start index rest ≤ rest_start found block
  pub clear : (q : ℕ) → rest_start index rest ≤ q → q < rest_start found block → is_set blocks q ≡ false
  pub none : block ≡ 0 → (q : ℕ) → rest_start index rest ≤ q → is_set blocks q ≡ false

-- the last rest that isn't zero, up to a rest; where each is zero, so is it
pub record IsBlockTo (blocks : List ℕ) (index rest found block : ℕ) : Type 0 where
  pub fits : block < 2 ^ 64
  pub is_rest : IsRestTo blocks found block
  pub order : rest_end found block ≤ rest_end index rest
  pub clear : (q : ℕ) → rest_end found block ≤ q → q < rest_end index rest → is_set blocks q ≡ false
  pub none : block ≡ 0 → (q : ℕ) → q < rest_end index rest → is_set blocks q ≡ false
