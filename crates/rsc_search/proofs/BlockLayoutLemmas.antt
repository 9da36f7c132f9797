-- The bits of a block and of a list of blocks: the lowest, the highest, and what is left without either.
use Rattle.std.proofs.lemmas.Bool.Decides.{nat_tests}
use Rattle.std.proofs.Common.{◌≡◌, ◌≢◌, ℕ, zero, suc, ◌+◌, ◌-◌, ◌*◌, ◌/◌, ◌%◌, ◌^◌, ◌<◌, ◌≤◌, inl, inr, true, false, ◌||◌, refl, ap, sym, ◌∙◌, arith, w64, bit_and, eqb, bit_or, pow-suc, ◌↔◌, Bool, List, get_or, bytes_eq, ext_get_or}
use Rattle.std.specs.Int.{bit_at, leading_zeros, trailing_zeros, div_ceil}
use Rattle.std.specs.Int.Bits.{bit_xor, xor_add_and}
use Rattle.std.specs.Int.Count.{leading_of_zero, trailing_of_zero}
use Rattle.std.proofs.lemmas.Bool.{true≢false, cases_eq, cases_lt, eq-eqb, ne_eqb}
use Rattle.std.proofs.lemmas.Nat.Bits.{bit_at_above, bit_at_lowest, bit_at-suc, bit_at-zero, bit_at_and, bit_at_xor, bit_at-pow_same, bit_at-pow_other, bit_at-trailing_zeros, bit_at_set_same, bit_at_set_other, bit_at-lt, same_from_bits_below}
use Rattle.std.proofs.lemmas.Nat.{and_mask, div_below, le-div, leading_length, leading_top, one_shl, pow_pos, or_lt, trailing_le}
use Rattle.rsc_primitives.specs.BitsLaws.{same_digit}
use Rattle.rsc_primitives.specs.Bits.{has_bit}
use Rattle.rsc_search.specs.BlockLayout.{bit_length, highest_bit, IsWithout, block_of, is_set, SameBits, rest_start, rest_end, IsRestFrom, IsRestTo}
use Rattle.std.proofs.lemmas.Slice.Eq.{bytes_eq-Decides}

-- ---- the bits of a block: its lowest and its highest set bit, and the block without either

half_of_even : (n : ℕ) → n % 2 ≡ 0 → (n - 1) / 2 ≡ n / 2 - 1
half_of_even n even = omega (arith, even)

-- one less has no bit at the lowest set one, and the same above it
pred_lowest : (j n : ℕ) → 0 < n → bit_at n j ≡ 1 → ((i : ℕ) → i < j → bit_at n i ≡ 0) → bit_at (n - 1) j ≡ 0
pred_lowest zero n some one none =
    let odd : n % 2 ≡ 1 = sym (bit_at_lowest n) ∙ one in
    let even : (n - 1) % 2 ≡ 0 = omega (arith, odd) in
    bit_at_lowest (n - 1) ∙ even
pred_lowest (suc j) n some one none =
    let even : n % 2 ≡ 0 = sym (bit_at_lowest n) ∙ none 0 (omega arith) in
    let some_half : 0 < n / 2 = omega (arith, even) in
    bit_at-suc (n - 1) j ∙ rw (half_of_even n even) (pred_lowest j (n / 2) some_half (sym (bit_at-suc n j) ∙ one)
    (λ i lt. sym (bit_at-suc n i) ∙ none (suc i) (omega arith)))

pred_odd : (j n : ℕ) → n % 2 ≡ 1 → bit_at (n - 1) (suc j) ≡ bit_at n (suc j)
pred_odd j n odd =
    let half : (n - 1) / 2 ≡ n / 2 = omega (arith, odd) in
    bit_at-suc (n - 1) j ∙ ap (λ m. bit_at m j) half ∙ sym (bit_at-suc n j)

pred_above : (i j n : ℕ) → i < j → bit_at n i ≡ 1 → bit_at (n - 1) j ≡ bit_at n j
pred_above i zero n lt one = absurd (omega arith)
pred_above zero (suc j) n lt one = pred_odd j n (sym (bit_at_lowest n) ∙ one)
pred_above (suc i) (suc j) n lt one =
    elim (cases_lt (n % 2) 1) [
      | inl even ↦
          bit_at-suc (n - 1) j ∙ rw (half_of_even n (omega (arith, even))) (pred_above i j (n / 2) (omega arith) (sym (bit_at-suc n i) ∙ one))
          ∙ sym (bit_at-suc n j)
      | inr odd ↦ pred_odd j n (omega (arith, odd))
    ]

-- `n & (n - 1)` has the bits of n but the lowest
pub lowest_taken : (n : ℕ) → 0 < n → n < 2 ^ 64 → IsWithout n (trailing_zeros w64 n) (bit_and n (n - 1))
lowest_taken n some fits =
    let k = trailing_zeros w64 n in
    let found = bit_at-trailing_zeros w64 n some fits in
    let gone = pred_lowest k n some found.1 found.2 in
    record { bits_are = λ j. grind (arith, nat_tests, bit_at_and n (n - 1) j, bit_at-lt n j, gone, found.1, found.2 j, pred_above k j n) }

-- `n ^ (1 << k)` has the bits of n but k, which n has
pub bit_taken : (n k : ℕ) → k < 64 → has_bit n k ≡ true → IsWithout n k (bit_xor n (1 * 2 ^ k % 2 ^ 64))
bit_taken n k within is = rw (one_shl k 64 within) (record {
  bits_are = λ j. grind (arith, nat_tests, bit_at_xor n (2 ^ k) j, bit_at-lt n j, bit_at-pow_same k, bit_at-pow_other k j, is);
})

-- `n | 1 << k`
pub bit_set : (n k : ℕ) → k < 64 → (j : ℕ) → has_bit (bit_or n (1 * 2 ^ k % 2 ^ 64)) j ≡ (eqb j k || has_bit n j)
bit_set n k within j = grind (arith, nat_tests, bit_at_set_same w64 n k within, bit_at_set_other w64 n k within j)

-- numbers of 64 bits are the same if the same bits are set
pub same_from_set : (m n : ℕ) → m < 2 ^ 64 → n < 2 ^ 64 → ((i : ℕ) → i < 64 → has_bit m i ≡ has_bit n i) → m ≡ n
same_from_set m n m_fits n_fits alike =
    same_from_bits_below 64 m n m_fits n_fits (λ i below. same_digit _ _ (bit_at-lt m i) (bit_at-lt n i) (alike i below))

-- a block with one more bit is the same block exactly if it had the bit
pub bit_stays : (n k : ℕ) → n < 2 ^ 64 → k < 64 → has_bit n k ≡ true → bit_or n (1 * 2 ^ k % 2 ^ 64) ≡ n
bit_stays n k fits within one =
    same_from_set (bit_or n (1 * 2 ^ k % 2 ^ 64)) n (or_lt 64 n (1 * 2 ^ k % 2 ^ 64) fits (omega arith)) fits
    (λ j below. bit_set n k within j ∙ elim (cases_eq j k) [ inl e ↦ rw (e, eq-eqb k k refl) (sym one) | inr ne ↦ rw (ne_eqb j k ne) refl ])

-- ---- the lowest set bit, and the highest
-- no bit is set below the lowest set one, and none of zero
pub none_under : (n i : ℕ) → n < 2 ^ 64 → i < trailing_zeros w64 n → has_bit n i ≡ false
none_under zero i fits lt = rw (bit_at-zero i) refl
none_under (suc n) i fits lt = rw ((bit_at-trailing_zeros w64 (suc n) (omega arith) fits).2 i lt) refl

-- and the lowest set one is set, where there is one
pub lowest_set : (n : ℕ) → n < 2 ^ 64 → trailing_zeros w64 n < 64 → has_bit n (trailing_zeros w64 n) ≡ true
lowest_set zero fits lt = let all : trailing_zeros w64 0 ≡ 64 = trailing_of_zero 64 in absurd (omega (arith, all, lt))
lowest_set (suc n) fits lt = rw (bit_at-trailing_zeros w64 (suc n) (omega arith) fits).1 refl

-- no bit is set from the length on
pub none_above : (n i : ℕ) → n < 2 ^ 64 → bit_length n ≤ i → has_bit n i ≡ false
none_above n i fits le =
    let found = leading_length 64 n fits in
    rw (bit_at_above n found.0 i found.2 (omega (arith, found.1, le))) refl

-- the length of a block that isn't zero ends at its highest set bit
pub length_some : (n : ℕ) → 0 < n → n < 2 ^ 64 → bit_length n ≡ highest_bit n + 1
length_some n some fits = let found = leading_top 64 n some fits in omega (arith, found.1)

-- the highest bit has a set bit
pub highest_set : (n : ℕ) → n < 2 ^ 64 → 0 < bit_length n → has_bit n (highest_bit n) ≡ true
highest_set zero fits some = let none : leading_zeros w64 0 ≡ 64 = leading_of_zero 64 in absurd (omega (arith, none, some))
highest_set (suc n) fits some =
    let found = leading_top 64 (suc n) (omega arith) fits in
    let bit : highest_bit (suc n) ≡ found.0 = omega (arith, found.1) in
    let double : 2 ^ suc found.0 ≡ 2 ^ found.0 * 2 = pow-suc 2 found.0 in
    let below : suc n / 2 ^ found.0 < 2 = div_below (suc n) (2 ^ found.0) 2 (pow_pos found.0) (omega (arith, found.3, double)) in
    let above : 1 ≤ suc n / 2 ^ found.0 = le-div 1 (suc n) (2 ^ found.0) (pow_pos found.0) (omega (arith, found.2)) in
    let one : suc n / 2 ^ found.0 ≡ 1 = omega (arith, below, above) in
    rw (bit, one) refl

-- the bit of the highest set bit, as `^` computes it
pub bit_by_xor : (zeros : ℕ) → zeros < 64 → bit_xor zeros 63 ≡ 63 - zeros
bit_by_xor zeros within =
    let sum : bit_xor zeros 63 + bit_and zeros 63 * 2 ≡ zeros + 63 = xor_add_and zeros 63 in
    let low : bit_and zeros 63 ≡ zeros % 64 = and_mask zeros 6 in
    omega (arith, sum, low, within)

-- ---- a block and the rest of it, which isn't set at one bit
module _ {block bit rest : ℕ} (without : IsWithout block bit rest) where
  -- the other bits stay
  pub kept : (i : ℕ) → (i ≡ bit → ⊥) → has_bit rest i ≡ has_bit block i
  kept i other = without.bits_are i ∙ rw (ne_eqb i bit other) refl

  pub gone : has_bit rest bit ≡ false
  gone = without.bits_are bit ∙ rw (eq-eqb bit bit refl) refl

  -- a bit of the rest is one of the block, at another bit
  pub of_rest : (i : ℕ) → has_bit rest i ≡ true → (has_bit block i ≡ true) × (i ≡ bit → ⊥)
  of_rest i is =
      let other : i ≡ bit → ⊥ = λ here. true≢false (sym is ∙ ap (has_bit rest) here ∙ gone) in
      (sym (kept i other) ∙ is, other)

-- without its lowest set bit a block begins later, and without its highest it ends earlier
pub begins_later : {block rest : ℕ} → block < 2 ^ 64 → rest < 2 ^ 64 → trailing_zeros w64 block < 64 → IsWithout block (trailing_zeros w64 block) rest
    → trailing_zeros w64 block < trailing_zeros w64 rest
begins_later {block} {rest} fits rest_fits some without = elim (cases_lt (trailing_zeros w64 block) (trailing_zeros w64 rest)) [
  | inl later ↦ later
  | inr early ↦
      let set = of_rest without (trailing_zeros w64 rest) (lowest_set rest rest_fits (omega (arith, early, some))) in
      let before : trailing_zeros w64 rest ≢ trailing_zeros w64 block = set.1 in
      absurd (true≢false (sym set.0 ∙ none_under block (trailing_zeros w64 rest) fits (omega (arith, early, before))))
]

-- without its highest bit a block ends earlier
pub ends_earlier : {block rest : ℕ} → block < 2 ^ 64 → rest < 2 ^ 64 → 0 < block → IsWithout block (highest_bit block) rest
    → bit_length rest ≤ highest_bit block
ends_earlier {block} {rest} fits rest_fits some without = elim (cases_lt (highest_bit block) (bit_length rest)) [
  | inl late ↦
      let set = of_rest without (highest_bit rest) (highest_set rest rest_fits (omega (arith, late))) in
      let other : highest_bit rest ≢ highest_bit block = set.1 in
      absurd (true≢false (sym set.0 ∙ none_above block (highest_bit rest) fits (omega (arith, late, other, length_some block some fits))))
  | inr early ↦ early
]

-- ---- blocks in a list: what is left of one, and the next that isn't zero, from either end

-- a number's bit, by its block
pub at_block : (blocks : List ℕ) (w i : ℕ) → i < 64 → is_set blocks (64 * w + i) ≡ has_bit (block_of blocks w) i
at_block blocks w i lt =
    let quotient : (64 * w + i) / 64 ≡ w = omega arith in
    let rest : (64 * w + i) % 64 ≡ i = omega arith in
    rw (quotient, rest) refl

-- a number's bit is in its block
pub at_number : (blocks : List ℕ) (w q : ℕ) → 64 * w ≤ q → q < 64 * w + 64 → is_set blocks q ≡ has_bit (block_of blocks w) (q - 64 * w)
at_number blocks w q from below =
    let whole : 64 * w + (q - 64 * w) ≡ q = omega arith in
    ap (is_set blocks) (sym whole) ∙ at_block blocks w (q - 64 * w) (omega arith)

-- ---- a whole block, from either end
-- from the front
pub whole_from : (blocks : List ℕ) (w block : ℕ) → block ≡ block_of blocks w → IsRestFrom blocks w block
whole_from blocks w block is = record { bits_are = λ i from below. rw is refl }

-- from the back
pub whole_to : (blocks : List ℕ) (w block : ℕ) → block ≡ block_of blocks w → IsRestTo blocks w block
whole_to blocks w block is = record { bits_are = λ i below. rw is refl }

-- below the lowest set bit of a whole block no number of it is set, nor above its highest
module _ (blocks : List ℕ) (w block : ℕ) (fits : block < 2 ^ 64) (is : block ≡ block_of blocks w) where
  pub clear_before : (q : ℕ) → 64 * w ≤ q → q < rest_start w block → is_set blocks q ≡ false
  clear_before q from below =
      at_number blocks w q from (omega (arith, below, trailing_le 64 block)) ∙ rw (← is) (none_under block (q - 64 * w) fits (omega arith))

  -- from its end on none is set
  pub clear_after : (q : ℕ) → rest_end w block ≤ q → q < 64 * w + 64 → is_set blocks q ≡ false
  clear_after q from below = at_number blocks w q (omega arith) below ∙ rw (← is) (none_above block (q - 64 * w) fits (omega arith))

pub of_zero : trailing_zeros w64 0 ≡ 64
of_zero = trailing_of_zero 64

pub length_of_zero : bit_length 0 ≡ 0
length_of_zero = let all : leading_zeros w64 0 ≡ 64 = leading_of_zero 64 in omega arith

-- ---- from a block of which nothing is left to the next, from either end
module _ (blocks : List ℕ) (index rest found next : ℕ) (fits : next < 2 ^ 64) where
  -- from the front, the next block begins later
  pub order_from : rest_start index rest ≤ rest_start found 0 → rest_start index rest ≤ rest_start (found + 1) next
  order_from order = let all : trailing_zeros w64 0 ≡ 64 = of_zero in omega arith

  -- up to it no number is set
  pub clear_from : next ≡ block_of blocks (found + 1) → ((q : ℕ) → rest_start index rest ≤ q → q < rest_start found 0 → is_set blocks q ≡ false)
      → (q : ℕ) → rest_start index rest ≤ q → q < rest_start (found + 1) next → is_set blocks q ≡ false
  clear_from is clear q from below = elim (cases_lt q (rest_start found 0)) [
    | inl before ↦ clear q from before
    | inr past ↦ let all : trailing_zeros w64 0 ≡ 64 = of_zero in clear_before blocks (found + 1) next fits is q (omega (arith, all, past)) below
  ]

  -- from the back, the next block ends earlier
  pub order_to : 0 < found → rest_end found 0 ≤ rest_end index rest → rest_end (found - 1) next ≤ rest_end index rest
  order_to some order = let none : bit_length 0 ≡ 0 = length_of_zero in omega arith

  -- down to it no number is set
  pub clear_to : 0 < found → next ≡ block_of blocks (found - 1)
      → ((q : ℕ) → rest_end found 0 ≤ q → q < rest_end index rest → is_set blocks q ≡ false) → (q : ℕ)
      → rest_end (found - 1) next ≤ q → q < rest_end index rest → is_set blocks q ≡ false
  clear_to some is clear q from below = elim (cases_lt q (rest_end found 0)) [
    | inl before ↦ let none : bit_length 0 ≡ 0 = length_of_zero in clear_after blocks (found - 1) next fits is q from (omega (arith, none, before))
    | inr past ↦ clear q past below
  ]

-- the numbers below the capacity are those of the blocks up to the last
pub covers : (capacity n : ℕ) → n ≡ div_ceil capacity 64 → capacity ≤ 64 * (n - 1) + 64
covers capacity n is = omega (arith, is)

-- ---- lists of as many blocks with the same bits are the same
same_blocks : (xs ys : List ℕ) → ((i : ℕ) → get_or xs i 0 < 2 ^ 64) → ((i : ℕ) → get_or ys i 0 < 2 ^ 64) → SameBits xs ys → xs ≡ ys
same_blocks xs ys xs_fit ys_fit bits =
    ext_get_or 0 xs ys bits.as_many
    (λ w lt. same_from_set (get_or xs w 0) (get_or ys w 0) (xs_fit w) (ys_fit w)
    (λ i below. sym (at_block xs w i below) ∙ bits.bits_are (64 * w + i) ∙ at_block ys w i below))

same_bits : (xs ys : List ℕ) → xs ≡ ys → SameBits xs ys
same_bits xs ys e = rw e (record { as_many = refl; bits_are = λ p. refl })

-- a comparison of the lists' bytes decides whether they have the same bits
pub decides_bits : (xs ys : List ℕ) (b : Bool) → ((i : ℕ) → get_or xs i 0 < 2 ^ 64) → ((i : ℕ) → get_or ys i 0 < 2 ^ 64) → b ≡ bytes_eq xs ys
    → (b ≡ true) ↔ SameBits xs ys
decides_bits xs ys b xs_fit ys_fit is =
    (λ e. same_bits xs ys ((bytes_eq-Decides xs ys).0 (sym is ∙ e)), λ bits. is ∙ (bytes_eq-Decides xs ys).1 (same_blocks xs ys xs_fit ys_fit bits))
