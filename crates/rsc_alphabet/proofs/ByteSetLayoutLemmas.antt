-- The bits of the two numbers that hold a set of bytes, and what an iterator over its members has left.
use Rattle.std.proofs.Common.{◌≡◌, ◌↔◌, ℕ, zero, suc, ◌+◌, ◌-◌, ◌*◌, ◌/◌, ◌%◌, ◌^◌, ◌<◌, ◌≤◌, Bool, true, false, min, not, ◌&&◌, ◌||◌, cond, nat_eq, nat_le, refl, sym, ap, ap₂, ◌∙◌, arith, ⊎_elim, bit_and, bit_or, mod-eq_of_lt, mod-lt, nat_lt, nat_cmp, List, length, get_or, map, replicate, w8, [], ◌∷◌, ◌++◌, filter, append-nil}
use Rattle.std.specs.Int.{w128, bit_at, bit_not}
use Rattle.std.specs.Int.Count.{ones, ones_in, ones_cat}
use Rattle.std.proofs.lemmas.Bool.{cases_lt, and_parts, eq-eqb, eqb-true}
use Rattle.std.proofs.lemmas.Bool.Decides.{nat_tests}
use Rattle.std.proofs.lemmas.Nat.{and_mask, mod-pow-add, one_shl, pow_pos, shr-shr}
use Rattle.std.proofs.lemmas.Nat.Bits.{bit_at-lt, bit_at-pow_same, bit_at-pow_other, bit_at-zero, bit_at_and, bit_at_or, bit_at_not, bit_at_ones, bit_at_cat_low, bit_at_cat_high, same_from_bits, bit_at_above}
use Rattle.rsc_alphabet.proofs.Prelude.{has_bit, same_digit, class_of, class_of_more, class_of_none, mask_of, Numbers, masked, contains-masked, low_again, high_again, contains-inserted, contains-removed, from_to, from_to_none, filter_none, filter_same, filter_parts, filter_at, members_from, members_left, same_bools, same_from, same_to}
use Rattle.rsc_alphabet.specs.SameMembers.{same_members}
use Rattle.std.specs.Cmp.{nat_cmp_total}
use Rattle.std.specs.Prelude.{if◌then◌else◌}
use Rattle.std.specs.FinSet as sets
use Rattle.std.specs.FinSet.{contains-empty, same_set, nat_cmp-IsAntisymmetric}
pub use Rattle.std.proofs.lemmas.Nat.Bits.{bit_at-zero as bit_at_zero}
use Rattle.std.specs.Simd.Lanes.{chunk, mask_l, top, zip2}
use Rattle.std.proofs.lemmas.List.{get_or-map}
use Rattle.std.proofs.lemmas.Simd.{length-chunk, get_or-chunk, bit_mask_l, bitmask_splat, tops_compared, mask_l-mod, length-zip2, get_or-zip2}

-- ---- shifts

-- the bits of a number that was shifted right
pub bit_at_shr : (n k i : ℕ) → bit_at (n / 2 ^ k) i ≡ bit_at n (k + i)
bit_at_shr n k i = ap (λ x. x % 2) (shr-shr n k i)

bit_at_mod : (n k i : ℕ) → i < k → bit_at (n % 2 ^ k) i ≡ bit_at n i
bit_at_mod n k i l = rw (← and_mask n k) (bit_at_and n (2 ^ k - 1) i ∙ rw (bit_at_ones k i l) (omega (arith, bit_at-lt n i)))

-- the bits of a number that was shifted left: the kept ones, from the lowest on, and below it
kept_shl : (n k w i : ℕ) → i < w → bit_at (n * 2 ^ k % 2 ^ w) i ≡ bit_at (n * 2 ^ k + 0) i
kept_shl n k w i high = bit_at_mod (n * 2 ^ k) w i high ∙ (let more : n * 2 ^ k ≡ n * 2 ^ k + 0 = omega arith in ap (λ x. bit_at x i) more)

-- from the lowest bit that moved there on, those of the number
pub bit_at_shl : (n k w i : ℕ) → k ≤ i → i < w → bit_at (n * 2 ^ k % 2 ^ w) i ≡ bit_at n (i - k)
bit_at_shl n k w i low high = kept_shl n k w i high ∙ bit_at_cat_high n k 0 i (pow_pos k) low

-- below it, zeros
pub bit_at_shl_below : (n k w i : ℕ) → i < k → i < w → bit_at (n * 2 ^ k % 2 ^ w) i ≡ 0
bit_at_shl_below n k w i low high = kept_shl n k w i high ∙ bit_at_cat_low n k 0 i low ∙ bit_at-zero i

-- one bit, shifted left
pub has_bit_one : (k w i : ℕ) → k < w → has_bit (1 * 2 ^ k % 2 ^ w) i ≡ nat_eq i k
has_bit_one k w i l = rw (one_shl k w l) (grind (arith, nat_tests, bit_at-pow_same k, bit_at-pow_other k i))

-- two indices are the same exactly if they are once the same number is added to both
pub eqb_shifted : (i k a b : ℕ) → a + k ≡ b → nat_eq i k ≡ nat_eq (a + i) b
eqb_shifted i k a b is = grind (arith, nat_tests)

-- ---- two numbers

-- the bits of either number, and of both
pub has_bit_either : (a b i : ℕ) → has_bit (bit_or a b) i ≡ (has_bit a i || has_bit b i)
has_bit_either a b i = grind (arith, nat_tests, bit_at_or a b i, bit_at-lt a i, bit_at-lt b i)

-- a bit of both numbers
pub has_bit_both : (a b i : ℕ) → has_bit (bit_and a b) i ≡ (has_bit a i && has_bit b i)
has_bit_both a b i = grind (arith, nat_tests, bit_at_and a b i, bit_at-lt a i, bit_at-lt b i)

-- the bits that a number doesn't have
pub has_bit_not : (n i : ℕ) → n < 2 ^ 128 → i < 128 → has_bit (bit_not w128 n) i ≡ not (has_bit n i)
has_bit_not n i fits l = grind (arith, nat_tests, bit_at_not w128 n i fits l, bit_at-lt n i)

-- the bits of a number that is made of two halves
pub has_bit_halves : (p : ℕ → Bool) (whole lower upper : ℕ) → ((i : ℕ) → i < 64 → has_bit whole i ≡ has_bit lower i)
    → ((i : ℕ) → has_bit whole (64 + i) ≡ has_bit upper i) → ((i : ℕ) → i < 64 → has_bit lower i ≡ p i)
    → ((i : ℕ) → has_bit upper i ≡ p (64 + i)) → (i : ℕ) → has_bit whole i ≡ p i
has_bit_halves p whole lower upper below above low high i =
    ⊎_elim
    (λ (h : i < 64). below i h ∙ low i h)
    (λ (h : 64 ≤ i). let e : 64 + (i - 64) ≡ i = omega arith in rw e at (above (i - 64) ∙ high (i - 64)))
    (cases_lt i 64)

-- no bit of a run is left where all bits of a number that has them are taken out, and only there
pub run_within : (run mask start end : ℕ) → mask < 2 ^ 128 → end < 128 → ((i : ℕ) → has_bit run i ≡ (nat_le start i && nat_le i end))
    → (bit_and run (bit_not w128 mask) ≡ 0) ↔ ((i : ℕ) → start ≤ i → i ≤ end → has_bit mask i ≡ true)
run_within run mask start end fits l run_is = (
  (λ none i low high. let bits = ap (λ n. has_bit n i) none in
      grind (arith, nat_tests, bits, has_bit_both run (bit_not w128 mask) i, run_is i, has_bit_not mask i fits, bit_at-zero i)),
  (λ all. same_from_bits _ 0 (λ i. same_digit _ _ (bit_at-lt _ i) (bit_at-lt 0 i) (has_bit_both run (bit_not w128 mask) i
      ∙ rw (run_is i, bit_at-zero i) (grind (arith, nat_tests, all i, has_bit_not mask i fits))))),
)

-- ---- how many bits are 1

ones_digit : (b : ℕ) → b < 2 → ones b ≡ cond (nat_eq b 1) 1 0
unfolding ones ones_in
ones_digit zero l = refl
ones_digit (suc zero) l = refl
ones_digit (suc (suc b)) l = absurd (omega arith)

-- the bits below an index, as a count of the boundaries below a byte
ones_class_of : (n k : ℕ) → ones (n % 2 ^ k) ≡ class_of (has_bit n) k
ones_class_of n zero = let e : n % 1 ≡ 0 = omega arith in rw e (ones_digit 0 (omega arith)) ∙ sym (class_of_none (has_bit n))
ones_class_of n (suc k) =
    let e : suc k ≡ 1 + k = omega arith in
    let f : suc k ≡ k + 1 = omega arith in
    let split : n % 2 ^ (suc k) ≡ bit_at n k * 2 ^ k + n % 2 ^ k = rw e (mod-pow-add n 1 k) in
    ap ones split ∙ ones_cat k (bit_at n k) (n % 2 ^ k) (mod-lt n (pow_pos k))
    ∙ ap₂ (λ x y. x + y) (ones_digit (bit_at n k) (bit_at-lt n k)) (ones_class_of n k) ∙ swap (cond (has_bit n k) 1 0) (class_of (has_bit n) k)
    ∙ sym (ap (class_of (has_bit n)) f ∙ class_of_more (has_bit n) k)
  where
    swap : (x y : ℕ) → x + y ≡ y + x
    swap x y = omega arith

-- how many bits of a number are 1
pub ones_all : (n : ℕ) → n < 2 ^ 128 → ones n ≡ class_of (has_bit n) 128
ones_all n fits = ap ones (sym (mod-eq_of_lt fits)) ∙ ones_class_of n 128

-- and how many below an index
pub ones_under : (n k : ℕ) → k < 128 → ones (bit_and n (1 * 2 ^ k % 2 ^ 128 - 1)) ≡ class_of (has_bit n) k
ones_under n k l = rw (one_shl k 128 l, and_mask n k) (ones_class_of n k)

-- ---- what the bits of the two numbers that hold a set of bytes say of the set

-- a byte is a member if its bit is 1, of the low number below 128, and of the high one from there on
pub contains_masked : (low high b : ℕ) → high < 2 ^ 128
    → sets.contains (masked low high) b ≡ (if nat_lt b 128 then has_bit low b else (nat_lt b 256 && has_bit high (b - 128)))
contains_masked low high b fits = grind (arith, nat_tests, contains-masked low high fits b, bit_at_above high 128 (b - 128) fits)

-- the set of no bits is empty
pub masked_none : masked 0 0 ≡ sets.empty
masked_none = same_set nat_cmp_total nat_cmp-IsAntisymmetric _ _
    (λ q. grind (arith, nat_tests, contains_masked 0 0 q, bit_at-zero q, bit_at-zero (q - 128), contains-empty nat_cmp q))

-- sets are equal only if their numbers are
masks_same : {low high low2 high2 : ℕ} → (low < 2 ^ 128) × (high < 2 ^ 128) → (low2 < 2 ^ 128) × (high2 < 2 ^ 128)
    → masked low high ≡ masked low2 high2 → (low ≡ low2) × (high ≡ high2)
masks_same {low} {high} {low2} {high2} fits fits2 e = (
  sym (low_again low high fits.0 fits.1) ∙ ap (λ s. mask_of (sets.contains s) 128) e ∙ low_again low2 high2 fits2.0 fits2.1,
  sym (high_again low high fits.1) ∙ ap (λ s. mask_of (λ b. sets.contains s (b + 128)) 128) e ∙ high_again low2 high2 fits2.1,
)

-- sets have the same members exactly if their numbers are the same
pub same_masks : (low high low2 high2 : ℕ) → (low < 2 ^ 128) × (high < 2 ^ 128) → (low2 < 2 ^ 128) × (high2 < 2 ^ 128)
    → same_members (masked low high) (masked low2 high2) ≡ (nat_eq low low2 && nat_eq high high2)
same_masks low high low2 high2 fits fits2 = same_bools _ _
    (λ h. let e = masks_same fits fits2 (same_from nat_cmp_total nat_cmp-IsAntisymmetric _ _ h) in rw (eq-eqb low low2 e.0, eq-eqb high high2 e.1) refl)
    (λ h. let e = and_parts _ _ h in
    same_to nat_cmp_total nat_cmp-IsAntisymmetric _ _ (ap₂ masked (eqb-true low low2 e.0) (eqb-true high high2 e.1)))

-- only zeros hold the empty set
pub no_masks : (low high : ℕ) → (low < 2 ^ 128) × (high < 2 ^ 128) → (masked low high ≡ sets.empty) ↔ ((low ≡ 0) × (high ≡ 0))
no_masks low high fits = (λ e. masks_same fits (omega arith, omega arith) (e ∙ sym masked_none), λ e. ap₂ masked e.0 e.1 ∙ masked_none)

-- a set is another one with a byte, or without it, if its members say so
pub inserted : (s t : Numbers) (k : ℕ) → ((b : ℕ) → sets.contains t b ≡ (nat_eq b k || sets.contains s b)) → t ≡ sets.insert s k
inserted s t k members = same_set nat_cmp_total nat_cmp-IsAntisymmetric _ _ (λ b. members b ∙ sym (contains-inserted s k b))

-- a set without k, where k alone is gone
pub removed : (s t : Numbers) (k : ℕ) → ((b : ℕ) → sets.contains t b ≡ (not (nat_eq b k) && sets.contains s b)) → t ≡ sets.remove s k
removed s t k members = same_set nat_cmp_total nat_cmp-IsAntisymmetric _ _ (λ b. members b ∙ sym (contains-removed s k b))

-- ---- the bits of the masks that comparisons of vectors give, and the counts of bits in a vector

-- a bit of the mask of a list of answers
bit_of_mask : (ms : List Bool) (i : ℕ) → has_bit (mask_l ms) i ≡ get_or ms i false
bit_of_mask ms i = grind (arith, nat_tests, bit_mask_l ms i)

-- the comparison of a load with one byte
pub equal_bits : (xs : List ℕ) (first byte i : ℕ) → first + 64 ≤ length xs → i < 64 →
    has_bit (mask_l (map (top 7) (zip2 (λ a b. cond (nat_eq a b) 255 0) (chunk first 64 xs) (replicate 64 byte))) % 2 ^ 64) i ≡ nat_eq
    (get_or xs (first + i) 0) byte
equal_bits xs first byte i room l =
    let long : length (chunk first 64 xs) ≡ 64 = length-chunk first 64 xs room in
    ap (λ m. has_bit m i) (bitmask_splat w8 nat_eq (chunk first 64 xs) 64 byte long (omega arith))
    ∙ bit_of_mask (map (λ x. nat_eq x byte) (chunk first 64 xs)) i
    ∙ get_or-map (λ x. nat_eq x byte) (chunk first 64 xs) i 0 false (omega (arith, long, l))
    ∙ ap (λ x. nat_eq x byte) (get_or-chunk first 64 xs i 0 l)

-- the comparison of a load with that of the bytes before it
pub unlike_bits : (xs : List ℕ) (first i : ℕ) → 0 < first → first + 64 ≤ length xs → i < 64 →
    has_bit (mask_l (map (top 7) (zip2 (λ a b. cond (not (nat_eq a b)) 255 0) (chunk first 64 xs) (chunk (first - 1) 64 xs))) % 2 ^ 64) i
    ≡ not (nat_eq (get_or xs (first + i) 0) (get_or xs (first + i - 1) 0))
unlike_bits xs first i some room l =
    let t : ℕ → ℕ → Bool = λ a b. not (nat_eq a b) in
    let here : List ℕ = chunk first 64 xs in
    let before : List ℕ = chunk (first - 1) 64 xs in
    let long : length here ≡ 64 = length-chunk first 64 xs room in
    let long_before : length before ≡ 64 = length-chunk (first - 1) 64 xs (omega (arith, room)) in
    let all : length (zip2 t here before) ≡ 64 = length-zip2 t here before (long ∙ sym long_before) ∙ long in
    let e : first - 1 + i ≡ first + i - 1 = omega arith in
    ap (λ ms. has_bit (mask_l ms % 2 ^ 64) i) (tops_compared w8 t here before)
    ∙ ap (λ m. has_bit m i) (mask_l-mod (zip2 t here before) 64 (omega (arith, all)))
    ∙ bit_of_mask (zip2 t here before) i ∙ get_or-zip2 t here before i 0 0 false (omega (arith, long, l)) (omega (arith, long_before, l))
    ∙ (λ k. t (get_or-chunk first 64 xs i 0 l k) ((get_or-chunk (first - 1) 64 xs i 0 l ∙ ap (λ x. get_or xs x 0) e) k))

-- ---- what an iterator over a set's members has left, block by block

-- a block of which nothing was taken
pub whole_block : (s : Numbers) (number block : ℕ) → number < 4 → ((i : ℕ) → i < 64 → has_bit block i ≡ sets.contains s (64 * number + i))
    → members_left s number (64 * number) block ≡ members_from s (64 * number)
whole_block s number block l same =
    ap (λ x. x ++ members_from s (64 * number + 64)) (filter_same (λ b. has_bit block (b - 64 * number)) (λ b. sets.contains s b) (64 * number)
    (64 * number + 64) (λ k low high.
    let e : 64 * number + (k - 64 * number) ≡ k = omega arith in same (k - 64 * number) (omega arith) ∙ ap (sets.contains s) e))
    ∙ sym (filter_parts (λ b. sets.contains s b) (64 * number) (64 * number + 64) 256 (omega arith) (omega arith))

-- its bits are those of bytes
pub whole_block_fits : (number block : ℕ) → number < 4 → block < 2 ^ 64 → (i : ℕ) → bit_at block i ≡ 1 → 64 * number + i < 256
whole_block_fits number block l fits i is = grind (arith, bit_at_above block 64 i fits)

-- a block with nothing left
pub no_block : (s : Numbers) (number byte : ℕ) → members_left s number byte 0 ≡ members_from s (64 * number + 64)
no_block s number byte =
    ap (λ x. x ++ members_from s (64 * number + 64)) (filter_none (λ b. has_bit 0 (b - byte)) byte (byte + 64)
    (λ k low high. rw (bit_at-zero (k - byte)) refl))

-- in the fourth block nothing is left
pub none_left : (s : Numbers) (number byte : ℕ) → number ≡ 3 → members_left s number byte 0 ≡ []
none_left s number byte is = no_block s number byte ∙ let e : 64 * number + 64 ≡ 256 = omega (arith, is) in rw (e, from_to_none 256 256 (omega arith)) refl

-- from a block with nothing left to the next one
pub next_block : (s : Numbers) (number byte block : ℕ) → number + 1 < 4
    → ((i : ℕ) → i < 64 → has_bit block i ≡ sets.contains s (64 * (number + 1) + i))
    → members_left s (number + 1) (64 * (number + 1)) block ≡ members_left s number byte 0
next_block s number byte block l same =
    let e : 64 * (number + 1) ≡ 64 * number + 64 = omega arith in
    whole_block s (number + 1) block l same ∙ ap (members_from s) e ∙ sym (no_block s number byte)

-- the bits above the lowest one that is 1, shifted right
pub lowest_left : (s : Numbers) (number byte block rest k : ℕ) → block < 2 ^ 64 → k < 64 → bit_at block k ≡ 1
    → ((i : ℕ) → i < k → bit_at block i ≡ 0)
    → ((i : ℕ) → bit_at rest i ≡ bit_at block (k + (1 + i))) →
    members_left s number byte block ≡ (byte + k) ∷ members_left s number (byte + k + 1) rest
lowest_left s number byte block rest k fits l here below moved =
    ap (λ x. x ++ members_from s (64 * number + 64)) (filter_at before_moved byte (byte + k) (byte + 64) (omega arith) (omega arith) none at_k
    ∙ ap (λ x. (byte + k) ∷ x) (filter_same before_moved after_moved (byte + k + 1) (byte + 64) same
    ∙ sym (filter_parts after_moved (byte + k + 1) (byte + 64) (byte + k + 1 + 64) (omega arith) (omega arith)
    ∙ ap (λ x. filter after_moved (from_to (byte + k + 1) (byte + 64)) ++ x) (filter_none after_moved (byte + 64) (byte + k + 1 + 64) past)
    ∙ append-nil _)))
  where
    before_moved : ℕ → Bool
    before_moved b = has_bit block (b - byte)

    after_moved : ℕ → Bool
    after_moved b = has_bit rest (b - (byte + k + 1))

    none : (i : ℕ) → byte ≤ i → i < byte + k → has_bit block (i - byte) ≡ false
    none i p q = rw (below (i - byte) (omega arith)) refl

    at_k : has_bit block (byte + k - byte) ≡ true
    at_k = let e : byte + k - byte ≡ k = omega arith in rw (e, here) refl

    same : (i : ℕ) → byte + k + 1 ≤ i → i < byte + 64 → has_bit block (i - byte) ≡ has_bit rest (i - (byte + k + 1))
    same i p q =
        let e : k + (1 + (i - (byte + k + 1))) ≡ i - byte = omega arith in
        ap (λ x. nat_eq x 1) (sym (moved (i - (byte + k + 1)) ∙ ap (bit_at block) e))

    past : (i : ℕ) → byte + 64 ≤ i → i < byte + k + 1 + 64 → has_bit rest (i - (byte + k + 1)) ≡ false
    past i p q = ap (λ x. nat_eq x 1) (moved (i - (byte + k + 1)) ∙ bit_at_above block 64 (k + (1 + (i - (byte + k + 1)))) fits (omega arith))

-- the same where the lowest bit is 1
pub first_left : (s : Numbers) (number byte block rest : ℕ) → block < 2 ^ 64 → bit_and block 1 ≡ 1
    → ((i : ℕ) → bit_at rest i ≡ bit_at block (1 + i)) →
    members_left s number byte block ≡ byte ∷ members_left s number (byte + 1) rest
first_left s number byte block rest fits here moved =
    let e : byte + 0 ≡ byte = omega arith in
    let first : min (bit_at block 0) 1 ≡ 1 = sym (bit_at_and block 1 0) ∙ ap (λ x. bit_at x 0) here in
    rw e at (lowest_left s number byte block rest 0 fits (omega arith) (omega (arith, first)) (λ i l. absurd (omega arith))
    (λ i. let f : 1 + i ≡ 0 + (1 + i) = omega arith in moved i ∙ ap (bit_at block) f))
