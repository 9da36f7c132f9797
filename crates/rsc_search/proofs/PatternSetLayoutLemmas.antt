-- The members of a set by its blocks, and what the iterator over them has left.
use Rattle.std.proofs.Common.{◌≡◌, ◌≢◌, ℕ, replicate, ◌+◌, ◌/◌, ◌%◌, inl, inr, get_or, ◌<◌, ◌≤◌, ◌↔◌, Bool, true, false, ◌||◌, List, [], ◌++◌, length, take, drop, set, refl, sym, ap, ◌∙◌, arith, eqb, get_or-set_other, get_or-set_same, All, bytes_eq, ◌-◌, ◌*◌, ◌^◌, ◌∷◌, w64, length-append}
use Rattle.std.proofs.Math.Seq.{take-append_seam}
use Rattle.std.proofs.lemmas.List.{get_or_default, length-replicate, length-set}
use Rattle.std.proofs.lemmas.List.Elements.{All-filter}
use Rattle.std.proofs.lemmas.List.FromFn.{length-range_with_len, get_or-range_with_len}
use Rattle.std.proofs.lemmas.List.Kept.{IsStrictlyIncreasing-filter}
use Rattle.std.specs.List.{range_with_len, filter}
use Rattle.std.specs.List.Sorted.{IsStrictlyIncreasing}
use Rattle.std.proofs.lemmas.Bool.Decides.{nat_tests}
use Rattle.std.proofs.lemmas.Grind.{common_steps}
use Rattle.std.proofs.lemmas.Bool.{and_parts, cases_Bool, cases_eq, cases_lt, eq-eqb, ne_eqb}
use Rattle.std.proofs.lemmas.Nat.Bits.{bit_at-zero, bit_at-trailing_zeros}
use Rattle.std.proofs.lemmas.Slice.Eq.{bytes_eq-Decides}
use Rattle.std.specs.Cmp.{both_ways}
use mathlib.Core.Bool.{true≢false}
use Rattle.rsc_search.specs.PatternSetsLaws.{same_patterns_equiv}
use Rattle.rsc_search.specs.PatternSets.{PatternSetParts, IsPatternSet, has_member, numbers_below, with_member, same_patterns}
use Rattle.std.specs.Int.{div_ceil, trailing_zeros}
use Rattle.rsc_primitives.specs.Indices.{max_index}
use Rattle.rsc_search.specs.PatternSetLayout.{patterns_held, IsPacked, left_between, IsBetween}
use Rattle.rsc_primitives.specs.Bits.{has_bit}
use Rattle.rsc_search.specs.BlockLayout.{block_of, is_set, SameBits, bit_length, highest_bit, set_between, rest_start, rest_end, IsWithout, IsBlockFrom, IsBlockTo}
use Rattle.rsc_primitives.specs.RangesLaws.{range_filter_none, range_filter_same}
use Rattle.rsc_search.proofs.PatternSetsLemmas.{member_is, member_in, length_one_more, length_filter_le, skip_front, skip_back, first_passes, last_passes}
use Rattle.std.proofs.lemmas.Nat.{trailing_le}
use Rattle.rsc_search.proofs.BlockLayoutLemmas.{none_under, none_above, lowest_set, highest_set, length_some, kept, begins_later, ends_earlier, at_block, at_number, clear_before, clear_after, covers, whole_from, whole_to}

-- ---- the members of a set, by its blocks

-- a block of the list replaced by the same with one more bit
pub changed_bit : (blocks : List ℕ) (p block : ℕ) → p / 64 < length blocks
    → ((j : ℕ) → has_bit block j ≡ (eqb j (p % 64) || has_bit (block_of blocks (p / 64)) j))
    → (q : ℕ) → is_set (set blocks (p / 64) block) q ≡ (eqb q p || is_set blocks q)
changed_bit blocks p block lt bits q = elim (cases_eq (q / 64) (p / 64)) [
  | inl here ↦
      let whole : eqb (q % 64) (p % 64) ≡ eqb q p = grind (arith, nat_tests) in
      rw (here, get_or-set_same {A = ℕ}) (bits (q % 64) ∙ rw whole refl)
  | inr there ↦ rw (ne_eqb q p (λ e. there (ap (λ n. n / 64) e)), get_or-set_other {A = ℕ}) refl
]

-- no bit of zeros is set
none_of_zeros : (n p : ℕ) → is_set (replicate n 0) p ≡ false
none_of_zeros n p =
    let zero : block_of (replicate n 0) (p / 64) ≡ 0 = grind (arith, common_steps) in rw (zero, bit_at-zero (p % 64)) refl

-- blocks of zeros have no member
pub no_members : (capacity n : ℕ) → numbers_below capacity (is_set (replicate n 0)) ≡ []
no_members capacity n = range_filter_none (is_set (replicate n 0)) 0 capacity (λ q from below. none_of_zeros n q)

-- and they hold the set without members
pub zeros_packed : (capacity n : ℕ) → capacity ≤ max_index + 1 → n ≡ div_ceil capacity 64 → IsPacked capacity (replicate n 0) 0
zeros_packed capacity n fits n_is = record {
  fits = fits;
  length_is = length-replicate n 0 ∙ n_is;
  spare_clear = λ p from. none_of_zeros n p;
  count_is = sym (ap length (no_members capacity n));
}

-- blocks that were lent and came back as zeros
pub all_zeros : (blocks lent : List ℕ) (n : ℕ) → n ≡ length blocks → lent ≡ replicate (length blocks) 0
    → take n (lent ++ drop (length lent) blocks) ≡ replicate (length blocks) 0
all_zeros blocks lent n n_is zeros =
    let whole : n ≡ length lent = n_is ∙ sym (ap length zeros ∙ length-replicate (length blocks) 0) in
    rw whole (take-append_seam lent (drop (length lent) blocks)) ∙ zeros

-- there are at most as many members as the capacity
pub members_within : (capacity : ℕ) (blocks : List ℕ) → length (numbers_below capacity (is_set blocks)) ≤ capacity
members_within capacity blocks = length_filter_le (is_set blocks) 0 capacity

module _ (capacity : ℕ) (blocks : List ℕ) (spare_clear : (p : ℕ) → capacity ≤ p → is_set blocks p ≡ false) where
  -- a number is a member exactly if its bit is set
  pub has_member-set : (p : ℕ) → has_member (patterns_held capacity blocks).members p ≡ is_set blocks p
  has_member-set p = elim (cases_lt p capacity) [
    | inl lt ↦ member_in (is_set blocks) 0 capacity p (omega arith) (omega arith)
    | inr le ↦ member_is (is_set blocks) 0 capacity p ∙ rw (spare_clear p le) refl
  ]

  -- a number whose bit is set is below the capacity
  pub set_below : (p : ℕ) → is_set blocks p ≡ true → p < capacity
  set_below p is = elim (cases_lt p capacity) [ inl lt ↦ lt | inr le ↦ absurd (true≢false (sym is ∙ spare_clear p le)) ]

  -- blocks with the bits of one more number are the set with it as a member
  module _ (others : List ℕ) (p : ℕ) (at : (q : ℕ) → is_set others q ≡ (eqb q p || is_set blocks q)) where
    -- a set with one bit more has one member more
    pub with_one_more : patterns_held capacity others ≡ with_member (patterns_held capacity blocks) p
    with_one_more =
        let members : numbers_below capacity (is_set others)
        ≡ numbers_below capacity (λ q. eqb q p || has_member (patterns_held capacity blocks).members q) =
        range_filter_same (is_set others) (λ q. eqb q p || has_member (patterns_held capacity blocks).members q) 0 capacity
        (λ q from below. at q ∙ rw (has_member-set q) refl) in
        ap (λ (ms : List ℕ). let s : PatternSetParts = record { capacity = capacity; members = ms } in s) members

    -- the bits at and above the capacity stay clear
    pub spare_stays : p < capacity → (q : ℕ) → capacity ≤ q → is_set others q ≡ false
    spare_stays lt q le = at q ∙ rw (ne_eqb q p (λ e. omega (arith, e, lt, le)), spare_clear q le) refl

    -- the count after a new member
    pub one_more_member : p < capacity → is_set blocks p ≡ false
        → length (numbers_below capacity (is_set others)) ≡ length (numbers_below capacity (is_set blocks)) + 1
    one_more_member lt out =
        length_one_more (is_set blocks) (is_set others) 0 capacity p (omega arith) (omega (arith, lt)) out (at p ∙ rw (eq-eqb p p refl) refl)
        (λ q ne. sym (at q ∙ rw (ne_eqb q p ne) refl))

-- a number below the capacity is a member after an insertion exactly if it was one or is the new one
pub member_if_inserted : (s : PatternSetParts) (p q : ℕ) → q < s.capacity → has_member (with_member s p).members q ≡ (eqb q p || has_member s.members q)
member_if_inserted s p q lt = member_in (λ r. eqb r p || has_member s.members r) 0 s.capacity q (omega arith) (omega arith)

-- sets of the same capacity are equal exactly if the same bits are set
module _ (capacity : ℕ) (xs ys : List ℕ) (lengths : length xs ≡ length ys) (xs_spare : (p : ℕ) → capacity ≤ p → is_set xs p ≡ false)
    (ys_spare : (p : ℕ) → capacity ≤ p → is_set ys p ≡ false) where
  same_if_bits : SameBits xs ys → same_patterns (patterns_held capacity xs) (patterns_held capacity ys) ≡ true
  same_if_bits same_bits =
      rw (range_filter_same (is_set xs) (is_set ys) 0 capacity (λ q from below. same_bits.bits_are q)) (same_patterns_equiv.refl (patterns_held capacity ys))

  bits_if_same : same_patterns (patterns_held capacity xs) (patterns_held capacity ys) ≡ true → SameBits xs ys
  bits_if_same e =
      let parts = and_parts (eqb capacity capacity) (bytes_eq (patterns_held capacity xs).members (patterns_held capacity ys).members) e in
      let members : (patterns_held capacity xs).members ≡ (patterns_held capacity ys).members =
      (bytes_eq-Decides (patterns_held capacity xs).members (patterns_held capacity ys).members).0 parts.1 in
      record {
        as_many = lengths;
        bits_are = λ p. sym (has_member-set capacity xs xs_spare p) ∙ ap (λ ms. has_member ms p) members ∙ has_member-set capacity ys ys_spare p;
      }

  -- sets are equal exactly if their bits are
  pub same_by_bits : (b : Bool) → (b ≡ true) ↔ SameBits xs ys → b ≡ same_patterns (patterns_held capacity xs) (patterns_held capacity ys)
  same_by_bits b decides = both_ways b (same_patterns (patterns_held capacity xs) (patterns_held capacity ys)) (λ e. same_if_bits (decides.0 e))
      (λ e. decides.1 (bits_if_same e))

-- ---- what holds for each set
number_at : (n k d : ℕ) → k < length (range_with_len 0 n) → (get_or (range_with_len 0 n) k d ≡ k) × (k < n)
number_at n k d within =
    let below : k < n = rw (length-range_with_len 0 n) at within in
    (get_or-range_with_len 0 n k d below ∙ omega arith, below)

members_ascend : (t : ℕ → Bool) (n : ℕ) → IsStrictlyIncreasing (numbers_below n t)
members_ascend t n = IsStrictlyIncreasing-filter t (range_with_len 0 n)
    (λ k within. omega (arith, (number_at n k 0 (omega arith)).0, (number_at n (k + 1) 0 within).0))

members_below : (t : ℕ → Bool) (n : ℕ) → All (λ p. p < n) (numbers_below n t)
members_below t n = All-filter t (λ p. p < n) (range_with_len 0 n) (λ k d within. let at = number_at n k d within in omega (arith, at.0, at.1))

-- the members ascend, and lie below the capacity
pub is_set_below : (capacity : ℕ) (blocks : List ℕ) → IsPatternSet (patterns_held capacity blocks)
is_set_below capacity blocks = record {
  ascending = members_ascend (is_set blocks) capacity;
  below = members_below (is_set blocks) capacity;
  most = members_within capacity blocks;
}

-- ---- an insertion: the block of a number, and the same with its bit set
module _ {capacity count : ℕ} {blocks : List ℕ} (packed : IsPacked capacity blocks count) {p n block : ℕ} (more d : ℕ) (below : p < capacity)
    (n_is : n ≡ p)
    (block_is : block ≡ get_or blocks (n / 64) d) (bits : (j : ℕ) → has_bit more j ≡ (eqb j (n % 64) || has_bit block j)) where
  has_block : p / 64 < length blocks
  has_block = omega (arith, packed.length_is, below)

  is_block : block ≡ block_of blocks (p / 64)
  is_block = rw n_is at block_is ∙ get_or_default blocks (p / 64) d 0 has_block

  -- the bit was set: nothing changes
  pub member_before : more ≡ block → is_set blocks p ≡ true
  member_before stays = ap (λ w. has_bit w (p % 64)) (sym (stays ∙ is_block)) ∙ rw n_is at (bits (p % 64)) ∙ rw (eq-eqb (p % 64) (p % 64) refl) refl

  -- a number whose bit was set changes nothing
  pub same_at : is_set blocks p ≡ true → (q : ℕ) → is_set blocks q ≡ (eqb q p || is_set blocks q)
  same_at is q = elim (cases_eq q p) [ inl eq ↦ rw (eq, eq-eqb p p refl) is | inr ne ↦ rw (ne_eqb q p ne) refl ]

  -- the bit wasn't set: the blocks with it
  pub new_member : (has_bit block (n % 64) ≡ true → more ≡ block) → more ≢ block → is_set blocks p ≡ false
  new_member stays other = elim (cases_Bool (is_set blocks p)) [
    | inl is ↦ absurd (other (stays (rw (n_is, is_block) is)))
    | inr out ↦ out
  ]

  -- the bit that is set is the only change
  pub more_at : (q : ℕ) → is_set (set blocks (n / 64) more) q ≡ (eqb q p || is_set blocks q)
  more_at = rw n_is (changed_bit blocks p more has_block (λ j. rw (n_is, is_block) at (bits j)))

  -- a number whose bit wasn't set is one member more
  pub more_packed : is_set blocks p ≡ false → IsPacked capacity (set blocks (n / 64) more) (count + 1)
  more_packed out = record {
    fits = packed.fits;
    length_is = length-set blocks (n / 64) more ∙ packed.length_is;
    spare_clear = spare_stays capacity blocks packed.spare_clear (set blocks (n / 64) more) p more_at below;
    count_is = omega (arith, packed.count_is, one_more_member capacity blocks packed.spare_clear (set blocks (n / 64) more) p more_at below out);
  }

-- ---- a step from either end, where a member is left
module _ {blocks : List ℕ} {front_index front back_index back left : ℕ}
    (it : IsBetween blocks front_index front back_index back left) (some : left ≢ 0) where
  not_none : left_between blocks front_index front back_index back ≡ [] → ⊥
  not_none none = some (it.left_is ∙ ap length none)

  none_between : (a b : ℕ) → left_between blocks front_index front back_index back ≡ set_between blocks a b → a < b
  none_between a b is = elim (cases_lt a b) [
    | inl some_left ↦ some_left
    | inr past ↦ let none : b - a ≡ 0 = omega (arith, past) in absurd (not_none (is ∙ ap (λ n. filter (is_set blocks) (range_with_len a n)) none))
  ]

  module _ {index block : ℕ} (found : IsBlockFrom blocks front_index front index block) where
    -- a step from the front: its number, what is left, and the state after it
    pub front_some : 0 < block
    front_some = elim (cases_lt 0 block) [
      | inl some_bit ↦ some_bit
      | inr no_bit ↦ absurd (not_none
          (range_filter_none (is_set blocks) (rest_start front_index front) (rest_end back_index back - rest_start front_index front)
          (λ q from below. found.none (omega (arith, no_bit)) q from)))
    ]

    within : trailing_zeros w64 block < 64
    within = (bit_at-trailing_zeros w64 block front_some found.fits).0

    front_set : is_set blocks (rest_start index block) ≡ true
    front_set = at_block blocks index (trailing_zeros w64 block) within ∙ sym (found.is_rest.bits_are (trailing_zeros w64 block) (omega arith) within)
        ∙ lowest_set block found.fits within

    -- the number that is given is a member, so it is an index
    pub front_fits : rest_start index block ≤ max_index
    front_fits = it.fits (rest_start index block) front_set

    module _ {rest : ℕ} (rest_fits : rest < 2 ^ 64) (without : IsWithout block (trailing_zeros w64 block) rest) where
      later : trailing_zeros w64 block < trailing_zeros w64 rest
      later = begins_later found.fits rest_fits within without

      clear_between : (q : ℕ) → rest_start index block + 1 ≤ q → q < rest_start index rest → is_set blocks q ≡ false
      clear_between q from below =
          let in_block : q < 64 * index + 64 = omega (arith, trailing_le 64 rest, below) in
          at_number blocks index q (omega arith) in_block ∙ sym (found.is_rest.bits_are (q - 64 * index) (omega arith) (omega (arith, in_block, from)))
          ∙ sym (kept without (q - 64 * index) (λ e. omega (arith, e, from))) ∙ none_under rest (q - 64 * index) rest_fits (omega arith)

      -- a step from the front gives the lowest number that is left
      pub front_step : left_between blocks front_index front back_index back ≡ rest_start index block ∷ left_between blocks index rest back_index back
      front_step =
          let begins : left_between blocks front_index front back_index back ≡ left_between blocks index block back_index back =
          skip_front (is_set blocks) (rest_start front_index front) (rest_start index block) (rest_end back_index back) found.order found.clear in
          begins ∙ first_passes (is_set blocks) (rest_start index block) (rest_end back_index back)
          (none_between (rest_start index block) (rest_end back_index back) begins) front_set ∙ ap (λ (ps : List ℕ). rest_start index block ∷ ps)
          (skip_front (is_set blocks) (rest_start index block + 1) (rest_start index rest) (rest_end back_index back) (omega (arith, later)) clear_between)

      -- after it one less is left
      pub front_between : IsBetween blocks index rest back_index back (left - 1)
      front_between = record {
        front_is = record {
          bits_are = λ i from below.
              kept without i (λ e. omega (arith, e, later, from)) ∙ found.is_rest.bits_are i (omega (arith, later, from)) below;
        };
        back_is = it.back_is;
        fits = it.fits;
        left_is = omega (arith, it.left_is, ap length front_step);
      }

  module _ {index block : ℕ} (found : IsBlockTo blocks back_index back index block) where
    -- the same from the back
    pub back_some : 0 < block
    back_some = elim (cases_lt 0 block) [
      | inl some_bit ↦ some_bit
      | inr no_bit ↦ absurd (not_none
          (range_filter_none (is_set blocks) (rest_start front_index front) (rest_end back_index back - rest_start front_index front)
          (λ q from below. found.none (omega (arith, no_bit)) q (omega arith))))
    ]

    ends_at : bit_length block ≡ highest_bit block + 1
    ends_at = length_some block back_some found.fits

    back_set : is_set blocks (64 * index + highest_bit block) ≡ true
    back_set =
        at_block blocks index (highest_bit block) (omega arith) ∙ sym (found.is_rest.bits_are (highest_bit block) (omega (arith, ends_at)))
        ∙ highest_set block found.fits (omega (arith, ends_at))

    -- the number that is given is a member, so it is an index
    pub back_fits : 64 * index + highest_bit block ≤ max_index
    back_fits = it.fits (64 * index + highest_bit block) back_set

    module _ {rest : ℕ} (rest_fits : rest < 2 ^ 64) (without : IsWithout block (highest_bit block) rest) where
      earlier : bit_length rest ≤ highest_bit block
      earlier = ends_earlier found.fits rest_fits back_some without

      clear_after_rest : (q : ℕ) → rest_end index rest ≤ q → q < 64 * index + highest_bit block → is_set blocks q ≡ false
      clear_after_rest q from below =
          at_number blocks index q (omega arith) (omega arith) ∙ sym (found.is_rest.bits_are (q - 64 * index) (omega (arith, ends_at, below)))
          ∙ sym (kept without (q - 64 * index) (λ e. omega (arith, e, below))) ∙ none_above rest (q - 64 * index) rest_fits (omega arith)

      -- a step from the back gives the highest number that is left
      pub back_step : left_between blocks front_index front back_index back ≡ left_between blocks front_index front index rest ++
          (64 * index + highest_bit block) ∷ []
      back_step =
          let next : rest_end index block ≡ (64 * index + highest_bit block) + 1 = omega (arith, ends_at) in
          let ends : left_between blocks front_index front back_index back ≡ set_between blocks (rest_start front_index front)
          ((64 * index + highest_bit block) + 1) =
          skip_back (is_set blocks) (rest_start front_index front) (rest_end index block) (rest_end back_index back) found.order found.clear
          ∙ ap (set_between blocks (rest_start front_index front)) next in
          let last : rest_start front_index front < (64 * index + highest_bit block) + 1 =
          none_between (rest_start front_index front) ((64 * index + highest_bit block) + 1) ends in
          ends ∙ last_passes (is_set blocks) (rest_start front_index front) (64 * index + highest_bit block) (omega (arith, last)) back_set ∙ ap
          (λ (ps : List ℕ). ps ++ (64 * index + highest_bit block) ∷ [])
          (skip_back (is_set blocks) (rest_start front_index front) (rest_end index rest) (64 * index + highest_bit block)
          (omega (arith, earlier)) clear_after_rest)

      -- after it one less is left
      pub back_between : IsBetween blocks front_index front index rest (left - 1)
      back_between = record {
        front_is = it.front_is;
        back_is = record {
          bits_are = λ i below.
              kept without i (λ e. omega (arith, e, earlier, below)) ∙ found.is_rest.bits_are i (omega (arith, earlier, below, ends_at));
        };
        fits = it.fits;
        left_is = omega (
          arith,
          it.left_is,
          ap length back_step,
          length-append (left_between blocks front_index front index rest)
              ((64 * index + highest_bit block) ∷ []),
        );
      }

-- ---- the iterator over a whole set
module _ {capacity count : ℕ} {items : List ℕ} (packed : IsPacked capacity items count) {blocks : List ℕ} (blocks_are : blocks ≡ items)
    {last : ℕ} (last_is : last ≡ length blocks - 1) {front : ℕ} (front_fits : front < 2 ^ 64) (front_is : front ≡ block_of blocks 0)
    {back : ℕ} (back_fits : back < 2 ^ 64) (back_is : back ≡ block_of blocks last) where
  -- at first all members are left
  pub left_members : left_between blocks 0 front last back ≡ numbers_below capacity (is_set items)
  left_members =
      let spare : (p : ℕ) → capacity ≤ p → is_set blocks p ≡ false = rw blocks_are packed.spare_clear in
      let begun : capacity ≤ 64 * (length blocks - 1) + 64 = covers capacity (length blocks) (ap length blocks_are ∙ packed.length_is) in
      let whole : capacity - 0 ≡ capacity = omega arith in
      let from_zero : set_between blocks 0 (rest_end last back) ≡ left_between blocks 0 front last back =
      skip_front (is_set blocks) 0 (rest_start 0 front) (rest_end last back) (omega arith)
      (λ q from below. clear_before blocks 0 front front_fits front_is q (omega arith) below) in
      let to_last : set_between blocks 0 (64 * last + 64) ≡ set_between blocks 0 (rest_end last back) =
      skip_back (is_set blocks) 0 (rest_end last back) (64 * last + 64) (omega arith) (clear_after blocks last back back_fits back_is) in
      let to_capacity : set_between blocks 0 (64 * last + 64) ≡ set_between blocks 0 capacity =
      skip_back (is_set blocks) 0 capacity (64 * last + 64) (omega (arith, begun, last_is)) (λ q from below. spare q from) in
      sym from_zero ∙ sym to_last ∙ to_capacity ∙ rw whole (ap (λ ws. numbers_below capacity (is_set ws)) blocks_are)

  -- at first all members are left
  pub begins_between : IsBetween blocks 0 front last back count
  begins_between = record {
    front_is = whole_from blocks 0 front front_is;
    back_is = whole_to blocks last back back_is;
    fits = λ p is. let lt : p < capacity = set_below capacity items packed.spare_clear p (ap (λ ws. is_set ws p) (sym blocks_are) ∙ is) in
        omega (arith, lt, packed.fits);
    left_is = packed.count_is ∙ ap length (sym left_members);
  }
