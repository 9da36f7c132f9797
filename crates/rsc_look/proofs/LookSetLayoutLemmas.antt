-- What the operations on eighteen bits do to the set that they stand for, and what an iterator takes.
use Rattle.std.proofs.Common.{◌≡◌, ◌≢◌, ◌↔◌, ℕ, zero, suc, ◌-◌, ◌*◌, ◌^◌, ◌<◌, ◌≤◌, Bool, true, false, not, ◌&&◌, ◌||◌, cond, List, length, get_or, map, filter, flat_map, Some, None, refl, sym, ap, ap₂, ◌∙◌, arith, nat_eq, bit_and, bit_or, w32, ⊎_elim, count_ones, IsTrue, ◌+◌, ◌%◌, [], ◌∷◌, ◌++◌, Option, subst, MatchOption, ◌⊎◌, inl, inr, true≢false}
use Rattle.std.specs.List.{list_any}
use Rattle.std.specs.Int.{bit_at, trailing_zeros}
use Rattle.std.specs.FinSet as sets
use Rattle.std.specs.FinSet.{contains-empty, contains-from_list, contains-insert, contains-remove, contains-union, contains-intersection, contains-difference}
use Rattle.std.proofs.lemmas.Bool.{cases_eq, eq-eqb, ne_eqb, eqb-true}
use Rattle.std.proofs.lemmas.Bool.Decides.{nat_tests}
use Rattle.std.proofs.lemmas.List.{get_or-map, length-map}
use Rattle.std.proofs.lemmas.List.Sums.{length-filter}
use Rattle.std.proofs.lemmas.Nat.{or_lt, pow_pos}
use Rattle.std.proofs.lemmas.Nat.Bits.{and_pow, bit_at_and, bit_at_or, bit_at_not, bit_at-zero, bit_at-lt, bit_at-pow_same, bit_at-pow_other, same_from_bits_below, bit_at_above, bit_at-trailing_zeros}
use Rattle.std.proofs.lemmas.Simd.{mask_l-lt, bit_mask_l, ones-mask_l}
use Rattle.std.proofs.Math.Bool.{or_comm, and_comm, and-false, or-true}
use Rattle.std.proofs.lemmas.Option.{same_Some, none-some}
use lib.Lanes.{mask_l}
use Rattle.rsc_look.proofs.Prelude.{Look, Start, look_cmp, Looks, members, bits_of, look_cmp_total, look_cmp-IsAntisymmetric, same_looks, repr_of-injective, repr_of-pow, bit_of-look_at, bit_of-lt, contains-looks_of, bits_of-looks_of, looks_of-bits_of, bits_of-lt, every_look_has, tied, same_members, same_bools, same_from, same_to, from_to, from_to_parts, filter_none, filter_first, filter_same, repr_of-look_at, every_look-is, contains-filtered}
use Rattle.rsc_look.specs.Looks.{repr_of, every_look}
use Rattle.rsc_look.specs.LookSets.{look_text, looks_text}
use Rattle.rsc_look.specs.LookSetLayout.{bit_of, has_look, looks_of, look_at}
use Rattle.std.proofs.lemmas.List.Elements.{filter-append}
use Rattle.std.specs.Cmp.{unsigned_tied}
pub use Rattle.std.proofs.lemmas.Nat.{ones-le as ones_le}
pub use Rattle.rsc_look.specs.LookSetLaws.{contains-looks_of as contains_looks_of}

-- ---- single assertions

-- the bit of an assertion alone
single_bit : (l m : Look) → has_look (repr_of l) m ≡ nat_eq (repr_of m) (repr_of l)
single_bit l m =
    let same : repr_of m ≡ repr_of l → bit_of m ≡ bit_of l = λ e. ap bit_of (repr_of-injective m l e) in
    grind (arith, nat_tests, same, repr_of-pow l, repr_of-pow m, bit_at-pow_same (bit_of l), bit_at-pow_other (bit_of l) (bit_of m))

-- an assertion's bit is one of the lowest eighteen
pub repr_of_lt : (l : Look) → repr_of l < 2 ^ 18
repr_of_lt Start = omega arith
repr_of_lt _ = omega arith

-- ---- bits as tests

pub has_look_or : (a b : ℕ) (l : Look) → has_look (bit_or a b) l ≡ (has_look a l || has_look b l)
has_look_or a b l = grind (arith, nat_tests, bit_at_or a b (bit_of l), bit_at-lt a (bit_of l), bit_at-lt b (bit_of l))

pub has_look_and : (a b : ℕ) (l : Look) → has_look (bit_and a b) l ≡ (has_look a l && has_look b l)
has_look_and a b l = grind (arith, nat_tests, bit_at_and a b (bit_of l), bit_at-lt a (bit_of l), bit_at-lt b (bit_of l))

pub has_look_not : (b : ℕ) (l : Look) → b < 2 ^ 32 → has_look (4294967295 - b) l ≡ not (has_look b l)
has_look_not b l h = grind (arith, nat_tests, bit_at_not w32 b (bit_of l) h, bit_of-lt l, bit_at-lt b (bit_of l))

-- ---- the operations

-- 0 is the empty set, and eighteen ones are the full one
pub looks_of_none : looks_of 0 ≡ sets.empty
looks_of_none = same_looks (looks_of 0) sets.empty (λ l. contains-looks_of 0 l ∙ ap (λ n. nat_eq n 1) (bit_at-zero (bit_of l))
    ∙ sym (contains-empty look_cmp l))

all_bits : (l : Look) → has_look 262143 l ≡ true
all_bits Start = refl
all_bits _ = refl

-- all eighteen bits stand for a set with each assertion
pub contains_looks_of_all : (l : Look) → sets.contains (looks_of 262143) l ≡ true
contains_looks_of_all l = contains-looks_of 262143 l ∙ all_bits l

-- they stand for the set of all
pub looks_of_all : looks_of 262143 ≡ sets.from_list every_look
looks_of_all = same_looks (looks_of 262143) (sets.from_list every_look) (λ l.
    contains-looks_of 262143 l ∙ all_bits l
    ∙ sym (contains-from_list look_cmp_total every_look l ∙ ap (λ (t : Look → Bool). list_any t every_look) (λ i m. tied l m i) ∙ every_look_has l))

-- each operation on bits is that operation on sets
pub looks_of_insert : (n : ℕ) (l : Look) → looks_of (bit_or n (repr_of l)) ≡ sets.insert (looks_of n) l
looks_of_insert n l = same_looks (looks_of (bit_or n (repr_of l))) (sets.insert (looks_of n) l) (λ m.
    contains-looks_of (bit_or n (repr_of l)) m ∙ has_look_or n (repr_of l) m ∙ or_comm (has_look n m) (has_look (repr_of l) m)
    ∙ sym (contains-insert look_cmp_total (looks_of n) l m ∙ ap₂ (λ x y. x || y) (tied m l ∙ sym (single_bit l m)) (contains-looks_of n m)))

-- an insertion and a union stay within eighteen bits
pub union_fits : (a b : ℕ) → a < 2 ^ 18 → b < 2 ^ 18 → bit_or a b < 2 ^ 18
union_fits a b = or_lt 18 a b

-- to clear an assertion's bit is to remove it
pub looks_of_remove : (n : ℕ) (l : Look) → looks_of (bit_and n (4294967295 - repr_of l)) ≡ sets.remove (looks_of n) l
looks_of_remove n l = same_looks (looks_of (bit_and n (4294967295 - repr_of l))) (sets.remove (looks_of n) l) (λ m.
    contains-looks_of (bit_and n (4294967295 - repr_of l)) m ∙ has_look_and n (4294967295 - repr_of l) m
    ∙ ap (λ b. has_look n m && b) (has_look_not (repr_of l) m (omega (arith, repr_of_lt l)) ∙ ap not (single_bit l m))
    ∙ and_comm (has_look n m) (not (nat_eq (repr_of m) (repr_of l)))
    ∙ sym (contains-remove look_cmp_total (looks_of n) l m ∙ ap₂ (λ x y. not x && y) (tied m l) (contains-looks_of n m)))

-- the bits of either number stand for the union
pub looks_of_union : (a b : ℕ) → looks_of (bit_or a b) ≡ sets.union (looks_of a) (looks_of b)
looks_of_union a b = same_looks (looks_of (bit_or a b)) (sets.union (looks_of a) (looks_of b)) (λ m.
    contains-looks_of (bit_or a b) m ∙ has_look_or a b m
    ∙ sym (contains-union look_cmp_total (looks_of a) (looks_of b) m ∙ ap₂ (λ x y. x || y) (contains-looks_of a m) (contains-looks_of b m)))

-- the bits of both stand for the intersection
pub looks_of_intersection : (a b : ℕ) → looks_of (bit_and a b) ≡ sets.intersection (looks_of a) (looks_of b)
looks_of_intersection a b = same_looks (looks_of (bit_and a b)) (sets.intersection (looks_of a) (looks_of b)) (λ m.
    contains-looks_of (bit_and a b) m ∙ has_look_and a b m
    ∙ sym (contains-intersection look_cmp_total (looks_of a) (looks_of b) m ∙ ap₂ (λ x y. x && y) (contains-looks_of a m) (contains-looks_of b m)))

-- the bits of one without those of the other stand for the difference
pub looks_of_difference : (a b : ℕ) → b < 2 ^ 18 → looks_of (bit_and a (4294967295 - b)) ≡ sets.difference (looks_of a) (looks_of b)
looks_of_difference a b h = same_looks (looks_of (bit_and a (4294967295 - b))) (sets.difference (looks_of a) (looks_of b)) (λ m.
    contains-looks_of (bit_and a (4294967295 - b)) m ∙ has_look_and a (4294967295 - b) m ∙ ap (λ x. has_look a m && x) (has_look_not b m (omega arith))
    ∙ sym (contains-difference look_cmp_total (looks_of a) (looks_of b) m ∙ ap₂ (λ x y. x && not y) (contains-looks_of a m) (contains-looks_of b m)))

-- ---- the questions

-- each question on bits is that question on sets
pub contains_by_and : (n : ℕ) (l : Look) → not (nat_eq (bit_and n (repr_of l)) 0) ≡ sets.contains (looks_of n) l
contains_by_and n l =
    ap (λ r. not (nat_eq (bit_and n r) 0)) (repr_of-pow l) ∙ ap (λ x. not (nat_eq x 0)) (and_pow n (bit_of l))
    ∙ by_bit (bit_at n (bit_of l)) (2 ^ bit_of l) (bit_at-lt n (bit_of l)) (pow_pos (bit_of l)) ∙ sym (contains-looks_of n l)
  where
    by_bit : (x p : ℕ) → x < 2 → 0 < p → not (nat_eq (x * p) 0) ≡ nat_eq x 1
    by_bit zero p l m = grind (arith, nat_tests)
    by_bit (suc x) p l m = let one : x ≡ 0 = omega arith in rw one (grind (arith, nat_tests))

-- only 0 stands for the empty set
pub none_by_bits : (n : ℕ) → n < 2 ^ 18 → IsTrue (nat_eq n 0) ↔ (looks_of n ≡ sets.empty)
none_by_bits n h = (
  (λ t. ap looks_of (eqb-true n 0 t) ∙ looks_of_none),
  (λ e. eq-eqb n 0 (sym (bits_of-looks_of n h) ∙ ap bits_of (e ∙ sym looks_of_none) ∙ bits_of-looks_of 0 (omega arith))),
)

-- equal sets have equal bits
pub same_by_bits : (a b : ℕ) → a < 2 ^ 18 → b < 2 ^ 18 → nat_eq a b ≡ same_members (looks_of a) (looks_of b)
same_by_bits a b la lb = same_bools (nat_eq a b) (same_members (looks_of a) (looks_of b))
    (λ t. same_to look_cmp_total look_cmp-IsAntisymmetric (looks_of a) (looks_of b) (ap looks_of (eqb-true a b t)))
    (λ t. eq-eqb a b (sym (bits_of-looks_of a la) ∙ ap bits_of (same_from look_cmp_total look_cmp-IsAntisymmetric (looks_of a) (looks_of b) t)
    ∙ bits_of-looks_of b lb))

-- there are eighteen assertions
pub eighteen : length every_look ≡ 18
unfolding every_look
eighteen = refl

at : (k : ℕ) → k < 18 → bit_of (get_or every_look k Start) ≡ k
unfolding look_at
at k l = bit_of-look_at k l

-- a number below 2 ^ 18 is the mask of its eighteen bits
as_mask : (n : ℕ) → n < 2 ^ 18 → n ≡ mask_l (map (has_look n) every_look)
as_mask n h = same_from_bits_below 18 n (mask_l (map (has_look n) every_look)) h fits (λ k l.
    sym (bit_mask_l (map (has_look n) every_look) k
    ∙ ap (λ b. cond b 1 0) (get_or-map (has_look n) every_look k Start false (let e = eighteen in omega arith) ∙ ap (λ p. nat_eq (bit_at n p) 1) (at k l))
    ∙ grind (arith, nat_tests, bit_at-lt n k)))
  where
    fits : mask_l (map (has_look n) every_look) < 2 ^ 18
    fits = let e = mask_l-lt (map (has_look n) every_look) in let f = length-map every_look (has_look n) ∙ eighteen in rw f at e

members-looks_of : (n : ℕ) → members (looks_of n) ≡ filter (has_look n) every_look
members-looks_of n = ap (λ (p : Look → Bool). filter p every_look) (λ i l. contains-looks_of n l i)

-- the number of ones is the number of members
pub count_by_bits : (n : ℕ) → n < 2 ^ 18 → count_ones n ≡ length (members (looks_of n))
count_by_bits n h =
    ap count_ones (as_mask n h) ∙ ones-mask_l (has_look n) every_look ∙ sym (length-filter (has_look n) every_look)
    ∙ sym (ap (λ (x : List Look). length x) (members-looks_of n))

-- ---- a set from its bits

-- `try_from` gives the set with these bits, and none for more than eighteen
pub some_exact : (n : ℕ) (s : Looks) → n < 2 ^ 18 → (Some (looks_of n) ≡ Some s) ↔ (bits_of s ≡ n)
some_exact n s h = (
  (λ e. ap bits_of (sym (same_Some (looks_of n) s e)) ∙ bits_of-looks_of n h),
  (λ e. ap Some (ap looks_of (sym e) ∙ looks_of-bits_of s)),
)

-- a number with more bits stands for no set
pub none_exact : (n : ℕ) (s : Looks) → 2 ^ 18 ≤ n → (None ≡ Some s) ↔ (bits_of s ≡ n)
none_exact n s h = ((λ e. absurd (none-some s e)), (λ e. let l = bits_of-lt s in absurd (omega arith)))

-- ---- the first member of a set by its bits, and the set without it: what an iterator takes

filter-map : (p : Look → Bool) (ks : List ℕ) → filter p (map look_at ks) ≡ map look_at (filter (λ k. p (look_at k)) ks)
filter-map p [] = refl
filter-map p (k ∷ ks) =
    elim (p (look_at k)) as (λ v. cond v (look_at k ∷ filter p (map look_at ks)) (filter p (map look_at ks)) ≡ map look_at
    (cond v (k ∷ filter (λ j. p (look_at j)) ks) (filter (λ j. p (look_at j)) ks))) [
      | true ↦ ap (λ t. look_at k ∷ t) (filter-map p ks)
      | false ↦ filter-map p ks
    ]

members-at : (s : Looks) → members s ≡ map look_at (filter (λ k. sets.contains s (look_at k)) (from_to 0 18))
members-at s = ap (λ (x : List Look). filter (λ l. sets.contains s l) x) every_look-is ∙ filter-map (λ l. sets.contains s l) (from_to 0 18)

from_bit : (p : ℕ → Bool) (k : ℕ) → k ≤ 18 → ((j : ℕ) → j < k → p j ≡ false) → filter p (from_to 0 18) ≡ filter p (from_to k 18)
from_bit p k l none =
    ap (filter p) (from_to_parts 0 k 18 (omega arith) l) ∙ filter-append p (from_to 0 k) (from_to k 18)
    ∙ ap (λ x. x ++ filter p (from_to k 18)) (filter_none p 0 k (λ j low high. none j high))

-- the member of the lowest bit comes first, and the others are those of the set without it
pub first_member : (s : Looks) (k : ℕ) → k < 18 → sets.contains s (look_at k) ≡ true → ((j : ℕ) → j < k → sets.contains s (look_at j) ≡ false)
    → members s ≡ look_at k ∷ members (sets.remove s (look_at k))
first_member s k l is none =
    members-at s ∙ ap (map look_at) (from_bit p k (omega arith) none ∙ filter_first p k 18 l is)
    ∙ ap (λ x. look_at k ∷ map look_at x) (sym (from_bit q (k + 1) (omega arith) gone ∙ filter_same q p (k + 1) 18 kept))
    ∙ ap (λ x. look_at k ∷ x) (sym (members-at (sets.remove s (look_at k))))
  where
    p : ℕ → Bool
    p j = sets.contains s (look_at j)

    q : ℕ → Bool
    q j = sets.contains (sets.remove s (look_at k)) (look_at j)

    without : (j : ℕ) → sets.contains (sets.remove s (look_at k)) (look_at j) ≡
        (not (nat_eq (repr_of (look_at j)) (repr_of (look_at k))) && sets.contains s (look_at j))
    without j = contains-remove look_cmp_total s (look_at k) (look_at j) ∙ ap (λ b. not b && sets.contains s (look_at j)) (tied (look_at j) (look_at k))

    gone : (j : ℕ) → j < k + 1 → q j ≡ false
    gone j h = without j ∙ ⊎_elim
        (λ (e : j ≡ k). rw (eq-eqb (repr_of (look_at j)) (repr_of (look_at k)) (ap (λ i. repr_of (look_at i)) e)) refl)
        (λ (ne : j ≢ k). rw (none j (omega arith)) (and-false _))
        (cases_eq j k)

    kept : (j : ℕ) → k + 1 ≤ j → j < 18 → q j ≡ p j
    kept j low high = without j ∙ ap (λ b. not b && p j) (ne_eqb (repr_of (look_at j)) (repr_of (look_at k)) (λ e.
        let same : j ≡ k = sym (bit_of-look_at j high) ∙ ap bit_of (repr_of-injective (look_at j) (look_at k) e)
        ∙ bit_of-look_at k l in omega arith))

pub no_member : (s : Looks) → s ≡ sets.empty → members s ≡ []
no_member s e = members-at s
    ∙ ap (map look_at) (filter_none (λ k. sets.contains s (look_at k)) 0 18 (λ k low high. ap (λ t. sets.contains t (look_at k)) e
    ∙ contains-empty look_cmp (look_at k)))

-- the bit found by `trailing_zeros`
pub first_by_bits : (n : ℕ) → 0 < n → n < 2 ^ 18 → (k : ℕ) → k ≡ trailing_zeros w32 n
    → (k < 18) × (members (looks_of n) ≡ look_at k ∷ members (sets.remove (looks_of n) (look_at k)))
first_by_bits n pos h k e =
    let found = bit_at-trailing_zeros w32 n pos (omega arith) in
    let one : bit_at n k ≡ 1 = ap (bit_at n) e ∙ found.1 in
    let small : k < 18 = below n k h one in (
      small,
      first_member (looks_of n) k small
          (contains-looks_of n (look_at k) ∙ ap (λ p. nat_eq (bit_at n p) 1) (bit_of-look_at k small) ∙ ap (λ x. nat_eq x 1) one)
          (λ j l. contains-looks_of n (look_at j) ∙ ap (λ p. nat_eq (bit_at n p) 1) (bit_of-look_at j (omega arith))
          ∙ ap (λ x. nat_eq x 1) (found.2 j (rw e at l))),
    )
  where
    below : (n k : ℕ) → n < 2 ^ 18 → bit_at n k ≡ 1 → k < 18
    below n k h one = grind (arith, bit_at_above n 18 k h)

-- what the iterator takes
abbrev pub IsFirstMember : Looks → Option Look → Type 0
IsFirstMember s r = MatchOption r (members s ≡ []) (λ l. members s ≡ l ∷ members (sets.remove s l))

-- no bit is set: the iterator ends
pub first_none : (n : ℕ) → n ≡ 0 → members (looks_of n) ≡ []
first_none n e = no_member (looks_of n) (ap looks_of e ∙ looks_of_none)

shifted : (k : ℕ) → k < 18 → 1 * 2 ^ k % 2 ^ 32 ≡ 2 ^ k
shifted k l =
    let one : 1 * 2 ^ k ≡ 2 ^ k = omega arith in
    let small : 2 ^ k < 2 ^ 32 = subst (λ x. x < 2 ^ 32) (repr_of-look_at k l) (let m = repr_of_lt (look_at k) in omega arith) in
    rw one (omega (arith, small))

-- the lowest bit gives the first member
pub first_some : (n : ℕ) (r : Option Look) → (n ≡ 0 → ⊥) → n < 2 ^ 18
    → ((l : Look) → (r ≡ Some l) ↔ (repr_of l ≡ 1 * 2 ^ trailing_zeros w32 n % 2 ^ 32))
    → IsFirstMember (looks_of n) r
first_some n r some h is =
    let k = trailing_zeros w32 n in
    let found = first_by_bits n (omega arith) h k refl in
    let first : r ≡ Some (look_at k) = (is (look_at k)).1 (repr_of-look_at k found.0 ∙ sym (shifted k found.0)) in
    rw first found.1

-- ---- a loop over the members of a set that asks each for something

-- the loop has the assertions `rest` left: P holds of all other members, and they are members
pub record HasAsked (s : Looks) (rest : List Look) (P : Look → Type 0) : Type 0 where
  pub asked : (l : Look) → sets.contains s l ≡ true → (sets.contains (sets.from_list {R = look_cmp} rest) l ≡ true) ⊎ P l
  pub left : (l : Look) → sets.contains (sets.from_list {R = look_cmp} rest) l ≡ true → sets.contains s l ≡ true

contains-members : (s : Looks) (l : Look) → sets.contains (sets.from_list {R = look_cmp} (members s)) l ≡ sets.contains s l
contains-members s l = contains-filtered (λ m. sets.contains s m) l

-- a set with members is shown by their characters
pub text_of_some : (s : Looks) → (s ≡ sets.empty → IsTrue false) → looks_text (members s) ≡ flat_map look_text (members s)
text_of_some s some = go (members s) refl
  where
    go : (looks : List Look) → members s ≡ looks → looks_text looks ≡ flat_map look_text looks
    go [] e =
        let same : s ≡ sets.empty =
        same_looks s sets.empty (λ l. sym (contains-members s l) ∙ ap (λ (looks : List Look). sets.contains (sets.from_list {R = look_cmp} looks) l) e) in
        absurd (true≢false (sym (some same)))
    go (look ∷ looks) e = refl

-- nothing is asked yet
pub HasAsked-none : (s : Looks) (rest : List Look) (P : Look → Type 0) → rest ≡ members s → HasAsked s rest P
HasAsked-none s rest P e = rw e (record { asked = λ l h. inl (contains-members s l ∙ h); left = λ l h. sym (contains-members s l) ∙ h })

with_first : (x : Look) (rest : List Look) (l : Look) → sets.contains (sets.from_list {R = look_cmp} (x ∷ rest)) l ≡
    (nat_eq (repr_of l) (repr_of x) || sets.contains (sets.from_list {R = look_cmp} rest) l)
with_first x rest l =
    contains-insert look_cmp_total (sets.from_list rest) x l
    ∙ ap (λ b. b || sets.contains (sets.from_list {R = look_cmp} rest) l) (unsigned_tied (repr_of l) (repr_of x))

-- one more is asked
pub HasAsked-more : (s : Looks) (x : Look) (all rest : List Look) (P : Look → Type 0) → HasAsked s all P → all ≡ x ∷ rest → P x
    → HasAsked s rest P
HasAsked-more s x all rest P a e p = record {
  asked = λ l h. ⊎_elim
      (λ (q : sets.contains (sets.from_list {R = look_cmp} all) l ≡ true). ⊎_elim
      (λ (same : repr_of l ≡ repr_of x). inr (subst P (sym (repr_of-injective l x same)) p))
      (λ (other : repr_of l ≢ repr_of x). inl
      (sym (ap (λ b. b || sets.contains (sets.from_list {R = look_cmp} rest) l) (ne_eqb (repr_of l) (repr_of x) other))
      ∙ sym (with_first x rest l) ∙ sym (ap (λ (r : List Look). sets.contains (sets.from_list {R = look_cmp} r) l) e) ∙ q))
      (cases_eq (repr_of l) (repr_of x)))
      (λ (q : P l). inr q)
      (a.asked l h);
  left = λ l h. a.left l (ap (λ (r : List Look). sets.contains (sets.from_list {R = look_cmp} r) l) e ∙ with_first x rest l
      ∙ ap (λ b. nat_eq (repr_of l) (repr_of x) || b) h ∙ or-true (nat_eq (repr_of l) (repr_of x)));
}

-- all are asked
pub HasAsked-all : (s : Looks) (rest : List Look) (P : Look → Type 0) → HasAsked s rest P → rest ≡ [] → (l : Look) → sets.contains s l ≡ true
    → P l
HasAsked-all s rest P a e l h = ⊎_elim
    (λ (q : sets.contains (sets.from_list {R = look_cmp} rest) l ≡ true). absurd
    (true≢false (sym q ∙ ap (λ (r : List Look). sets.contains (sets.from_list {R = look_cmp} r) l) e ∙ contains-empty look_cmp l)))
    (λ (q : P l). q)
    (a.asked l h)
