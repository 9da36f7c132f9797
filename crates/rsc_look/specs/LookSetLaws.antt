-- A set of assertions and its eighteen bits: each gives the other back.
use Rattle.std.proofs.Common.{◌≡◌, ℕ, zero, suc, ◌+◌, ◌*◌, ◌^◌, ◌<◌, ◌≤◌, Bool, true, false, ◌&&◌, cond, List, [], ◌∷◌, get_or, map, filter, refl, sym, ap, ◌∙◌, arith, nat_eq}
use Rattle.std.specs.List.{list_any, sum_by}
use Rattle.std.specs.Int.{bit_at}
use Rattle.std.specs.Ordering.{eq_by_cmp}
use Rattle.std.specs.Cmp.{IsTotalOrder, nat_cmp_total, on_total, unsigned_tied}
use Rattle.std.specs.FinSet as sets
use Rattle.std.specs.FinSet.{IsAntisymmetric, nat_cmp-IsAntisymmetric, contains-from_list, same_set}
use Rattle.std.proofs.lemmas.Bool.{agree_below_at, eqb-true}
use Rattle.std.proofs.lemmas.List.{map-append}
use Rattle.std.proofs.lemmas.List.Elements.{filter-append}
use Rattle.std.proofs.lemmas.List.Sums.{sum_by-cons, sum_by-append}
use Rattle.std.proofs.Math.Bool.{and-true}
use Rattle.std.proofs.lemmas.Map.Views.{any-filter_same}
use Rattle.rsc_alphabet.specs.Bytes.{from_to}
use Rattle.rsc_alphabet.specs.BytesLaws.{from_to_none, from_to_last}
use Rattle.rsc_primitives.specs.Bits.{mask_of}
use Rattle.rsc_primitives.specs.BitsLaws.{mask_of-lt, has_bit-mask_of, mask_of_bits}
use Rattle.rsc_look.specs.declared.assertion.Look.{Look}
use Rattle.rsc_look.specs.declared.assertion.Look.TheVariants.{Start}
use Rattle.rsc_look.specs.Looks.{repr_of, every_look}
use Rattle.rsc_look.specs.LookSets.{look_cmp, Looks, bits_of}
use Rattle.rsc_look.specs.LookSetLayout.{bit_of, has_look, looks_of, look_at, look_at-bit_of}

-- ---- the order of the assertions

-- the assertion of a number
unfoldable look_of : ℕ → Look
unfolding every_look
look_of n = get_or (filter (λ l. nat_eq (repr_of l) n) every_look) 0 Start

look_of-repr_of : (l : Look) → look_of (repr_of l) ≡ l
unfolding look_of
look_of-repr_of Start = refl
look_of-repr_of _ = refl

pub repr_of-injective : (l m : Look) → repr_of l ≡ repr_of m → l ≡ m
repr_of-injective l m e = sym (look_of-repr_of l) ∙ ap look_of e ∙ look_of-repr_of m

pub look_cmp_total : IsTotalOrder look_cmp
look_cmp_total = on_total repr_of nat_cmp_total

pub look_cmp-IsAntisymmetric : IsAntisymmetric look_cmp
look_cmp-IsAntisymmetric l m e = repr_of-injective l m (nat_cmp-IsAntisymmetric (repr_of l) (repr_of m) e)

pub same_looks : (s t : Looks) → ((l : Look) → sets.contains s l ≡ sets.contains t l) → s ≡ t
same_looks = same_set look_cmp_total look_cmp-IsAntisymmetric

pub tied : (l m : Look) → eq_by_cmp look_cmp l m ≡ nat_eq (repr_of l) (repr_of m)
tied l m = unsigned_tied (repr_of l) (repr_of m)

-- ---- the assertion of a bit

pub bit_of-look_at : (k : ℕ) → k < 18 → bit_of (look_at k) ≡ k
unfolding look_at
bit_of-look_at k l = eqb-true _ _ (agree_below_at (λ j. nat_eq (bit_of (look_at j)) j) (λ j. true) 18 k refl l)

pub repr_of-look_at : (k : ℕ) → k < 18 → repr_of (look_at k) ≡ 2 ^ k
unfolding look_at
repr_of-look_at k l = eqb-true _ _ (agree_below_at (λ j. nat_eq (repr_of (look_at j)) (2 ^ j)) (λ j. true) 18 k refl l)

pub bit_of-lt : (l : Look) → bit_of l < 18
bit_of-lt Start = omega arith
bit_of-lt _ = omega arith

pub repr_of-pow : (l : Look) → repr_of l ≡ 2 ^ bit_of l
repr_of-pow Start = refl
repr_of-pow _ = refl

pub every_look-is : every_look ≡ map look_at (from_to 0 18)
unfolding look_at from_to
every_look-is = refl

-- ---- which assertions a number's bits are

-- each assertion is in the list of all
pub every_look_has : (l : Look) → list_any (λ m. nat_eq (repr_of l) (repr_of m)) every_look ≡ true
unfolding every_look
every_look_has Start = refl
every_look_has _ = refl

pub contains-filtered : (p : Look → Bool) (l : Look) → sets.contains (sets.from_list {R = look_cmp} (filter p every_look)) l ≡ p l
contains-filtered p l =
    contains-from_list look_cmp_total (filter p every_look) l
    ∙ any-filter_same (eq_by_cmp look_cmp l) p (p l) (λ m same. ap p (sym (repr_of-injective l m (eqb-true _ _ (sym (tied l m) ∙ same))))) every_look
    ∙ ap (λ (t : Look → Bool). p l && list_any t every_look) (λ i m. tied l m i) ∙ ap (λ b. p l && b) (every_look_has l) ∙ and-true (p l)

pub contains-looks_of : (n : ℕ) (l : Look) → sets.contains (looks_of n) l ≡ has_look n l
contains-looks_of n l = contains-filtered (has_look n) l

-- ---- the sum of the numbers of a set

-- the numbers of the assertions that pass a test, up to a bit
sum_to : (p : Look → Bool) (k : ℕ) → k ≤ 18 → sum_by repr_of (filter p (map look_at (from_to 0 k))) ≡ mask_of (λ j. p (look_at j)) k
unfolding mask_of
sum_to p zero l = ap (λ (x : List ℕ). sum_by repr_of (filter p (map look_at x))) (from_to_none 0 0 (omega arith))
sum_to p (suc k) l =
    let more : suc k ≡ k + 1 = omega arith in
    let here : mask_of (λ j. p (look_at j)) k + sum_by repr_of (filter p (look_at k ∷ [])) ≡ mask_of (λ j. p (look_at j)) (suc k) =
    one (p (look_at k)) (mask_of (λ j. p (look_at j)) k) in
    ap (λ n. sum_by repr_of (filter p (map look_at (from_to 0 n)))) more
    ∙ ap (λ (x : List ℕ). sum_by repr_of (filter p (map look_at x))) (from_to_last 0 k (omega arith))
    ∙ ap (λ (x : List Look). sum_by repr_of (filter p x)) (map-append look_at (from_to 0 k) (k ∷ []))
    ∙ ap (λ (x : List Look). sum_by repr_of x) (filter-append p (map look_at (from_to 0 k)) (look_at k ∷ []))
    ∙ sum_by-append repr_of (filter p (map look_at (from_to 0 k))) (filter p (look_at k ∷ []))
    ∙ ap (λ n. n + sum_by repr_of (filter p (look_at k ∷ []))) (sum_to p k (omega arith)) ∙ here
  where
    one : (v : Bool) (rest : ℕ) → rest + sum_by repr_of (cond v (look_at k ∷ []) []) ≡ cond v 1 0 * 2 ^ k + rest
    one true rest = let e : sum_by repr_of (look_at k ∷ []) ≡ repr_of (look_at k) + 0 = sum_by-cons repr_of (look_at k) [] in
        omega (arith, e, repr_of-look_at k (omega arith))
    one false rest = omega arith

bits_of-is : (s : Looks) → bits_of s ≡ mask_of (λ j. sets.contains s (look_at j)) 18
bits_of-is s = ap (λ (x : List Look). sum_by repr_of (filter (λ l. sets.contains s l) x)) every_look-is ∙ sum_to (λ l. sets.contains s l) 18 (omega arith)

pub bits_of-lt : (s : Looks) → bits_of s < 2 ^ 18
bits_of-lt s = rw (bits_of-is s) (mask_of-lt (λ j. sets.contains s (look_at j)) 18)

-- ---- there and back

pub bits_of-looks_of : (n : ℕ) → n < 2 ^ 18 → bits_of (looks_of n) ≡ n
bits_of-looks_of n l =
    bits_of-is (looks_of n) ∙ mask_of_bits n 18 (λ j. sets.contains (looks_of n) (look_at j)) l (λ k h.
    contains-looks_of n (look_at k) ∙ ap (λ p. nat_eq (bit_at n p) 1) (bit_of-look_at k h))

pub looks_of-bits_of : (s : Looks) → looks_of (bits_of s) ≡ s
looks_of-bits_of s = same_looks (looks_of (bits_of s)) s (λ l.
    contains-looks_of (bits_of s) l ∙ ap (λ n. nat_eq (bit_at n (bit_of l)) 1) (bits_of-is s)
    ∙ has_bit-mask_of (λ j. sets.contains s (look_at j)) 18 (bit_of l) (bit_of-lt l) ∙ ap (λ m. sets.contains s m) (look_at-bit_of l))
