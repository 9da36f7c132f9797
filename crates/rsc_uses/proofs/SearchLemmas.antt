-- Sums of a table's entries, modulo a number.
use Rattle.std.proofs.Common.{◌≡◌, ℕ, suc, ◌+◌, ◌-◌, ◌%◌, ◌<◌, ◌∙◌, List, [], ◌∷◌, length, slice_index, map, sum, sum_by, refl, sym, ap, arith}
use Rattle.std.specs.List.{range_with_len}
use Rattle.std.proofs.Math.Nat.{mod-add-mod, mod-eq_of_lt}
use Rattle.std.proofs.lemmas.List.{same_lists, get_or_default}
use Rattle.std.proofs.lemmas.List.FromFn.{length-map-range_with_len, get_or-map-range_with_len}
use Rattle.std.proofs.lemmas.List.Sums.{sum-map, sum_by-cons}

entries : (t : List ℕ) → map (slice_index t) (range_with_len 0 (length t)) ≡ t
entries t = same_lists _ _ (length-map-range_with_len (slice_index t) 0 (length t)) (λ k d h.
    let lt : k < length t = omega (arith, h, length-map-range_with_len (slice_index t) 0 (length t)) in
    get_or-map-range_with_len (slice_index t) 0 (length t) k k d lt (omega arith) ∙ get_or_default t k 0 d lt)

-- before the first entry all are left
pub these_left : (t members : List ℕ) (m : ℕ) {left : List ℕ} → left ≡ members
    → (0 + sum_by (slice_index t) left) % m ≡ sum_by (slice_index t) members % m
these_left t members m e = ap (λ n. n % m) (rw e (omega arith))

-- at first all entries are left
pub all_left : (t : List ℕ) (m : ℕ) {left : List ℕ} → left ≡ range_with_len 0 (length t) → (0 + sum_by (slice_index t) left) % m ≡ sum t % m
all_left t m e =
    these_left t (range_with_len 0 (length t)) m e
    ∙ ap (λ n. n % m) (sym (sum-map (slice_index t) (range_with_len 0 (length t))) ∙ ap sum (entries t))

-- an entry more is summed, and an entry less is left
pub one_more : (t : List ℕ) (s m : ℕ) {left rest : List ℕ} {p i : ℕ} → i ≡ p → left ≡ p ∷ rest
    → ((s + slice_index t i) % m + sum_by (slice_index t) rest) % m ≡ (s + sum_by (slice_index t) left) % m
one_more t s m {left} {rest} {p} {i} same e =
    mod-add-mod (s + slice_index t i) m (sum_by (slice_index t) rest)
    ∙ ap (λ n. n % m) (rw (same, e, sum_by-cons (slice_index t) p rest) (omega arith))

-- a range begins with its first number
range_begins : (a n m : ℕ) → n ≡ suc m → range_with_len a n ≡ a ∷ range_with_len (a + 1) m
range_begins a n m e = rw e refl

-- the same of the numbers between two ends: the first is summed, and the others are left
pub one_more_of_range : (t : List ℕ) (a b s m : ℕ) → a < b
    → ((s + slice_index t a) % m + sum_by (slice_index t) (range_with_len (a + 1) (b - (a + 1)))) % m
    ≡ (s + sum_by (slice_index t) (range_with_len a (b - a))) % m
one_more_of_range t a b s m lt = one_more t s m refl (range_begins a (b - a) (b - (a + 1)) (omega (arith, lt)))

-- in the end none is left
pub none_left : (t : List ℕ) (m : ℕ) {left : List ℕ} {s n : ℕ} → left ≡ [] → s < m → (s + sum_by (slice_index t) left) % m ≡ n → s ≡ n
none_left t m {left} {s} e small h = sym (mod-eq_of_lt small) ∙ ap (λ y. y % m) (rw e (omega arith)) ∙ h
