-- Bytes that a list of ranges treats alike have one class.
use Rattle.std.proofs.Common.{◌≡◌, ℕ, zero, suc, ◌+◌, ◌-◌, ◌<◌, ◌≤◌, Bool, true, false, not, ◌&&◌, ◌||◌, List, [], ◌∷◌, length, get_or, min, max, ◌==◌, refl, sym, ap, ap₂, ◌∙◌, arith, nat_eq, take, ⊎_elim, slice_index, subst, true≢false, Contains}
use Rattle.std.specs.List.{list_any, list_all}
use Rattle.std.specs.FinSet as sets
use Rattle.std.proofs.lemmas.Bool.{cases_lt, eq-eqb, eqb-true, or_cases, and_from, false_from_ne_true}
use Rattle.std.proofs.lemmas.List.Sums.{AllPass-from_list_all}
use Rattle.std.proofs.lemmas.List.Elements.{Contains-append_right}
use Rattle.rsc_alphabet.specs.BytesLaws.{any_from_to, length-from_to, get_or-from_to}
use Rattle.std.proofs.lemmas.Bool.Decides.{nat_tests}
use Rattle.std.proofs.lemmas.List.{take_more}
use Rattle.std.proofs.lemmas.List.Folds.{list_all-append, list_any-append}
use Rattle.std.proofs.lemmas.Map.Views.{Contains-from_any}
use Rattle.std.proofs.Math.Bool.{and-true, or-false}
use Rattle.rsc_alphabet.proofs.Prelude.{from_to, from_to_none, from_to_last, class_of, class_map, boundaries_of_range, holds, treats_alike, are_alike, are_among, has_boundary, class_of_more, class_of-rises, contains-boundaries_of_range, slice_index-class_map}

all_last : (h : ℕ → Bool) (low high : ℕ) → low ≤ high → list_all h (from_to low (high + 1)) ≡ (list_all h (from_to low high) && h high)
all_last h low high l = ap (list_all h) (from_to_last low high l) ∙ list_all-append h (from_to low high) (high ∷ [])
    ∙ ap (λ b. list_all h (from_to low high) && b) (and-true (h high))

any_last : (h : ℕ → Bool) (low high : ℕ) → low ≤ high → list_any h (from_to low (high + 1)) ≡ (list_any h (from_to low high) || h high)
any_last h low high l = ap (list_any h) (from_to_last low high l) ∙ list_any-append h (from_to low high) (high ∷ [])
    ∙ ap (λ b. list_any h (from_to low high) || b) (or-false (h high))

-- what `treats_alike` says of two bytes in order
alike_up : (ℕ → Bool) → ℕ → ℕ → Bool
alike_up h b c = list_all h (from_to b (c + 1)) || not (list_any h (from_to b (c + 1)))

treats_alike_up : (r : ℕ × ℕ) (b c : ℕ) → b ≤ c → treats_alike r b c ≡ alike_up (holds r) b c
unfolding alike_up
treats_alike_up r b c l = let p : min b c ≡ b = omega arith in let q : max b c ≡ c = omega arith in rw (p, q)

treats_alike_down : (r : ℕ × ℕ) (b c : ℕ) → treats_alike r b c ≡ treats_alike r c b
treats_alike_down r b c = let p : min b c ≡ min c b = omega arith in let q : max b c ≡ max c b = omega arith in rw (p, q)

opened : (h : ℕ → Bool) (b c : ℕ) → b ≤ c → alike_up h b (c + 1) ≡ (alike_up h b c && ((h c && h (c + 1)) || not (h c || h (c + 1))))
unfolding alike_up
opened h b c l =
    rw (all_last h b (c + 1) (omega arith), any_last h b (c + 1) (omega arith), all_last h b c l, any_last h b c l) (grind (arith, nat_tests))

alike_up_same : (h : ℕ → Bool) (b : ℕ) → alike_up h b b ≡ true
unfolding alike_up
alike_up_same h b =
    rw (all_last h b b (omega arith), any_last h b b (omega arith), from_to_none b b (omega arith))
    (elim (h b) as (λ v. (v || not v) ≡ true) [ true ↦ refl | false ↦ refl ])

pair : (h : ℕ → Bool) (c : ℕ) → alike_up h c (c + 1) ≡ ((h c && h (c + 1)) || not (h c || h (c + 1)))
pair h c = opened h c c (omega arith) ∙ rw (alike_up_same h c) refl

are_alike_more : (ranges : List (ℕ × ℕ)) (b c : ℕ) → b ≤ c → are_alike ranges b (c + 1) ≡ (are_alike ranges b c && are_alike ranges c (c + 1))
are_alike_more [] b c l = refl
are_alike_more (r ∷ rs) b c l =
    grind (arith, nat_tests, one, are_alike_more rs b c l)
  where
    one : treats_alike r b (c + 1) ≡ (treats_alike r b c && treats_alike r c (c + 1))
    one =
        treats_alike_up r b (c + 1) (omega arith) ∙ opened (holds r) b c l ∙ ap (λ t. alike_up (holds r) b c && t) (sym (pair (holds r) c))
        ∙ sym (ap₂ (λ t u. t && u) (treats_alike_up r b c l) (treats_alike_up r c (c + 1) (omega arith)))

are_alike_same : (ranges : List (ℕ × ℕ)) (b : ℕ) → are_alike ranges b b ≡ true
are_alike_same [] b = refl
are_alike_same (r ∷ rs) b = rw (treats_alike_up r b b (omega arith), alike_up_same (holds r) b) (are_alike_same rs b)

are_alike_down : (ranges : List (ℕ × ℕ)) (b c : ℕ) → are_alike ranges b c ≡ are_alike ranges c b
are_alike_down [] b c = refl
are_alike_down (r ∷ rs) b c = ap₂ (λ t u. t && u) (treats_alike_down r b c) (are_alike_down rs b c)

-- bytes in order are alike if they have one class
are_alike_up : (ranges : List (ℕ × ℕ)) (b n : ℕ) → are_alike ranges b (b + n) ≡ nat_eq (class_of (has_boundary ranges) (b + n)) (class_of
    (has_boundary ranges) b)
are_alike_up ranges b zero = let e : b + zero ≡ b = omega arith in rw e (are_alike_same ranges b ∙ sym (eq-eqb _ _ refl))
are_alike_up ranges b (suc n) =
    let e : b + suc n ≡ b + n + 1 = omega arith in
    rw (e, class_of_more (has_boundary ranges) (b + n)) (are_alike_more ranges b (b + n) (omega arith)
    ∙ ap (λ t. t && are_alike ranges (b + n) (b + n + 1)) (are_alike_up ranges b n)
    ∙ grind (arith, nat_tests, class_of-rises (has_boundary ranges) b n))

-- bytes are alike if they have one class
pub are_alike_is : (ranges : List (ℕ × ℕ)) (b c : ℕ)
    → are_alike ranges b c ≡ nat_eq (class_of (has_boundary ranges) b) (class_of (has_boundary ranges) c)
are_alike_is ranges b c =
    ⊎_elim
    (λ (l : b < c). let e : b + (c - b) ≡ c = omega arith in
    (rw e at (are_alike_up ranges b (c - b))) ∙ grind (arith, nat_tests))
    (λ (l : c ≤ b). let e : c + (b - c) ≡ b = omega arith in
    are_alike_down ranges b c ∙ (rw e at (are_alike_up ranges c (b - c))))
    (cases_lt b c)

-- bytes have one class exactly if each range treats them alike
pub same_class_is : (ranges : List (ℕ × ℕ)) (classes : List ℕ) (b c : ℕ) → classes ≡ class_map (has_boundary ranges) → b < 256 → c < 256 →
    ((slice_index classes b ≡ slice_index classes c → are_alike ranges b c ≡ true) ×
    (are_alike ranges b c ≡ true → slice_index classes b ≡ slice_index classes c))
same_class_is ranges classes b c is lb lc =
    rw is (rw (slice_index-class_map (has_boundary ranges) b lb, slice_index-class_map (has_boundary ranges) c lc) (
      (λ e. are_alike_is ranges b c ∙ eq-eqb _ _ e),
      (λ t. eqb-true _ _ (sym (are_alike_is ranges b c) ∙ t)),
    ))

-- ---- the boundaries of one range

-- a boundary of a range is where it treats neighbours differently
pub boundary_if_unlike : (r : ℕ × ℕ) (k : ℕ) → r.0 ≤ r.1 → k < 255 → sets.contains (boundaries_of_range r) k ≡ not (treats_alike r k (k + 1))
boundary_if_unlike (s, e) k order within =
    contains-boundaries_of_range s e k ∙ grind (arith, nat_tests) ∙ sym (ap not (treats_alike_up (s, e) k (k + 1) (omega arith) ∙ pair (holds (s, e)) k))

-- one range more
pub has_boundary_more : (ranges : List (ℕ × ℕ)) (i : ℕ) (d : ℕ × ℕ) (k : ℕ) → i < length ranges
    → has_boundary (take (i + 1) ranges) k ≡ (has_boundary (take i ranges) k || not (treats_alike (get_or ranges i d) k (k + 1)))
has_boundary_more ranges i d k l =
    ap (λ rs. has_boundary rs k) (take_more ranges i d l)
    ∙ ap not (list_all-append (λ r. treats_alike r k (k + 1)) (take i ranges) (get_or ranges i d ∷ []))
    ∙ grind (arith, nat_tests)

-- ---- alike bytes are in the same ranges

all_at : (h : ℕ → Bool) (low high k : ℕ) → low ≤ k → k < high → list_all h (from_to low high) ≡ true → h k ≡ true
all_at h low high k l m a =
    let i : k - low < length (from_to low high) = omega (arith, length-from_to low high, l, m) in
    let same : low + (k - low) ≡ k = omega (arith, l) in
    let at : get_or (from_to low high) (k - low) 0 ≡ k = get_or-from_to low high (k - low) 0 (omega (arith, l, m)) ∙ same in
    subst (λ x. h x ≡ true) at (AllPass-from_list_all h (from_to low high) a (k - low) 0 i)

both_or_neither : (h : ℕ → Bool) (low high b c : ℕ) → low ≤ b → b < high → low ≤ c → c < high
    → (list_all h (from_to low high) || not (list_any h (from_to low high))) ≡ true → h b ≡ h c
both_or_neither h low high b c bl bh cl ch t =
    ⊎_elim
    (λ (a : list_all h (from_to low high) ≡ true). all_at h low high b bl bh a ∙ sym (all_at h low high c cl ch a))
    (λ (n : not (list_any h (from_to low high)) ≡ true). fails b bl bh n ∙ sym (fails c cl ch n))
    (or_cases _ _ t)
  where
    fails : (k : ℕ) → low ≤ k → k < high → not (list_any h (from_to low high)) ≡ true → h k ≡ false
    fails k l m n = false_from_ne_true (h k) (λ y. true≢false (sym n ∙ ap not (any_from_to h low high k l m y)))

one_holds : (r : ℕ × ℕ) (b c : ℕ) → treats_alike r b c ≡ true → holds r b ≡ holds r c
one_holds r b c t = both_or_neither (holds r) (min b c) (max b c + 1) b c (omega arith) (omega arith) (omega arith) (omega arith) t

-- each range holds both of two alike bytes, or neither
pub alike_each : (ranges : List (ℕ × ℕ)) (b c : ℕ) → are_alike ranges b c ≡ true → (r : ℕ × ℕ) → Contains ranges r
    → holds r b ≡ holds r c
alike_each ranges b c t r (k, l, e) =
    one_holds r b c (subst (λ x. treats_alike x b c ≡ true) e (AllPass-from_list_all (λ x. treats_alike x b c) ranges t k r l))

same_any : (part : List (ℕ × ℕ)) (b c : ℕ) → ((r : ℕ × ℕ) → Contains part r → holds r b ≡ holds r c)
    → list_any (λ r. holds r b) part ≡ list_any (λ r. holds r c) part
same_any [] b c each = refl
same_any (r ∷ rest) b c each =
    ap₂ (λ x y. x || y) (each r (0, omega arith, refl)) (same_any rest b c (λ q in_rest. each q (Contains-append_right (r ∷ []) rest q in_rest)))

-- and so does a list of some of the ranges
pub alike_some : (ranges part : List (ℕ × ℕ)) (b c : ℕ) → are_alike ranges b c ≡ true
    → ((r : ℕ × ℕ) → Contains part r → Contains ranges r)
    → list_any (λ r. holds r b) part ≡ list_any (λ r. holds r c) part
alike_some ranges part b c t among = same_any part b c (λ r in_part. alike_each ranges b c t r (among r in_part))

same_range : (r q : ℕ × ℕ) → (r.0 == q.0 && r.1 == q.1) ≡ true → r ≡ q
same_range r q t = ap₂ (λ x y. (x, y)) (grind (arith, nat_tests)) (grind (arith, nat_tests))

abbrev is_among : List (ℕ × ℕ) → ℕ × ℕ → Bool
is_among ranges r = list_any (λ q. r.0 == q.0 && r.1 == q.1) ranges

-- which a test says of the list
pub alike_among : (ranges part : List (ℕ × ℕ)) (b c : ℕ) → are_alike ranges b c ≡ true → are_among part ranges ≡ true
    → list_any (λ r. holds r b) part ≡ list_any (λ r. holds r c) part
alike_among ranges part b c t among = alike_some ranges part b c t (λ r in_part. Contains-from_any same_range r ranges (found r in_part))
  where
    found : (r : ℕ × ℕ) → Contains part r → is_among ranges r ≡ true
    found r (k, l, e) = subst (λ x. is_among ranges x ≡ true) e (AllPass-from_list_all (is_among ranges) part among k r l)

-- neighbours that each range holds or leaves out are alike
pub alike_neighbours : (ranges : List (ℕ × ℕ)) (b : ℕ) → ((r : ℕ × ℕ) → Contains ranges r → holds r b ≡ holds r (b + 1))
    → are_alike ranges b (b + 1) ≡ true
alike_neighbours [] b each = refl
alike_neighbours (r ∷ rest) b each =
    and_from (treats_alike r b (b + 1)) (are_alike rest b (b + 1))
    (treats_alike_up r b (b + 1) (omega arith) ∙ pair (holds r) b ∙ grind (arith, nat_tests, each r (0, omega arith, refl)))
    (alike_neighbours rest b (λ q in_rest. each q (Contains-append_right (r ∷ []) rest q in_rest)))
