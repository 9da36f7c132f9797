-- Boundaries, classes and ranges.
use Rattle.std.proofs.Common.{◌≡◌, ◌↔◌, ◌⊎◌, ⊎_elim, ℕ, zero, suc, ◌+◌, ◌-◌, ◌<◌, ◌≤◌, Bool, true, false, not, ◌&&◌, ◌||◌, cond, List, [], ◌∷◌, ◌++◌, length, refl, sym, ap, ◌∙◌, arith, nat_eq, nat_lt, ap₂, count_by, slice_index}
use Rattle.std.specs.List.{list_any}
use Rattle.std.specs.Ordering.{nat_cmp}
use Rattle.std.specs.Cmp.{nat_cmp_total, unsigned_tied}
use Rattle.std.specs.FinSet as sets
use Rattle.std.specs.FinSet.{contains-from_list_nat, contains-insert, contains-remove, contains-union, contains-empty, same_set, nat_cmp-IsAntisymmetric}
use Rattle.std.proofs.lemmas.Bool.{cases_lt, false_from_ne_true}
use Rattle.std.proofs.lemmas.Bool.Decides.{nat_tests}
use Rattle.std.proofs.lemmas.List.Sums.{count_by-le-length, sum_by-append}
use Rattle.std.proofs.lemmas.List.FromFn.{fill_by_all, length-map-range_with_len, get_or-map-range_with_len}
use Rattle.std.proofs.Math.Bool.{or-false, or_assoc}
use Rattle.rsc_alphabet.specs.Bytes.{from_to}
use Rattle.rsc_alphabet.specs.BytesLaws.{from_to_none, from_to_last, length-from_to}
use Rattle.rsc_alphabet.specs.ByteSets.{Numbers}
use Rattle.rsc_alphabet.specs.Partitions.{LastClassIsGreatest, AreTogether, class_of, class_map, boundaries_of_range}

-- ---- sets of numbers

pub contains-inserted : (s : Numbers) (k q : ℕ) → sets.contains (sets.insert s k) q ≡ (nat_eq q k || sets.contains s q)
contains-inserted s k q = contains-insert nat_cmp_total s k q ∙ ap (λ b. b || sets.contains s q) (unsigned_tied q k)

pub contains-removed : (s : Numbers) (k q : ℕ) → sets.contains (sets.remove s k) q ≡ (not (nat_eq q k) && sets.contains s q)
contains-removed s k q = contains-remove nat_cmp_total s k q ∙ ap (λ b. not b && sets.contains s q) (unsigned_tied q k)

pub contains-joined : (s t : Numbers) (q : ℕ) → sets.contains (sets.union s t) q ≡ (sets.contains s q || sets.contains t q)
contains-joined s t q = contains-union nat_cmp_total s t q

pub union_none : (s : Numbers) → sets.union s sets.empty ≡ s
union_none s = same_set nat_cmp_total nat_cmp-IsAntisymmetric _ _ (λ q.
    contains-joined s sets.empty q ∙ ap (λ b. sets.contains s q || b) (contains-empty nat_cmp q) ∙ or-false (sets.contains s q))

pub union_assoc : (s t u : Numbers) → sets.union (sets.union s t) u ≡ sets.union s (sets.union t u)
union_assoc s t u = same_set nat_cmp_total nat_cmp-IsAntisymmetric _ _ (λ q.
    contains-joined (sets.union s t) u q ∙ ap (λ b. b || sets.contains u q) (contains-joined s t q)
    ∙ or_assoc (sets.contains s q) (sets.contains t q) (sets.contains u q)
    ∙ sym (contains-joined s (sets.union t u) q ∙ ap (λ b. sets.contains s q || b) (contains-joined t u q)))

-- ---- the boundaries of a range

pub contains-boundaries_of_range : (s e q : ℕ) → sets.contains (boundaries_of_range (s, e)) q ≡
    ((nat_lt 0 s && nat_eq (s - 1) q) || (nat_lt e 255 && nat_eq e q))
contains-boundaries_of_range s e q =
    contains-from_list_nat _ q ∙ by_cases (nat_lt 0 s) (nat_lt e 255)
  where
    by_cases : (u v : Bool) → list_any (λ y. nat_eq y q) (cond u ((s - 1) ∷ []) [] ++ cond v (e ∷ []) []) ≡
        ((u && nat_eq (s - 1) q) || (v && nat_eq e q))
    by_cases true true = ap (λ b. nat_eq (s - 1) q || b) (or-false (nat_eq e q))
    by_cases true false = refl
    by_cases false true = or-false (nat_eq e q)
    by_cases false false = refl

-- the boundary before the first byte, and the one after the last
pub contains-boundaries : (s e k : ℕ) → sets.contains (boundaries_of_range (s, e)) k ≡ (nat_eq (k + 1) s || (nat_eq k e && nat_lt e 255))
contains-boundaries s e k = contains-boundaries_of_range s e k ∙ grind (arith, nat_tests)

-- what is a boundary after those of a range were added
pub c-range : (old : Numbers) (s e k : ℕ) → sets.contains (sets.union old (boundaries_of_range (s, e))) k ≡
    (sets.contains old k || (nat_eq (k + 1) s || (nat_eq k e && nat_lt e 255)))
c-range old s e k = contains-joined old (boundaries_of_range (s, e)) k ∙ ap (λ b. sets.contains old k || b) (contains-boundaries s e k)

-- ---- classes

pub class_of_more : (p : ℕ → Bool) (b : ℕ) → class_of p (b + 1) ≡ class_of p b + cond (p b) 1 0
class_of_more p b =
    ap (count_by p) (from_to_last 0 b (omega arith)) ∙ sum_by-append _ (from_to 0 b) (b ∷ []) ∙ omega arith

pub class_of_none : (p : ℕ → Bool) → class_of p 0 ≡ 0
class_of_none p = ap (count_by p) (from_to_none 0 0 (omega arith))

pub class_of-le : (p : ℕ → Bool) (b : ℕ) → class_of p b ≤ b
class_of-le p b = omega (arith, count_by-le-length p (from_to 0 b), length-from_to 0 b)

-- classes depend on the boundaries alone
pub class_of_same : (p q : ℕ → Bool) (b : ℕ) → ((k : ℕ) → k < b → p k ≡ q k) → class_of p b ≡ class_of q b
class_of_same p q zero same = class_of_none p ∙ sym (class_of_none q)
class_of_same p q (suc b) same =
    let e : suc b ≡ b + 1 = omega arith in
    rw e (class_of_more p b ∙ ap₂ (λ x t. x + cond t 1 0) (class_of_same p q b (λ k h. same k (omega arith))) (same b (omega arith))
    ∙ sym (class_of_more q b))

pub class_map_is : (p : ℕ → Bool) (classes : List ℕ) → length classes ≡ 256 → ((k : ℕ) → k < 256 → slice_index classes k ≡ class_of p k)
    → classes ≡ class_map p
unfolding from_to
class_map_is p classes long each = fill_by_all (class_of p) classes 256 0 long each

pub slice_index-class_map : (p : ℕ → Bool) (b : ℕ) → b < 256 → slice_index (class_map p) b ≡ class_of p b
unfolding from_to
slice_index-class_map p b h = get_or-map-range_with_len (class_of p) 0 256 b b 0 h (omega arith)

pub length-class_map : (p : ℕ → Bool) → length (class_map p) ≡ 256
unfolding from_to
length-class_map p = length-map-range_with_len (class_of p) 0 256

pub class_map_same : (p q : ℕ → Bool) → ((k : ℕ) → k < 255 → p k ≡ q k) → class_map p ≡ class_map q
class_map_same p q same =
    class_map_is q (class_map p) (length-class_map p) (λ k h. slice_index-class_map p k h ∙ class_of_same p q k (λ j l. same j (omega arith)))

-- classes rise from byte to byte
pub class_of-rises : (p : ℕ → Bool) (b n : ℕ) → class_of p b ≤ class_of p (b + n)
class_of-rises p b zero = let e : b + zero ≡ b = omega arith in rw e (omega arith)
class_of-rises p b (suc n) = let e : b + suc n ≡ b + n + 1 = omega arith in rw e (omega (arith, class_of-rises p b n, class_of_more p (b + n)))

-- ---- bytes are together exactly if they have one class

pub class_of-between : (p : ℕ → Bool) (b n : ℕ) → ((k : ℕ) → b ≤ k → k < b + n → ¬ (p k ≡ true)) → class_of p (b + n) ≡ class_of p b
class_of-between p b zero none = let e : b + zero ≡ b = omega arith in rw e
class_of-between p b (suc n) none =
    let e : b + suc n ≡ b + n + 1 = omega arith in
    let here : p (b + n) ≡ false = false_from_ne_true (p (b + n)) (none (b + n) (omega arith) (omega arith)) in
    rw (e, class_of_more p (b + n), here) (let z : class_of p (b + n) + 0 ≡ class_of p (b + n) = omega arith in
    rw z (class_of-between p b n (λ k l h. none k l (omega arith))))

class_of-past : (p : ℕ → Bool) (b k c : ℕ) → b ≤ k → k < c → p k ≡ true → class_of p b < class_of p c
class_of-past p b k c l h is =
    let e : b + (k - b) ≡ k = omega arith in
    let f : k + 1 + (c - (k + 1)) ≡ c = omega arith in
    let before : class_of p b ≤ class_of p k = rw e at (class_of-rises p b (k - b)) in
    let at_k : class_of p (k + 1) ≡ class_of p k + 1 = class_of_more p k ∙ rw is refl in
    let after : class_of p (k + 1) ≤ class_of p c = rw f at (class_of-rises p (k + 1) (c - (k + 1))) in
    omega arith

pub same_class-up : (p : ℕ → Bool) (b c : ℕ) → b ≤ c → (class_of p b ≡ class_of p c) ↔ AreTogether p b c
same_class-up p b c l = (
  (λ same k low high is. let past : class_of p b < class_of p c = class_of-past p b k c (omega arith) (omega arith) is in omega arith),
  (λ together. let e : b + (c - b) ≡ c = omega arith in
      sym (rw e at (class_of-between p b (c - b) (λ k low high. together k (omega arith) (omega arith))))),
)

pub same_class-together : (p : ℕ → Bool) (b c : ℕ) → (class_of p b ≡ class_of p c) ↔ AreTogether p b c
same_class-together p b c =
    ⊎_elim
    (λ (l : b < c). same_class-up p b c (omega arith))
    (λ (l : c ≤ b). (
      (λ same k low high. (same_class-up p c b l).0 (sym same) k (omega arith) (omega arith)),
      (λ together. sym ((same_class-up p c b l).1 (λ k low high. together k (omega arith) (omega arith)))),
    ))
    (cases_lt b c)

-- two bytes have one class of a class map exactly if they are together
pub class_map-together : (p : ℕ → Bool) (b c : ℕ) → b < 256 → c < 256 → (slice_index (class_map p) b ≡ slice_index (class_map p) c)
    ↔ AreTogether p b c
class_map-together p b c lb lc = rw (slice_index-class_map p b lb, slice_index-class_map p c lc) (same_class-together p b c)

-- ---- classes start at 0 and rise by at most 1, so each number up to the last class is one

pub first_class : (p : ℕ → Bool) → slice_index (class_map p) 0 ≡ 0
first_class p = slice_index-class_map p 0 (omega arith) ∙ class_of_none p

pub next_class : (p : ℕ → Bool) (b : ℕ) → b < 255 →
    (slice_index (class_map p) (b + 1) ≡ slice_index (class_map p) b) ⊎ (slice_index (class_map p) (b + 1) ≡ slice_index (class_map p) b + 1)
next_class p b l =
    rw (slice_index-class_map p b (omega arith), slice_index-class_map p (b + 1) (omega arith), class_of_more p b) (grind (arith, nat_tests))

pub class_map-rises : (p : ℕ → Bool) (b c : ℕ) → b ≤ c → c < 256 → slice_index (class_map p) b ≤ slice_index (class_map p) c
class_map-rises p b c l h =
    let e : b + (c - b) ≡ c = omega arith in
    rw (slice_index-class_map p b (omega arith), slice_index-class_map p c h) (rw e at (class_of-rises p b (c - b)))

pub class_within : (p : ℕ → Bool) (b : ℕ) → b < 256 → slice_index (class_map p) b ≤ slice_index (class_map p) 255
class_within p b l = class_map-rises p b 255 (omega arith) (omega arith)

pub class_map-bounded : (p : ℕ → Bool) → LastClassIsGreatest (class_map p)
class_map-bounded p = record { within = class_within p }

class_of_reached : (p : ℕ → Bool) (n c : ℕ) → c ≤ class_of p n → (b : ℕ) × ((b ≤ n) × (class_of p b ≡ c))
class_of_reached p zero c l = (0, (omega arith, omega (arith, class_of_none p)))
class_of_reached p (suc n) c l =
    let e : suc n ≡ n + 1 = omega arith in
    ⊎_elim
    (λ (h : class_of p n < c).
    let here : class_of p (n + 1) ≡ c = grind (arith, nat_tests, class_of_more p n, rw e at l) in
    (n + 1, (omega arith, here)))
    (λ (h : c ≤ class_of p n). let found = class_of_reached p n c h in (found.0, (omega (arith, found.1.0), found.1.1)))
    (cases_lt (class_of p n) c)

pub class_reached : (p : ℕ → Bool) (c : ℕ) → c ≤ slice_index (class_map p) 255 → (b : ℕ) × ((b < 256) × (slice_index (class_map p) b ≡ c))
class_reached p c l =
    let found = class_of_reached p 255 c (rw (slice_index-class_map p 255 (omega arith)) at l) in
    let low : found.0 < 256 = omega (arith, found.1.0) in
    (found.0, (low, slice_index-class_map p found.0 low ∙ found.1.1))
