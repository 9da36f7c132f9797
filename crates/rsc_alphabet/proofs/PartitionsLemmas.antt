-- The boundaries that calls of a class set leave, those of a set's runs and of a range, and the classes between them.
use Rattle.std.proofs.Common.{◌≡◌, ℕ, zero, suc, ◌+◌, ◌-◌, ◌^◌, ◌<◌, ◌≤◌, Bool, true, not, ◌&&◌, ◌||◌, cond, List, length, refl, sym, ap, ◌∙◌, arith, nat_eq, nat_lt, slice_index, nat_cmp, ne_eqb, false, [], ◌∷◌, ap₂, nat_le, ⊎_elim, ◌↔◌, ◌⊎◌, inl, inr, All, Contains}
use Rattle.std.specs.Cmp.{nat_cmp_total}
use Rattle.std.specs.FinSet as sets
use Rattle.std.specs.FinSet.{contains-empty, same_set, nat_cmp-IsAntisymmetric}
use Rattle.std.proofs.lemmas.Bool.Decides.{nat_tests}
use Rattle.rsc_alphabet.proofs.Prelude.{Numbers, has_bit, masked, contains-masked, is_masked-low, is_masked-high, LastClassIsGreatest, class_of, class_map, boundaries_of_range, class_map_is, class_of_more, class_of_none, class_of_same, contains-boundaries_of_range, contains-inserted, contains-joined, contains-removed, begins_run, ends_run, runs, boundaries_of_ranges, is_boundary_of_set, AreTogether, holds, treats_alike, are_alike, has_boundary, same_bools, same_class-together}
use Rattle.std.specs.List.{list_any}
use Rattle.std.proofs.lemmas.Bool.{cases_lt, cases_Bool, cases_eq, eq-eqb}
use Rattle.rsc_alphabet.proofs.ByteSetsLemmas.{for_runs_from, runs_from, parts_no_run, not_after, Contains-first, Contains-later}
use Rattle.std.proofs.lemmas.List.Elements.{All-head, All-tail}
use Rattle.rsc_alphabet.proofs.RangesLemmas.{are_alike_is, boundary_if_unlike}

-- ---- the boundaries that calls of a class set leave, and the end 255, after which there is no byte

-- what `set_range` leaves of the flags: `before` has the boundary before the first byte, if there is one
pub boundaries_set : (ends before : Numbers) (s e : ℕ) → s ≤ e → e < 256
    → ((q : ℕ) → sets.contains before q ≡ ((nat_lt 0 s && nat_eq q (s - 1)) || sets.contains ends q))
    → sets.remove (sets.insert before e) 255 ≡ sets.union (sets.remove ends 255) (boundaries_of_range (s, e))
boundaries_set ends before s e order high first = same_set nat_cmp_total nat_cmp-IsAntisymmetric _ _ (λ q.
    rw (contains-removed, contains-inserted, contains-joined, contains-removed, contains-boundaries_of_range, first q) (grind (arith, nat_tests)))

-- the empty set has no boundary
pub no_boundaries : sets.remove (sets.empty {K = ℕ} {R = nat_cmp}) 255 ≡ sets.empty
no_boundaries = same_set nat_cmp_total nat_cmp-IsAntisymmetric _ _
    (λ q. contains-removed sets.empty 255 q ∙ rw (contains-empty nat_cmp q) (grind (arith, nat_tests)))

-- ---- the end 255, after which there is no byte

inner_boundary : (ends : Numbers) (b : ℕ) → b < 255 → sets.contains ends b ≡ sets.contains (sets.remove ends 255) b
inner_boundary ends b l = sym (contains-removed ends 255 b ∙ rw (ne_eqb b 255 (λ e. omega arith)) refl)

-- without 255 each boundary is below 255
pub boundary_below : (ends : Numbers) → ((b : ℕ) → sets.contains ends b ≡ true → b < 256) → (k : ℕ)
    → sets.contains (sets.remove ends 255) k ≡ true → k < 255
boundary_below ends bytes k is = grind (arith, nat_tests, contains-removed ends 255 k, bytes k)

-- the boundaries of a set to which other bytes were added
pub boundaries_joined : (ends before after : Numbers) (starts lasts : ℕ → Bool)
    → ((b : ℕ) → sets.contains before b ≡ (sets.contains ends b || starts b))
    → ((b : ℕ) → sets.contains after b ≡ (sets.contains before b || lasts b)) →
    ((b : ℕ) → sets.contains after b ≡ true → b < 256) →
    (k : ℕ) → sets.contains (sets.remove after 255) k ≡ (sets.contains (sets.remove ends 255) k || (nat_lt k 255 && (starts k || lasts k)))
boundaries_joined ends before after starts lasts first second bytes k =
    grind (arith, nat_tests, contains-removed after 255 k, contains-removed ends 255 k, first k, second k, bytes k)

-- the boundaries of two sets together
pub ends_joined : (ends others after : Numbers) → ((b : ℕ) → sets.contains after b ≡ (sets.contains ends b || sets.contains others b)) → (k : ℕ)
    → sets.contains (sets.remove after 255) k ≡ (sets.contains (sets.remove ends 255) k || sets.contains (sets.remove others 255) k)
ends_joined ends others after each k =
    grind (arith, nat_tests, contains-removed after 255 k, contains-removed ends 255 k, contains-removed others 255 k, each k)

pub joined_by_boundaries : (old other new : Numbers) → ((k : ℕ) → sets.contains new k ≡ (sets.contains old k || sets.contains other k))
    → new ≡ sets.union old other
joined_by_boundaries old other new each = same_set nat_cmp_total nat_cmp-IsAntisymmetric _ _ (λ k. each k ∙ sym (contains-joined old other k))

-- ---- the classes of two halves

class_of-parts : (p : ℕ → Bool) (a n : ℕ) → class_of p (a + n) ≡ class_of p a + class_of (λ k. p (a + k)) n
class_of-parts p a zero = let e : a + zero ≡ a = omega arith in rw (e, class_of_none (λ k. p (a + k))) (omega arith)
class_of-parts p a (suc n) =
    let e : a + suc n ≡ a + n + 1 = omega arith in
    let f : suc n ≡ n + 1 = omega arith in
    ap (class_of p) e ∙ class_of_more p (a + n) ∙ ap (λ x. x + cond (p (a + n)) 1 0) (class_of-parts p a n)
    ∙ regroup (class_of p a) (class_of (λ k. p (a + k)) n) (cond (p (a + n)) 1 0)
    ∙ sym (ap (λ x. class_of p a + x) (ap (class_of (λ k. p (a + k))) f ∙ class_of_more (λ k. p (a + k)) n))
  where
    regroup : (x y z : ℕ) → x + y + z ≡ x + (y + z)
    regroup x y z = omega arith

-- how many members of a set that two numbers hold are below a byte of the lower half
pub class_of_low : (low high b : ℕ) → high < 2 ^ 128 → b < 128 → class_of (has_bit low) b ≡ class_of (sets.contains (masked low high)) b
class_of_low low high b fits l =
    class_of_same (has_bit low) (sets.contains (masked low high)) b (λ k h.
    sym (contains-masked low high fits k ∙ is_masked-low low high k (omega (arith, h, l))))

-- and how many are below one of the upper half
pub class_of_high : (low high b : ℕ) → high < 2 ^ 128 → 128 ≤ b
    → class_of (has_bit low) 128 + class_of (has_bit high) (b - 128) ≡ class_of (sets.contains (masked low high)) b
class_of_high low high b fits from =
    let s = sets.contains (masked low high) in
    let below = class_of_same (has_bit low) s 128 (λ k h. sym (contains-masked low high fits k ∙ is_masked-low low high k h)) in
    let above = class_of_same (has_bit high) (λ k. s (128 + k)) (b - 128) (λ k h.
    let e : 128 + k - 128 ≡ k = omega arith in
    sym (contains-masked low high fits (128 + k) ∙ is_masked-high low high (128 + k) (omega arith) ∙ ap (has_bit high) e)) in
    let whole : 128 + (b - 128) ≡ b = omega (arith, from) in
    omega (arith, below, above, class_of-parts s 128 (b - 128), ap (class_of s) whole)

-- ---- maps whose classes rise

-- one class for all bytes
pub zeros_rise : (classes : List ℕ) → ((b : ℕ) → b < 256 → slice_index classes b ≡ 0) → LastClassIsGreatest classes
zeros_rise classes none = record { within = λ b l. omega (arith, none b l, none 255 (omega arith)) }

-- a boundary but for the byte 255
abbrev is_inner : Numbers → ℕ → Bool
is_inner ends = sets.contains (sets.remove ends 255)

-- the classes of all bytes, by how many members of the set are below each: the byte 255 is below none
pub map_of_counts : (ends : Numbers) (classes : List ℕ) → length classes ≡ 256
    → ((b : ℕ) → b < 256 → slice_index classes b ≡ class_of (sets.contains ends) b) →
    classes ≡ class_map (is_inner ends)
map_of_counts ends classes long each =
    class_map_is (is_inner ends) classes long (λ b l. each b l
    ∙ class_of_same (sets.contains ends) (is_inner ends) b (λ k h. inner_boundary ends k (omega arith)))

-- ---- the boundaries of a set's maximal runs: they are where membership changes

-- one of a byte and the next is a member
abbrev pub differs : Numbers → ℕ → Bool
differs s k = (sets.contains s k && not (sets.contains s (k + 1))) || (not (sets.contains s k) && sets.contains s (k + 1))

past : (b k : ℕ) (x y : Bool) → 256 ≤ b → (nat_lt k 255 && ((nat_le b k && x) || (nat_eq (k + 1) b && y))) ≡ false
past b k x y l = grind (arith, nat_tests)

skipped : (b k : ℕ) (x y : Bool) → b ≤ 255 → (k ≡ b → x ≡ y)
    → (nat_lt k 255 && ((nat_le (b + 1) k && x) || (nat_eq (k + 1) (b + 1) && y))) ≡ (nat_lt k 255 && ((nat_le b k && x) || (nat_eq (k + 1) b && false)))
skipped b k x y l at = grind (arith, nat_tests)

stepped : (b e k : ℕ) (x y : Bool) → b ≤ e → e < 256 → (b ≤ k → k < e → x ≡ false) → (k ≡ e → e < 255 → x ≡ true)
    → (e < 255 → y ≡ false) →
    (((nat_lt 0 b && nat_eq (b - 1) k) || (nat_lt e 255 && nat_eq e k)) || (nat_lt k 255 && ((nat_le (e + 1) k && x) || (nat_eq (k + 1) (e + 1) && y)))) ≡
    (nat_lt k 255 && ((nat_le b k && x) || (nat_eq (k + 1) b && true)))
stepped b e k x y from fits inner end next = grind (arith, nat_tests)

abbrev pub is_boundary_of_range : ℕ → ℕ × ℕ → Bool
is_boundary_of_range k r = sets.contains (boundaries_of_range r) k

-- from `low` on, the boundaries of the runs are where membership differs, and the run that begins at `low` has its first boundary there
boundaries_from : (s : Numbers) (k n low : ℕ) → 256 ≤ low + n → parts_no_run s low ≡ true →
    list_any (is_boundary_of_range k) (runs_from s low) ≡ (nat_lt k 255 && ((nat_le low k && differs s k) || (nat_eq (k + 1) low && sets.contains s low)))
boundaries_from s k =
    for_runs_from s
    (λ low rs. list_any (is_boundary_of_range k) rs ≡ (nat_lt k 255 && ((nat_le low k && differs s k) || (nat_eq (k + 1) low && sets.contains s low))))
    (λ low h. sym (past low k (differs s k) (sets.contains s low) h))
    (λ low e h clean run rest.
    ap₂ (λ t u. t || u) (contains-boundaries_of_range low e k) rest ∙ stepped low e k (differs s k) (sets.contains s (e + 1)) run.from run.fits
    (λ p q. rw (run.within k p (omega arith), run.within (k + 1) (omega arith) (omega arith)) refl)
    (λ at h. rw at (ends (sets.contains s e) (sets.contains s (e + 1)) e run.last h))
    (λ h. not_after s e run.last h)
    ∙ rw (run.within low (omega arith) run.from) refl)
    (λ low h none rest. rest ∙ skipped low k (differs s k) (sets.contains s (low + 1)) (omega arith) (λ at. rw (at, none) refl) ∙ rw none refl)
  where
    ends : (x y : Bool) (e : ℕ) → (x && (nat_eq e 255 || not y)) ≡ true → e < 255 → ((x && not y) || (not x && y)) ≡ true
    ends x y e is h = grind (arith, nat_tests)

-- a boundary of several ranges is a boundary of one of them
pub contains-boundaries_of_ranges : (ranges : List (ℕ × ℕ)) (k : ℕ)
    → sets.contains (boundaries_of_ranges ranges) k ≡ list_any (is_boundary_of_range k) ranges
contains-boundaries_of_ranges [] k = contains-empty nat_cmp k
contains-boundaries_of_ranges (r ∷ rest) k = contains-joined (boundaries_of_range r) (boundaries_of_ranges rest) k
    ∙ ap (λ b. is_boundary_of_range k r || b) (contains-boundaries_of_ranges rest k)

-- the boundaries of a set's maximal runs are where membership changes
pub boundaries_of_runs_are : (s : Numbers) (k : ℕ) → sets.contains (boundaries_of_ranges (runs s)) k ≡ is_boundary_of_set s k
boundaries_of_runs_are s k =
    contains-boundaries_of_ranges (runs s) k ∙ boundaries_from s k 256 0 (omega arith) (rw (eq-eqb 0 0 refl) refl) ∙ grind (arith, nat_tests)

changing : (k : ℕ) (x y : Bool) → (nat_lt k 255 && ((y && (nat_eq (k + 1) 0 || not x)) || (x && (nat_eq k 255 || not y)))) ≡
    (nat_lt k 255 && ((x && not y) || (not x && y)))
changing k x y = grind (arith, nat_tests)

-- the boundaries before the first bytes of the runs, and after their last ones
pub boundaries_of_ends : (s starts ends : Numbers) → ((b : ℕ) → sets.contains starts b ≡ begins_run s b)
    → ((b : ℕ) → sets.contains ends b ≡ ends_run s b) →
    (k : ℕ) → (nat_lt k 255 && (sets.contains starts (k + 1) || sets.contains ends k)) ≡ is_boundary_of_set s k
boundaries_of_ends s starts ends first last k =
    let e : k + 1 - 1 ≡ k = omega arith in
    rw (first (k + 1), last k, e) (changing k (sets.contains s k) (sets.contains s (k + 1)))

-- what has these boundaries beside the old ones
pub boundaries_added : (s old new : Numbers) → ((k : ℕ) → sets.contains new k ≡ (sets.contains old k || is_boundary_of_set s k))
    → new ≡ sets.union old (boundaries_of_ranges (runs s))
boundaries_added s old new each = same_set nat_cmp_total nat_cmp-IsAntisymmetric _ _
    (λ k. each k ∙ rw (← boundaries_of_runs_are s k) (sym (contains-joined old (boundaries_of_ranges (runs s)) k)))

-- ---- the boundaries of a range, and what they part

boundary_test : (a e k : ℕ) → ((nat_lt 0 a && nat_eq (a - 1) k) || (nat_lt e 255 && nat_eq e k)) ≡ true → (k + 1 ≡ a) ⊎ (k ≡ e)
boundary_test a e k m = ⊎_elim (λ (q : k ≡ e). inr q) (λ (q : k ≡ e → ⊥). inl (low q)) (cases_eq k e)
  where
    low : (k ≡ e → ⊥) → k + 1 ≡ a
    low q = grind (arith, nat_tests)

-- the boundaries of a range are before its first byte and after its last
pub boundary_is : (r : ℕ × ℕ) (k : ℕ) → k < 255 → (sets.contains (boundaries_of_range r) k ≡ true) ↔ ((k + 1 ≡ r.0) ⊎ (k ≡ r.1))
boundary_is r k l = (
  (λ m. boundary_test r.0 r.1 k (sym (contains-boundaries_of_range r.0 r.1 k) ∙ m)),
  (λ q. grind (arith, nat_tests, contains-boundaries_of_range r.0 r.1 k)),
)

moves : (p : ℕ → Bool) (r : ℕ × ℕ) (b c : ℕ) → c < 256
    → ((k : ℕ) → k < 255 → sets.contains (boundaries_of_range r) k ≡ true → p k ≡ true) → AreTogether p b c
    → (r.0 ≤ b) × (b ≤ r.1) → b < 256 → (r.0 ≤ c) × (c ≤ r.1)
moves p r b c small has together within here = (
  ⊎_elim
      (λ (h : c < r.0). absurd (together (r.0 - 1) (omega arith) (omega arith)
      (has (r.0 - 1) (omega arith) ((boundary_is r (r.0 - 1) (omega arith)).1 (inl (omega arith))))))
      (λ (h : r.0 ≤ c). h)
      (cases_lt c r.0),
  ⊎_elim
      (λ (h : r.1 < c). absurd (together r.1 (omega arith) (omega arith) (has r.1 (omega arith) ((boundary_is r r.1 (omega arith)).1 (inr refl)))))
      (λ (h : c ≤ r.1). h)
      (cases_lt r.1 c),
)

to_within : (r : ℕ × ℕ) (b : ℕ) → holds r b ≡ true → (r.0 ≤ b) × (b ≤ r.1)
to_within r b t = (grind (arith, nat_tests), grind (arith, nat_tests))

from_within : (r : ℕ × ℕ) (b : ℕ) → (r.0 ≤ b) × (b ≤ r.1) → holds r b ≡ true
from_within r b w = grind (arith, nat_tests)

AreTogether-sym : (p : ℕ → Bool) (b c : ℕ) → AreTogether p b c → AreTogether p c b
AreTogether-sym p b c t k l u = t k (omega arith) (omega arith)

-- bytes that are together where a partition has these are both in the range or both outside
pub boundaries_together : (p : ℕ → Bool) (r : ℕ × ℕ) (b c : ℕ) → b < 256 → c < 256
    → ((k : ℕ) → k < 255 → sets.contains (boundaries_of_range r) k ≡ true → p k ≡ true)
    → AreTogether p b c → holds r b ≡ holds r c
boundaries_together p r b c l u has t =
    same_bools (holds r b) (holds r c)
    (λ m. from_within r c (moves p r b c u has t (to_within r b m) l))
    (λ m. from_within r b (moves p r c b l has (AreTogether-sym p b c t) (to_within r c m) u))

-- where a list of ranges has a boundary between two neighbours, one of its ranges has a boundary
has_boundary_of_one : (p : ℕ → Bool) (k : ℕ) → k < 255 → (ranges : List (ℕ × ℕ)) → All (λ r. r.0 ≤ r.1) ranges →
    ((r : ℕ × ℕ) → Contains ranges r → sets.contains (boundaries_of_range r) k ≡ true → p k ≡ true) → has_boundary ranges k ≡ true
    → p k ≡ true
has_boundary_of_one p k l [] ordered has apart = cc
has_boundary_of_one p k l (r ∷ rs) ordered has apart =
    ⊎_elim
    (λ (alike : treats_alike r k (k + 1) ≡ true).
    has_boundary_of_one p k l rs (All-tail (λ q. q.0 ≤ q.1) r rs ordered) (λ q c. has q (Contains-later r rs q c))
    (sym (ap (λ b. not (b && are_alike rs k (k + 1))) alike) ∙ apart))
    (λ (other : treats_alike r k (k + 1) ≡ false).
    has r (Contains-first r rs) (boundary_if_unlike r k (All-head (λ q. q.0 ≤ q.1) r rs ordered) l ∙ ap not other))
    (cases_Bool (treats_alike r k (k + 1)))

-- two bytes that are together for a partition with the boundaries of each range are alike for the ranges
pub together_alike : (p : ℕ → Bool) (ranges : List (ℕ × ℕ)) → All (λ r. r.0 ≤ r.1) ranges →
    ((r : ℕ × ℕ) → Contains ranges r → (k : ℕ) → k < 255 → sets.contains (boundaries_of_range r) k ≡ true → p k ≡ true) →
    (b c : ℕ) → b < 256 → c < 256 → AreTogether p b c → are_alike ranges b c ≡ true
together_alike p ranges ordered has b c l u together =
    are_alike_is ranges b c ∙ eq-eqb _ _ ((same_class-together (has_boundary ranges) b c).1 (λ k low high apart.
    let within : k < 255 = omega (arith, low, high, l, u) in
    together k low high (has_boundary_of_one p k within ranges ordered (λ r m e. has r m k within e) apart)))
