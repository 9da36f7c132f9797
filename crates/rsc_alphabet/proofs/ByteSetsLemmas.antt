-- The maximal runs of a set of bytes, one after the other, and its members.
use Rattle.std.proofs.Common.{◌≡◌, ℕ, ◌+◌, ◌-◌, ◌<◌, ◌≤◌, Bool, true, false, not, ◌||◌, List, [], ◌∷◌, ◌++◌, filter, refl, ap, ap₂, ◌∙◌, arith, nat_eq, nat_lt, zip, ne_eqb, ◌≢◌, zero, suc, sym, subst, ⊎_elim, ◌↔◌, ◌⊎◌, inl, inr, cond, length, get_or}
use Rattle.std.specs.FinSet as sets
use Rattle.std.proofs.Math.Bool.{and-false, or-true}
use Rattle.std.proofs.lemmas.Bool.Decides.{nat_tests}
use Rattle.rsc_alphabet.proofs.Prelude.{from_to, from_to_none, filter_none, filter_first, filter_skip, filter_same, filter_parts, filter_at, Numbers, members, runs, begins_run, ends_run, bytes, length-from_to, get_or-from_to, IsMaximalRun}
use Rattle.std.specs.List.{All, Contains, AllAdjacentBelow}
use Rattle.std.proofs.lemmas.Bool.{cases_lt, cases_Bool, cases_eq, eq-eqb, true≢false}
use Rattle.std.specs.List.Sorted.{IsStrictlyIncreasing}
use Rattle.std.proofs.lemmas.List.Elements.{All-contains, All-contains_itself, All-weaker, filter_passes}
use Rattle.std.proofs.lemmas.List.Kept.{IsStrictlyIncreasing-filter}

-- ---- the maximal runs of a set of bytes, one after the other

-- the maximal runs from `low` on
abbrev pub runs_from : Numbers → ℕ → List (ℕ × ℕ)
runs_from s low = zip (filter (begins_run s) (from_to low 256)) (filter (ends_run s) (from_to low 256))

-- `low` isn't inside a run: it is 0, or past the bytes, or it or the byte before it is no member
abbrev pub parts_no_run : Numbers → ℕ → Bool
parts_no_run s low = nat_eq low 0 || (nat_lt 255 low || (not (sets.contains s (low - 1)) || not (sets.contains s low)))

begins : (s : Numbers) (b : ℕ) → b ≤ 255 → parts_no_run s b ≡ true → sets.contains s b ≡ true → begins_run s b ≡ true
begins s b l clean is = grind (arith, nat_tests)

-- a byte after a member begins no run, and one before a member ends none
begins_later : (s : Numbers) (b : ℕ) → 0 < b → sets.contains s (b - 1) ≡ true → begins_run s b ≡ false
begins_later s b l before = rw (before, ne_eqb b 0 (λ e. omega arith)) (and-false (sets.contains s b))

ends_earlier : (s : Numbers) (b : ℕ) → b < 255 → sets.contains s (b + 1) ≡ true → ends_run s b ≡ false
ends_earlier s b l after = rw (after, ne_eqb b 255 (λ e. omega arith)) (and-false (sets.contains s b))

-- the last byte of the run that has b
pub record EndsAt (s : Numbers) (b e : ℕ) : Type 0 where
  pub from : b ≤ e
  pub fits : e < 256
  pub within : (k : ℕ) → b ≤ k → k ≤ e → sets.contains s k ≡ true
  pub last : ends_run s e ≡ true

module _ {s : Numbers} {b e : ℕ} (run : EndsAt s b e) where
  first_bytes : begins_run s b ≡ true → filter (begins_run s) (from_to b 256) ≡ b ∷ filter (begins_run s) (from_to (e + 1) 256)
  first_bytes starts =
      filter_first (begins_run s) b 256 (omega arith) starts
      ∙ ap (λ t. b ∷ t) (filter_parts (begins_run s) (b + 1) (e + 1) 256 (omega arith) (omega arith)
      ∙ ap (λ t. t ++ filter (begins_run s) (from_to (e + 1) 256))
      (filter_none (begins_run s) (b + 1) (e + 1) (λ k l h. begins_later s k (omega arith) (run.within (k - 1) (omega arith) (omega arith)))))

  last_bytes : filter (ends_run s) (from_to b 256) ≡ e ∷ filter (ends_run s) (from_to (e + 1) 256)
  last_bytes =
      filter_at (ends_run s) b e 256 run.from run.fits
      (λ k l h. ends_earlier s k (omega arith) (run.within (k + 1) (omega arith) (omega arith))) run.last

  -- what is left of the runs at a byte: a run, those after it, or nothing
  pub runs_from_first : parts_no_run s b ≡ true → runs_from s b ≡ (b, e) ∷ runs_from s (e + 1)
  runs_from_first clean =
      ap₂ (λ t u. zip t u) (first_bytes (begins s b (omega arith) clean (run.within b (omega arith) run.from))) last_bytes

  -- past a run, no run is parted
  pub parts_no_run-after : parts_no_run s (e + 1) ≡ true
  parts_no_run-after = grind (arith, nat_tests, run.last)

-- a byte that isn't a member begins and ends no run
pub runs_from_skip : (s : Numbers) (b : ℕ) → b ≤ 255 → sets.contains s b ≡ false → runs_from s b ≡ runs_from s (b + 1)
runs_from_skip s b l none =
    ap₂ (λ t u. zip t u) (filter_skip (begins_run s) b 256 (omega arith) (rw none refl)) (filter_skip (ends_run s) b 256 (omega arith) (rw none refl))

-- past the bytes there are no runs
pub runs_from_none : (s : Numbers) (b : ℕ) → 255 < b → runs_from s b ≡ []
runs_from_none s b l = rw (from_to_none b 256 (omega arith)) refl

-- past a byte that isn't a member, no run is parted
pub parts_no_run-skip : (s : Numbers) (b : ℕ) → sets.contains s b ≡ false → parts_no_run s (b + 1) ≡ true
parts_no_run-skip s b none = let e : b + 1 - 1 ≡ b = omega arith in rw (e, none) (grind (arith, nat_tests))

-- the pairs of the first and the last bytes are the runs
pub zip-runs : (s starts ends : Numbers) → ((b : ℕ) → sets.contains starts b ≡ begins_run s b) → ((b : ℕ) → sets.contains ends b ≡ ends_run s b)
    → zip (members starts) (members ends) ≡ runs s
zip-runs s starts ends first last =
    ap₂ (λ t u. zip t u) (filter_same (λ b. sets.contains starts b) (begins_run s) 0 256 (λ k l h. first k))
    (filter_same (λ b. sets.contains ends b) (ends_run s) 0 256 (λ k l h. last k))

-- nothing is paired with nothing
pub zip_none : {A B : Type 0} (xs : List A) (ys : List B) → ys ≡ [] → zip xs ys ≡ []
zip_none [] ys none = refl
zip_none (x ∷ xs) ys none = ap (zip (x ∷ xs)) none

-- ---- what is true of the runs from each index on

alone : (s : Numbers) (b : ℕ) → b ≤ 255 → sets.contains s b ≡ true → ends_run s b ≡ true → EndsAt s b b
alone s b l is last = record {
  from = omega arith;
  fits = omega arith;
  within = λ k p q. let e : k ≡ b = omega arith in rw e is;
  last = last;
}

-- each member is in a run that ends
pub find_end : (s : Numbers) (n b : ℕ) → b ≤ 255 → 255 ≤ b + n → sets.contains s b ≡ true → (e : ℕ) × EndsAt s b e
find_end s zero b l far is = (b, alone s b l is (rw (is, eq-eqb b 255 (omega arith)) refl))
find_end s (suc n) b l far is =
    ⊎_elim
    (λ (h : b < 255). ⊎_elim
    (λ (more : sets.contains s (b + 1) ≡ true).
    let found : (e : ℕ) × EndsAt s (b + 1) e = find_end s n (b + 1) (omega arith) (omega arith) more in (
      found.0,
      record {
        from = omega (arith, found.1.from);
        fits = found.1.fits;
        within = λ k p q. ⊎_elim (λ (e : k ≡ b). rw e is) (λ (ne : k ≢ b). found.1.within k (omega arith) q) (cases_eq k b);
        last = found.1.last;
      },
    ))
    (λ (none : sets.contains s (b + 1) ≡ false). (b, alone s b l is (rw (is, none) (or-true (nat_eq b 255)))))
    (cases_Bool (sets.contains s (b + 1))))
    (λ (h : 255 ≤ b). (b, alone s b l is (rw (is, eq-eqb b 255 (omega arith)) refl)))
    (cases_lt b 255)

-- what is true of no runs past the bytes, of the runs after one that begins here and so with it, and of the runs after a byte that is no
-- member and so of the same runs, is true of the runs from each index on
pub for_runs_from : (s : Numbers) (P : ℕ → List (ℕ × ℕ) → Type 0) → ((low : ℕ) → 256 ≤ low → P low [])
    → ((low e : ℕ) → low < 256 → parts_no_run s low ≡ true → EndsAt s low e → P (e + 1) (runs_from s (e + 1))
    → P low ((low, e) ∷ runs_from s (e + 1)))
    → ((low : ℕ) → low < 256 → sets.contains s low ≡ false → P (low + 1) (runs_from s (low + 1)) → P low (runs_from s (low + 1)))
    → (n low : ℕ) → 256 ≤ low + n
    → parts_no_run s low ≡ true → P low (runs_from s low)
for_runs_from s P none first skipped zero low far clean = subst (P low) (sym (runs_from_none s low (omega arith))) (none low (omega arith))
for_runs_from s P none first skipped (suc n) low far clean =
    ⊎_elim
    (λ (h : low < 256). ⊎_elim
    (λ (is : sets.contains s low ≡ true).
    let found : (e : ℕ) × EndsAt s low e = find_end s 256 low (omega arith) (omega arith) is in
    let e = found.0 in
    let run = found.1 in
    subst (P low) (sym (runs_from_first run clean)) (first low e h clean run
    (for_runs_from s P none first skipped n (e + 1) (omega (arith, run.from)) (parts_no_run-after run))))
    (λ (no : sets.contains s low ≡ false).
    subst (P low) (sym (runs_from_skip s low (omega arith) no))
    (skipped low h no (for_runs_from s P none first skipped n (low + 1) (omega arith) (parts_no_run-skip s low no))))
    (cases_Bool (sets.contains s low)))
    (λ (h : 256 ≤ low). subst (P low) (sym (runs_from_none s low (omega arith))) (none low h))
    (cases_lt low 256)

-- ---- lists

-- what a list contains, by its first element
pub Contains-first : {X : Type 0} (x : X) (xs : List X) → Contains (x ∷ xs) x
Contains-first x xs = (0, omega arith, refl)

-- what the rest contains
pub Contains-later : {X : Type 0} (x : X) (xs : List X) (q : X) → Contains xs q → Contains (x ∷ xs) q
Contains-later x xs q (k, l, e) = (suc k, omega (arith, l), e)

-- it is the first element, or the rest contains it
pub Contains-cases : {X : Type 0} (x : X) (xs : List X) (q : X) → Contains (x ∷ xs) q → (x ≡ q) ⊎ Contains xs q
Contains-cases x xs q (zero, l, e) = inl e
Contains-cases x xs q (suc k, l, e) = inr (k, omega (arith, l), e)

-- the empty list contains nothing
pub Contains-none : {X : Type 0} (q : X) → Contains [] q → ⊥
Contains-none q (k, l, e) = omega (arith, l)

-- an element that passes a filter stays
pub Contains-filter : {X : Type 0} (p : X → Bool) (xs : List X) (q : X) → p q ≡ true → Contains xs q → Contains (filter p xs) q
Contains-filter p [] q is c = c
Contains-filter {X} p (x ∷ xs) q is c =
    ⊎_elim
    (λ (e : x ≡ q). let here : p x ≡ true = ap p e ∙ is in
    rw here (subst (λ y. Contains (x ∷ filter p xs) y) e (Contains-first x (filter p xs))))
    (λ (later : Contains xs q). elim (p x) as (λ (v : Bool). Contains (cond v (x ∷ filter p xs) (filter p xs)) q) [
      | true ↦ Contains-later x (filter p xs) q (Contains-filter p xs q is later)
      | false ↦ Contains-filter p xs q is later
    ])
    (Contains-cases x xs q c)

-- ---- members

-- the list of members has members alone
pub members_contained : (s : Numbers) → All (λ b. sets.contains s b ≡ true) (members s)
members_contained s = filter_passes (λ b. sets.contains s b) bytes

-- each byte is listed
pub all_bytes : (b : ℕ) → b < 256 → Contains bytes b
all_bytes b l = (b, rw (length-from_to 0 256) (omega (arith, l)), get_or-from_to 0 256 b b (omega (arith, l)) ∙ omega arith)

-- the list of members contains exactly the bytes of the set
pub members_exactly : (s : Numbers) (b : ℕ) → b < 256 → Contains (members s) b ↔ (sets.contains s b ≡ true)
members_exactly s b l = (
  All-contains (λ k. sets.contains s k ≡ true) (members s) b (members_contained s),
  λ is. Contains-filter (λ k. sets.contains s k) bytes b is (all_bytes b l),
)

-- the members are listed ascending
pub members_ascending : (s : Numbers) → IsStrictlyIncreasing (members s)
members_ascending s =
    IsStrictlyIncreasing-filter (λ b. sets.contains s b) bytes (λ k l.
    let low : k + 1 < 256 = rw (length-from_to 0 256) at l in
    let here : get_or bytes k 0 ≡ 0 + k = get_or-from_to 0 256 k 0 (omega (arith, low)) in
    let next : get_or bytes (k + 1) 0 ≡ 0 + (k + 1) = get_or-from_to 0 256 (k + 1) 0 (omega (arith, low)) in
    omega (arith, here, next))

-- ---- runs

not_before : (s : Numbers) (low : ℕ) → parts_no_run s low ≡ true → sets.contains s low ≡ true → low < 256 → (b : ℕ) → b + 1 ≡ low
    → sets.contains s b ≡ false
not_before s low clean is l b e = let at : low - 1 ≡ b = omega (arith, e) in grind (arith, nat_tests, rw at at clean)

-- the byte after the end of a run is no member
pub not_after : (s : Numbers) (e : ℕ) → ends_run s e ≡ true → e < 255 → sets.contains s (e + 1) ≡ false
not_after s e last l = grind (arith, nat_tests)

maximal : (s : Numbers) (low e : ℕ) → low < 256 → parts_no_run s low ≡ true → EndsAt s low e → IsMaximalRun s (low, e)
maximal s low e l clean run = record {
  ordered = run.from;
  fits = run.fits;
  members = run.within;
  before = not_before s low clean (run.within low (omega arith) run.from) l;
  after = not_after s e run.last;
}

runs_are_maximal : (s : Numbers) (n low : ℕ) → 256 ≤ low + n → parts_no_run s low ≡ true → (r : ℕ × ℕ) → Contains (runs_from s low) r
    → IsMaximalRun s r × (low ≤ r.0)
runs_are_maximal s =
    for_runs_from s (λ low rs. (r : ℕ × ℕ) → Contains rs r → IsMaximalRun s r × (low ≤ r.0))
    (λ low h r c. absurd (Contains-none r c))
    (λ low e h clean run rest r c. ⊎_elim
    (λ (same : (low, e) ≡ r). subst (λ q. IsMaximalRun s q × (low ≤ q.0)) same (maximal s low e h clean run, omega arith))
    (λ (later : Contains (runs_from s (e + 1)) r). let m = rest r later in (m.0, omega (arith, run.from, m.1)))
    (Contains-cases (low, e) (runs_from s (e + 1)) r c))
    (λ low h none rest r c. let m = rest r c in (m.0, omega (arith, m.1)))

-- a maximal run that begins where e ends a run ends there too
same_end : (s : Numbers) (low e : ℕ) → EndsAt s low e → (r : ℕ × ℕ) → IsMaximalRun s r → r.0 ≡ low → r.1 ≡ e
same_end s low e run r m first =
    ⊎_elim
    (λ (h : r.1 < e). absurd (true≢false (sym (run.within (r.1 + 1) (omega (arith, m.ordered, first)) (omega (arith, h)))
    ∙ m.after (omega (arith, h, run.fits)))))
    (λ (h : e ≤ r.1). ⊎_elim
    (λ (past : e < r.1). absurd (true≢false (sym (m.members (e + 1) (omega (arith, first, run.from)) (omega (arith, past)))
    ∙ not_after s e run.last (omega (arith, past, m.fits)))))
    (λ (l : r.1 ≤ e). omega (arith, h, l))
    (cases_lt e r.1))
    (cases_lt r.1 e)

maximal_are_runs : (s : Numbers) (n low : ℕ) → 256 ≤ low + n → parts_no_run s low ≡ true → (r : ℕ × ℕ) → IsMaximalRun s r → low ≤ r.0
    → Contains (runs_from s low) r
maximal_are_runs s =
    for_runs_from s (λ low rs. (r : ℕ × ℕ) → IsMaximalRun s r → low ≤ r.0 → Contains rs r)
    (λ low h r m from. absurd (omega (arith, m.ordered, m.fits, from, h)))
    (λ low e h clean run rest r m from. ⊎_elim
    (λ (first : r.0 ≡ low).
    let last : r.1 ≡ e = same_end s low e run r m first in
    let same : (low, e) ≡ r = ap₂ (λ (x y : ℕ). (x, y)) (sym first) (sym last) in
    subst (λ q. Contains ((low, e) ∷ runs_from s (e + 1)) q) same (Contains-first (low, e) (runs_from s (e + 1))))
    (λ (other : r.0 ≢ low).
    let past : e < r.0 = ⊎_elim (λ (l : e < r.0). l) (λ (l : r.0 ≤ e). absurd
    (true≢false (sym (run.within (r.0 - 1) (omega (arith, other, from)) (omega (arith, l))) ∙ m.before (r.0 - 1) (omega (arith, other, from)))))
    (cases_lt e r.0) in
    Contains-later (low, e) (runs_from s (e + 1)) r (rest r m (omega (arith, past))))
    (cases_eq r.0 low))
    (λ low h none rest r m from.
    let other : r.0 ≢ low = λ e. true≢false (sym (m.members low (omega (arith, e)) (omega (arith, e, m.ordered))) ∙ none) in
    rest r m (omega (arith, other, from)))

clean_start : (s : Numbers) → parts_no_run s 0 ≡ true
clean_start s = rw (eq-eqb 0 0 refl) refl

-- the list of runs contains exactly the maximal runs
pub runs_exactly : (s : Numbers) (r : ℕ × ℕ) → Contains (runs s) r ↔ IsMaximalRun s r
runs_exactly s r = (
  (λ c. (runs_are_maximal s 256 0 (omega arith) (clean_start s) r c).0),
  (λ m. maximal_are_runs s 256 0 (omega arith) (clean_start s) r m (omega arith)),
)

-- each run ends at or after its first byte
pub runs_ordered : (s : Numbers) → All (λ r. r.0 ≤ r.1) (runs s)
runs_ordered s = All-weaker (Contains (runs s)) (λ r. r.0 ≤ r.1) (λ r c. ((runs_exactly s r).0 c).ordered) (runs s) (All-contains_itself (runs s))

-- each run ends two bytes or more before the next
abbrev Apart : ℕ × ℕ → ℕ × ℕ → Type 0
Apart r q = r.1 + 1 < q.0

apart_first : (r : ℕ × ℕ) (rs : List (ℕ × ℕ)) → ((q : ℕ × ℕ) → Contains rs q → Apart r q) → AllAdjacentBelow Apart rs (length rs)
    → AllAdjacentBelow Apart (r ∷ rs) (length (r ∷ rs))
apart_first r [] first rest k d l = absurd (omega (arith, l))
apart_first r (q ∷ rs) first rest zero d l = first q (Contains-first q rs)
apart_first r (q ∷ rs) first rest (suc k) d l = let e : suc k + 1 ≡ suc (k + 1) = omega arith in rw e (rest k d (omega (arith, l)))

apart_from : (s : Numbers) (n low : ℕ) → 256 ≤ low + n → parts_no_run s low ≡ true
    → AllAdjacentBelow Apart (runs_from s low) (length (runs_from s low))
apart_from s =
    for_runs_from s (λ low rs. AllAdjacentBelow Apart rs (length rs))
    (λ low h k d l. absurd (omega (arith, l)))
    (λ low e h clean run rest. apart_first (low, e) (runs_from s (e + 1))
    (λ q c.
    let later = runs_are_maximal s 256 (e + 1) (omega arith) (parts_no_run-after run) q c in
    let other : q.0 ≢ e + 1 = λ at. true≢false (sym (run.within e run.from (omega arith)) ∙ later.0.before e (sym at)) in
    omega (arith, other, later.1))
    rest)
    (λ low h none rest. rest)

-- between a run and the next there is a byte
pub runs_apart : (s : Numbers) → AllAdjacentBelow (λ r q. r.1 + 1 < q.0) (runs s) (length (runs s))
runs_apart s = apart_from s 256 0 (omega arith) (clean_start s)
