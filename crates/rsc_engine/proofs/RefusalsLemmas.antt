-- Why there is no program.
use Rattle.std.proofs.Common.{◌||◌, ◌≡◌, ℕ, zero, suc, ◌+◌, ◌*◌, ◌<◌, ◌≤◌, ◌⊎◌, nat_eq, nat_lt, inl, inr, ⊎_elim, Bool, true, false, cond, List, [], ◌∷◌, map, take, length, Option, Some, None, Result, Ok, Err, IfOk, OnOk, refl, subst, ap, arith}
use Rattle.std.proofs.lemmas.Bool.{cases_lt}
use Rattle.std.proofs.lemmas.Bool.Decides.{nat_tests}
use Rattle.std.proofs.lemmas.List.{get_or_past, length-map}
use Rattle.std.proofs.lemmas.List.Sums.{sum_by-cons}
use Rattle.rsc_primitives.specs.Indices.{max_index}
use Rattle.rsc_captures.specs.Groups.{GroupLists, Groups, groups_of, group_count, name_of, stands_before, explicit_before, explicit_groups, all_group_count}
use Rattle.rsc_captures.specs.Faults.{Fault, TooManyPatterns, MissingGroups, FirstMustBeUnnamed, TooManyGroups, Duplicate, pattern_fault, name_fault, explicit_fault, group_fault, IsChecked, IsFirstFault, IsRefusal}
use Rattle.rsc_engine.specs.declared.error.Error.{Error}
use Rattle.rsc_engine.specs.declared.error.Error.TheVariants as error
use Rattle.rsc_engine.specs.Patterns.{Pattern}
use Rattle.rsc_engine.specs.Sizes.{size_of_program}
use Rattle.rsc_engine.specs.Parts.{groups_of_part, groups_as_pattern}
use Rattle.rsc_engine.specs.declared.builder.part.Part.{Part}
use Rattle.rsc_engine.specs.Refusals.{RepeatsName, are_too_large, error_of}

-- what holds for a result that is built
pub built-weaker : {X E : Type 0} (r : Result X E) (P Q : X → Type 0) → ((x : X) → P x → Q x) → IfOk r P → IfOk r Q
built-weaker (Ok x) P Q f y = f x y
built-weaker (Err e) P Q f y = y

-- the same with what holds besides
pub built-with : {X E : Type 0} (r : Result X E) (P : X → Type 0) (S : Type 0) (Q : X → Type 0) → ((x : X) → P x → S → Q x) → IfOk r P
    → OnOk r S
    → IfOk r Q
built-with (Ok x) P S Q f y s = f x y s
built-with (Err e) P S Q f y s = y

-- ---- a name twice

-- the fault of a name is that a lesser group has it
name_repeats : (groups : Groups) (p g : ℕ) (o : Option (List ℕ)) (q : ℕ) (name : List ℕ) → name_fault groups p g o ≡ Some (Duplicate q name)
    → (o ≡ Some name) × (stands_before groups g name ≡ true)
name_repeats groups p g None q name e = absurd (cc)
name_repeats groups p g (Some other) q name e = decide (stands_before groups g other) refl e
  where
    decide : (t : Bool) → stands_before groups g other ≡ t → cond t (Some (Duplicate p other)) None ≡ Some (Duplicate q name)
        → (Some other ≡ Some name) × (stands_before groups g name ≡ true)
    decide true is f = let same : other ≡ name = cc in (cc, subst (λ (n : List ℕ). stands_before groups g n ≡ true) same is)
    decide false is f = absurd (cc)

explicit_repeats : (limit : ℕ) (lists : GroupLists) (p g q : ℕ) (name : List ℕ) → explicit_fault limit lists p g ≡ Some (Duplicate q name)
    → RepeatsName lists
explicit_repeats limit lists p g q name e = decide (nat_lt limit (2 * (explicit_before lists p + g))) e
  where
    decide : (t : Bool) → cond t (Some (TooManyGroups p g)) (name_fault (groups_of lists p) p g (name_of lists p g)) ≡ Some (Duplicate q name)
        → RepeatsName lists
    decide true f = absurd (cc)
    decide false f =
        let both = name_repeats (groups_of lists p) p g (name_of lists p g) q name f in
        record { pattern = p; group = g; name = name; is_name = both.0; lesser = both.1 }

-- the fault of a pattern isn't that of a name
pattern_apart : (a b c : Bool) (p q : ℕ) (name : List ℕ)
    → cond a (Some (TooManyPatterns p)) (cond b (Some (MissingGroups p)) (cond c (Some (FirstMustBeUnnamed p)) None)) ≡ Some (Duplicate q name) → ⊥
pattern_apart true b c p q name e = cc
pattern_apart false true c p q name e = cc
pattern_apart false false true p q name e = cc
pattern_apart false false false p q name e = cc

group_repeats : (limit : ℕ) (lists : GroupLists) (p g q : ℕ) (name : List ℕ) → group_fault limit lists p g ≡ Some (Duplicate q name)
    → RepeatsName lists
group_repeats limit lists p zero q name e = absurd (pattern_apart _ _ _ p q name e)
group_repeats limit lists p (suc g) q name e =
    let later : nat_eq (suc g) 0 ≡ false = grind (arith, nat_tests) in explicit_repeats limit lists p (suc g) q name (rw later at e)

first_repeats : (limit : ℕ) (lists : GroupLists) (q : ℕ) (name : List ℕ) → IsFirstFault limit lists (Duplicate q name) → RepeatsName lists
first_repeats limit lists q name (inl f) = group_repeats limit lists f.p f.g q name f.fault
first_repeats limit lists q name (inr f) = absurd (let e = f.fault in cc)

-- ---- of groups for which there are slots each fault is of a name

all-more : (part : Part) (rest : List Part)
    → all_group_count (map groups_as_pattern (part ∷ rest)) ≡ length (groups_as_pattern part) + all_group_count (map groups_as_pattern rest)
all-more part rest = sum_by-cons (length {A = Option (List ℕ)}) (groups_as_pattern part) (map groups_as_pattern rest)

-- the groups of the patterns before p but their first ones, and a first group for each pattern
before-all : (parts : List Part) (p : ℕ) → explicit_before (map groups_as_pattern parts) p + length parts ≤ all_group_count (map groups_as_pattern parts)
before-all [] zero = omega arith
before-all [] (suc p) = omega arith
before-all (part ∷ rest) zero = omega (arith, before-all rest 0, all-more part rest)
before-all (part ∷ rest) (suc p) = omega (
  arith,
  before-all rest p,
  all-more part rest,
  sum_by-cons explicit_groups (groups_as_pattern part) (take p (map groups_as_pattern rest)),
)

-- the same with a group of p and those before it
group-all : (parts : List Part) (p g : ℕ) → g < group_count (map groups_as_pattern parts) p
    → explicit_before (map groups_as_pattern parts) p + g + length parts ≤ all_group_count (map groups_as_pattern parts)
group-all [] zero g l = absurd (omega (arith, l))
group-all [] (suc p) g l = absurd (omega (arith, l))
group-all (part ∷ rest) zero g l = omega (arith, l, before-all rest 0, all-more part rest)
group-all (part ∷ rest) (suc p) g l = omega (
  arith,
  group-all rest p g l,
  all-more part rest,
  sum_by-cons explicit_groups (groups_as_pattern part) (take p (map groups_as_pattern rest)),
)

first-unnamed : (parts : List Part) (p : ℕ) → p < length parts → (rest : Groups) × (groups_of (map groups_as_pattern parts) p ≡ None ∷ rest)
first-unnamed [] p l = absurd (omega (arith, l))
first-unnamed (part ∷ rest) zero l = (groups_of_part part, refl)
first-unnamed (part ∷ rest) (suc p) l = first-unnamed rest p (omega (arith, l))

first-plain : (lists : GroupLists) (p : ℕ) (rest : Groups) → groups_of lists p ≡ None ∷ rest → p ≤ max_index → pattern_fault lists p ≡ None
first-plain lists p rest its small =
    let few : nat_lt max_index p ≡ false = grind (arith, nat_tests) in
    let some : nat_eq (suc (length rest)) 0 ≡ false = grind (arith, nat_tests) in
    rw (few, its, some) refl

name-kind : (groups : Groups) (p g : ℕ) (o : Option (List ℕ)) (f : Fault) → name_fault groups p g o ≡ Some f → (name : List ℕ)
    × (f ≡ Duplicate p name)
name-kind groups p g None f e = absurd (cc)
name-kind groups p g (Some name) f e = decide (stands_before groups g name) e
  where
    decide : (t : Bool) → cond t (Some (Duplicate p name)) None ≡ Some f → (other : List ℕ) × (f ≡ Duplicate p other)
    decide true is = (name, cc)
    decide false is = absurd (cc)

group-kind : (parts : List Part) (p g : ℕ) (f : Fault) → 2 * all_group_count (map groups_as_pattern parts) ≤ max_index
    → IsChecked (map groups_as_pattern parts) p g → group_fault max_index (map groups_as_pattern parts) p g ≡ Some f
    → (name : List ℕ) × (f ≡ Duplicate p name)
group-kind parts p zero f small there fault =
    let within : p < length parts = omega (arith, there.0, length-map parts groups_as_pattern) in
    let its = first-unnamed parts p within in
    let none : pattern_fault (map groups_as_pattern parts) p ≡ None =
    first-plain (map groups_as_pattern parts) p its.0 its.1 (omega (arith, within, small, before-all parts 0)) in
    absurd (cc)
group-kind parts p (suc g) f small there fault =
    let all = group-all parts p (suc g) (omega (arith, there.1)) in
    let later : nat_eq (suc g) 0 ≡ false = grind (arith, nat_tests) in
    let few : nat_lt max_index (2 * (explicit_before (map groups_as_pattern parts) p + suc g)) ≡ false = grind (arith, nat_tests) in
    name-kind (groups_of (map groups_as_pattern parts) p) p (suc g) (name_of (map groups_as_pattern parts) p (suc g)) f (rw (later, few) at fault)

first-kind : (parts : List Part) (f : Fault) → 2 * all_group_count (map groups_as_pattern parts) ≤ max_index
    → IsFirstFault max_index (map groups_as_pattern parts) f → (p : ℕ) × (name : List ℕ) × (f ≡ Duplicate p name)
first-kind parts f small (inl w) = let its = group-kind parts w.p w.g f small w.group w.fault in (w.p, its.0, its.1)
first-kind parts f small (inr w) =
    absurd (omega (arith, w.past, small, before-all parts (w.p + 1), length-map parts groups_as_pattern))

-- why groups are refused for which there are slots
pub names-refused : (parts : List Part) (refusal : Option Fault) → 2 * all_group_count (map groups_as_pattern parts) ≤ max_index
    → IsRefusal max_index (map groups_as_pattern parts) refusal
    → (error_of refusal ≡ error.OutOfMemory) ⊎ ((error_of refusal ≡ error.RepeatedName) × RepeatsName (map groups_as_pattern parts))
names-refused parts None small r = inl refl
names-refused parts (Some f) small r =
    let its = first-kind parts f small r in
    inr (
      ap (λ (g : Fault). error_of (Some g)) its.2,
      first_repeats max_index (map groups_as_pattern parts) its.0 its.1
          (subst (λ (g : Fault). IsFirstFault max_index (map groups_as_pattern parts) g) its.2 r),
    )

-- ---- a pattern that has a group

pub pattern_there : (lists : GroupLists) (p g : ℕ) → g < group_count lists p → p < length lists
pattern_there lists p g l = ⊎_elim
    (λ (m : p < length lists). m)
    (λ (m : length lists ≤ p). absurd (
    let none : g < 0 = subst (λ (groups : Groups). g < length groups) (get_or_past lists p [] m) l in
    omega (arith, none)))
    (cases_lt p (length lists))

-- ---- patterns that aren't too large

neither : (a b : Bool) → (a || b) ≡ false → (a ≡ false) × (b ≡ false)
neither true b e = absurd (cc)
neither false b e = (refl, e)

pub not-large : (limit : ℕ) (patterns : List Pattern) (lists : GroupLists) → are_too_large limit patterns lists ≡ false
    → (size_of_program patterns ≤ limit) × (2 * all_group_count lists ≤ max_index)
not-large limit patterns lists e =
    let states : nat_lt limit (size_of_program patterns) ≡ false = (neither _ _ e).0 in
    let groups : nat_lt max_index (2 * all_group_count lists) ≡ false = (neither _ _ e).1 in
    (grind (arith, nat_tests), grind (arith, nat_tests))
