-- Each slot is a slot of exactly one group, and below the number of all slots.
use Rattle.std.proofs.Common.{◌≡◌, ℕ, zero, suc, ◌+◌, ◌-◌, ◌*◌, ◌/◌, ◌%◌, ◌<◌, ◌≤◌, false, [], length, nat_eq, nat_lt, Some, refl, sym, ap, ◌∙◌, inl, inr, arith, ⊎_elim, None, IfSome}
use Rattle.std.proofs.lemmas.Bool.{cases_lt, lt-ltb, ltb-true}
use Rattle.std.proofs.lemmas.Bool.Decides.{nat_tests}
use Rattle.std.proofs.lemmas.List.{get_or_past}
use Rattle.std.proofs.lemmas.Option.{cond_some}
use Rattle.rsc_captures.proofs.Prelude.{GroupLists, group_count, explicit_groups, explicit_before, all_group_count, slot_number, slot_of, max_index, IsFaultless, IsSlotOf, IsOwned, groups_before}
use Rattle.rsc_captures.proofs.FaultsLemmas.{some_group, before_more}
use Rattle.rsc_captures.proofs.GroupsLemmas.{sum_rises}
use Rattle.rsc_captures.proofs.NamesLayoutLemmas.{all_groups_are, groups_so_far}

-- ---- each slot is a slot of exactly one group

-- the slot of an explicit group
pub slot_explicit : (lists : GroupLists) (p g : ℕ) → slot_number lists p (suc g) ≡ 2 * length lists + 2 * explicit_before lists p + 2 * g
slot_explicit lists p g =
    let explicit : nat_eq (suc g) 0 ≡ false = grind (arith, nat_tests) in
    let less : suc g - 1 ≡ g = omega arith in
    rw (explicit, less) refl

-- each group has its slot
pub slot_of-group : (lists : GroupLists) (p g : ℕ) → g < group_count lists p → slot_of lists p g ≡ Some (slot_number lists p g)
slot_of-group lists p g h = rw (lt-ltb g (group_count lists p) h) refl

-- what the slot of a group says
pub slot_facts : (lists : GroupLists) (p g slot : ℕ) → slot_of lists p g ≡ Some slot → (g < group_count lists p) × (slot ≡ slot_number lists p g)
slot_facts lists p g slot is =
    let both = cond_some (nat_lt g (group_count lists p)) (slot_number lists p g) slot is in (ltb-true g (group_count lists p) both.0, sym both.1)

-- a pattern that has a group is one of the list
pub pattern_in : (lists : GroupLists) (p g : ℕ) → g < group_count lists p → p < length lists
pattern_in lists p g h =
    ⊎_elim (λ (lt : p < length lists). lt) (λ (le : length lists ≤ p).
    let none : group_count lists p ≡ 0 = ap length (get_or_past lists p [] le) in absurd (omega arith)) (cases_lt p (length lists))

-- the pattern among whose explicit groups the r-th of all is
record HasExplicit (lists : GroupLists) (n r p : ℕ) : Type 0 where
  pattern : p < n
  from : explicit_before lists p ≤ r
  to : r < explicit_before lists (p + 1)

find_explicit : (lists : GroupLists) (n r : ℕ) → n ≤ length lists → r < explicit_before lists n → (p : ℕ) × HasExplicit lists n r p
find_explicit lists zero r le lt = absurd (let none : explicit_before lists 0 ≡ 0 = refl in omega arith)
find_explicit lists (suc n) r le lt =
    ⊎_elim
    (λ (before : r < explicit_before lists n).
    let found : (p : ℕ) × HasExplicit lists n r p = find_explicit lists n r (omega arith) before in
    (found.0, record { pattern = omega (arith, found.1.pattern); from = found.1.from; to = found.1.to }))
    (λ (here : explicit_before lists n ≤ r). let e : suc n ≡ n + 1 = omega arith in (n, record { pattern = omega arith; from = here; to = rw e at lt }))
    (cases_lt r (explicit_before lists n))

module _ (lists : GroupLists) (checked : IsFaultless max_index lists) where
  owned_half : (h : ℕ) → h < length lists + explicit_before lists (length lists) → (p : ℕ) × (g : ℕ)
      × ((g < group_count lists p) × (slot_number lists p g ≡ 2 * h))
  owned_half h lt =
      ⊎_elim
      (λ (first : h < length lists). (h, 0, (some_group lists checked h first, refl)))
      (λ (later : length lists ≤ h).
      let r : ℕ = h - length lists in
      let found = find_explicit lists (length lists) r (omega arith) (omega arith) in
      let explicit = r - explicit_before lists found.0 in (
        found.0,
        suc explicit,
        (
          omega (arith, found.1.from, found.1.to, before_more lists found.0 found.1.pattern),
          slot_explicit lists found.0 explicit ∙ omega (arith, found.1.from),
        ),
      ))
      (cases_lt h (length lists))

  -- each slot has a group, and one alone
  pub each_owned : (s : ℕ) → s < 2 * all_group_count lists → IsOwned lists s
  each_owned s lt =
      let found = owned_half (s / 2) (omega (arith, all_groups_are lists checked)) in
      let either = ⊎_elim (λ (e : s % 2 < 1). inl (omega arith)) (λ (e : 1 ≤ s % 2). inr (omega arith)) (cases_lt (s % 2) 1) in
      (found.0, found.1, (2 * (s / 2), (slot_of-group lists found.0 found.1 found.2.0 ∙ ap Some found.2.1, either)))

-- half of a slot's number names the group
same_explicit : (lists : GroupLists) (p g q h : ℕ) → suc g < group_count lists p → suc h < group_count lists q
    → explicit_before lists p + g ≡ explicit_before lists q + h → p < q → ⊥
same_explicit lists p g q h a b same lt =
    let in_p : p < length lists = pattern_in lists p (suc g) a in
    let in_q : q < length lists = pattern_in lists q (suc h) b in
    let rises : explicit_before lists (p + 1) ≤ explicit_before lists q = sum_rises explicit_groups lists (p + 1) q (omega arith) in
    let more : explicit_before lists (p + 1) ≡ explicit_before lists p + (group_count lists p - 1) = before_more lists p in_p in
    omega arith

same_slot : (lists : GroupLists) (p g q h : ℕ) → g < group_count lists p → h < group_count lists q → slot_number lists p g ≡ slot_number lists q h
    → (p ≡ q) × (g ≡ h)
same_slot lists p zero q zero a b same = (omega arith, refl)
same_slot lists p zero q (suc h) a b same = absurd (let lt : p < length lists = pattern_in lists p 0 a in omega (arith, slot_explicit lists q h))
same_slot lists p (suc g) q zero a b same = absurd (let lt : q < length lists = pattern_in lists q 0 b in omega (arith, slot_explicit lists p g))
same_slot lists p (suc g) q (suc h) a b same =
    let halves : explicit_before lists p + g ≡ explicit_before lists q + h = omega (arith, slot_explicit lists p g, slot_explicit lists q h) in
    let patterns : p ≡ q =
    ⊎_elim (λ (lt : p < q). absurd (same_explicit lists p g q h a b halves lt))
    (λ (le : q ≤ p). ⊎_elim (λ (lt : q < p). absurd (same_explicit lists q h p g b a (sym halves) lt)) (λ (ge : p ≤ q). omega arith) (cases_lt q p))
    (cases_lt p q) in
    let before : explicit_before lists p ≡ explicit_before lists q = ap (explicit_before lists) patterns in
    (patterns, omega arith)

even : (lists : GroupLists) (p g : ℕ) → (x : ℕ) × (slot_number lists p g ≡ 2 * x)
even lists p zero = (p, refl)
even lists p (suc g) = (length lists + explicit_before lists p + g, slot_explicit lists p g ∙ omega arith)

half : (lists : GroupLists) (s p g : ℕ) → IsSlotOf lists p g s → (g < group_count lists p) × (slot_number lists p g ≡ 2 * (s / 2))
half lists s p g of =
    let facts = slot_facts lists p g of.0 of.1.0 in
    let x = even lists p g in
    (facts.0, ⊎_elim (λ (e : s ≡ of.0). omega (arith, facts.1, x.1)) (λ (e : s ≡ of.0 + 1). omega (arith, facts.1, x.1)) of.1.1)

-- no slot is of two groups
pub one_owner : (lists : GroupLists) (s p g q h : ℕ) → IsSlotOf lists p g s → IsSlotOf lists q h s → (p ≡ q) × (g ≡ h)
one_owner lists s p g q h mine other =
    let a = half lists s p g mine in
    let b = half lists s q h other in
    same_slot lists p g q h a.0 b.0 (a.1 ∙ sym b.1)

-- two groups with one first slot are one group
pub one_start : (lists : GroupLists) (p g q h s : ℕ) → slot_of lists p g ≡ Some s → slot_of lists q h ≡ Some s → (p ≡ q) × (g ≡ h)
one_start lists p g q h s mine other = one_owner lists s p g q h (s, (mine, inl refl)) (s, (other, inl refl))

-- first slots are even
pub start_no_end : (lists : GroupLists) (p g q h s t : ℕ) → slot_of lists p g ≡ Some s → slot_of lists q h ≡ Some t → ¬ (s ≡ t + 1)
start_no_end lists p g q h s t mine other next =
    omega (arith, (slot_facts lists p g s mine).1, (slot_facts lists q h t other).1, (even lists p g).1, (even lists q h).1)

-- ---- the slots of a group are below the number of all slots

pub number_within : (lists : GroupLists) → IsFaultless max_index lists → (p g : ℕ) → g < group_count lists p
    → slot_number lists p g + 1 < 2 * all_group_count lists
number_within lists checked p zero lt = let pattern : p < length lists = pattern_in lists p 0 lt in omega (arith, all_groups_are lists checked)
number_within lists checked p (suc g) lt =
    let pattern : p < length lists = pattern_in lists p (suc g) lt in
    let rises : explicit_before lists (p + 1) ≤ explicit_before lists (length lists) = sum_rises explicit_groups lists (p + 1) (length lists) (omega arith) in
    omega (arith, slot_explicit lists p g, before_more lists p pattern, all_groups_are lists checked)

pub slot_within : (lists : GroupLists) → IsFaultless max_index lists → (p g slot : ℕ) → slot_of lists p g ≡ Some slot
    → slot + 1 < 2 * all_group_count lists
slot_within lists checked p g slot is = let facts = slot_facts lists p g slot is in omega (arith, facts.1, number_within lists checked p g facts.0)

-- all slots are within the limit: two for each group
pub slots_within_limit : (lists : GroupLists) → IsFaultless max_index lists → all_group_count lists ≤ 1073741823
slots_within_limit lists checked =
    ⊎_elim
    (λ (some : 0 < length lists).
    let last : length lists - 1 + 1 ≡ length lists = omega arith in
    let within : 2 * explicit_before lists (length lists) + 2 * length lists ≤ max_index = rw last at (checked.within (length lists - 1) (omega arith)) in
    omega (arith, all_groups_are lists checked))
    (λ (none : length lists ≤ 0).
    let empty : explicit_before lists (length lists) ≡ 0 = let e : length lists ≡ 0 = omega arith in rw e refl in
    omega (arith, all_groups_are lists checked, empty))
    (cases_lt 0 (length lists))

-- a group's two slots are among all slots
pub slot_among_all : (lists : GroupLists) → IsFaultless max_index lists → (p g : ℕ)
    → IfSome (slot_of lists p g) (λ slot. slot + 1 < 2 * all_group_count lists)
slot_among_all lists faultless p g = elim (slot_of lists p g) as (λ o. slot_of lists p g ≡ o
    → IfSome o (λ slot. slot + 1 < 2 * all_group_count lists)) [ None ↦ λ _. tt | Some slot ↦ slot_within lists faultless p g slot ] refl

-- the slot of an explicit group: each pattern before has a first group, whose slots are counted apart
pub explicit_slot : (lists : GroupLists) (p g first : ℕ) → IsFaultless max_index lists → first ≡ groups_before lists p → g < group_count lists p
    → 0 < g → (Some (2 * ((((length lists - p) + first) + g) - 1)) ≡ slot_of lists p g) × (2 * ((((length lists - p) + first) + g) - 1) < max_index)
explicit_slot lists p g first faultless is group explicit =
    (slot, omega (arith, slot_within lists faultless p g (2 * ((((length lists - p) + first) + g) - 1)) (sym slot), slots_within_limit lists faultless))
  where
    number : 2 * ((((length lists - p) + first) + g) - 1) ≡ 2 * length lists + 2 * explicit_before lists p + 2 * (g - 1)
    number =
        let pattern : p < length lists = pattern_in lists p g group in
        omega (arith, groups_so_far lists p (omega arith) (some_group lists faultless), is)

    slot : Some (2 * ((((length lists - p) + first) + g) - 1)) ≡ slot_of lists p g
    slot =
        let later : nat_eq g 0 ≡ false = grind (arith, nat_tests) in
        sym (slot_of-group lists p g group ∙ ap Some (rw later (sym number)))
