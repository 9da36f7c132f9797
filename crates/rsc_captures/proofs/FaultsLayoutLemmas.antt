-- The first fault of a list, from the first other fault and the first repeated name before it.
use Rattle.std.proofs.Common.{◌≡◌, ◌⊎◌, ⊎_elim, ℕ, zero, suc, ◌+◌, ◌*◌, ◌<◌, ◌≤◌, true, false, List, length, ltb, Option, Some, None, MatchOption, refl, sym, ◌∙◌, inl, inr, arith, le-ltb, lt-ltb}
use Rattle.std.specs.Prelude.{⊤}
use mathlib.Core.Bool.{true≢false}
use borrow.Author.Count.{below_more}
use Rattle.rsc_captures.proofs.Prelude.{Groups, GroupLists, groups_of, group_count, name_of, explicit_groups, explicit_before, Fault, TooManyGroups, Duplicate, ComesBefore, IsChecked, pattern_fault, name_fault, group_fault, slots_end, IsFirstFault, IsFaultless, FirstIsDuplicate, IsRefusal, HasNoOtherBefore, HasNoOtherFault, IsFirstOther, is_repeat, AreDistinctBelow, HasNoRepeatBefore, IsFirstRepeatBefore}
use Rattle.rsc_captures.proofs.FaultsLemmas.{before_more, explicit_group_at, group_clear, name_fault_clear, name_fault_repeat, name_fault_none, no_repeat_at_zero}
use Rattle.rsc_captures.proofs.GroupsLemmas.{sum_rises}
use Rattle.rsc_captures.proofs.SlotOwnersLemmas.{pattern_in}
use Rattle.rsc_captures.proofs.RepeatsLayoutLemmas.{repeat_name, repeat_of_pattern, none_before, none_more}

-- a list without a fault repeats no name
pub clear_distinct : {limit : ℕ} {lists : GroupLists} → IsFaultless limit lists → (p : ℕ) → p < length lists
    → AreDistinctBelow (groups_of lists p) (group_count lists p)
clear_distinct {lists = lists} faultless p lt zero below = no_repeat_at_zero (groups_of lists p)
clear_distinct {limit = limit} {lists = lists} faultless p lt (suc g) below =
    let clear = sym (explicit_group_at limit lists p (suc g) (omega arith)) ∙ faultless.clear p (suc g) (lt, omega (arith, below)) in
    name_fault_none (groups_of lists p) p (suc g) (name_of lists p (suc g)) (group_clear limit lists p (suc g) clear).1

earlier_still : {r k q h p g : ℕ} → ComesBefore r k q h → ComesBefore q h p g → ComesBefore r k p g
earlier_still {r = r} {k = k} {q = q} {h = h} {p = p} {g = g} one other =
    ⊎_elim
    (λ (lt : r < q). inl (⊎_elim (λ (l : q < p). omega arith) (λ (s : (q ≡ p) × (h < g)). omega (arith, s.0)) other))
    (λ (same : (r ≡ q) × (k < h)). ⊎_elim (λ (l : q < p). inl (omega (arith, same.0)))
    (λ (s : (q ≡ p) × (h < g)). inr (same.0 ∙ s.0, omega (arith, same.1, s.1))) other)
    one

module _ {limit : ℕ} {lists : GroupLists} {p g : ℕ} (before : HasNoOtherBefore limit lists p g) where
  -- the pattern of a group before has no fault as a whole
  pub pattern_before : (q h : ℕ) → ComesBefore q h p g → pattern_fault lists q ≡ None
  pattern_before q h = ⊎_elim (λ (lt : q < p). before.patterns q lt) (λ (same : (q ≡ p) × (h < g)). rw same.0 (before.first (omega (arith, same.1))))

  -- a group before is within the limit
  pub limit_before : (q h : ℕ) → h < group_count lists q → ComesBefore q h p g → 2 * (explicit_before lists q + h) ≤ limit
  limit_before q h group =
      ⊎_elim
      (λ (lt : q < p).
      let rises : explicit_before lists (q + 1) ≤ explicit_before lists p = sum_rises explicit_groups lists (q + 1) p (omega arith) in
      omega (arith, before_more lists q (pattern_in lists q h group), rises, before.within, group))
      (λ (same : (q ≡ p) × (h < g)). rw same.0 (omega (arith, same.1, before.within)))

  group_before : (q h : ℕ) → 0 < h → h < group_count lists q → ComesBefore q h p g
      → group_fault limit lists q h ≡ name_fault (groups_of lists q) q h (name_of lists q h)
  group_before q h some group earlier =
      let no_limit : ltb limit (2 * (explicit_before lists q + h)) ≡ false =
      le-ltb limit (2 * (explicit_before lists q + h)) (limit_before q h group earlier) in
      explicit_group_at limit lists q h some ∙ rw no_limit refl

  clear_at : (q h : ℕ) → IsChecked lists q h → ComesBefore q h p g → (h < group_count lists q → is_repeat (groups_of lists q) h ≡ false)
      → group_fault limit lists q h ≡ None
  clear_at q zero group earlier distinct = pattern_before q 0 earlier
  clear_at q (suc h) group earlier distinct =
      let group : suc h < group_count lists q = omega (arith, group.1) in
      group_before q (suc h) (omega arith) group earlier ∙ name_fault_clear (groups_of lists q) q (suc h) (name_of lists q (suc h)) (distinct group)

  repeat_at : (q h : ℕ) (name : List ℕ) → h < group_count lists q → ComesBefore q h p g → is_repeat (groups_of lists q) h ≡ true
      → name_of lists q h ≡ Some name
      → group_fault limit lists q h ≡ Some (Duplicate q name)
  repeat_at q zero name group earlier repeats named = absurd (true≢false (sym repeats ∙ no_repeat_at_zero (groups_of lists q)))
  repeat_at q (suc h) name group earlier repeats named =
      group_before q (suc h) (omega arith) group earlier ∙ rw named (name_fault_repeat (groups_of lists q) q (suc h) name (rw named at repeats))

  clear_before : HasNoRepeatBefore lists p g → (q h : ℕ) → IsChecked lists q h → ComesBefore q h p g → group_fault limit lists q h ≡ None
  clear_before none q h group earlier = clear_at q h group earlier (λ group. none q h group earlier)

  -- another fault at the group
  pub other_at : (f : Fault) → IsChecked lists p g → group_fault limit lists p g ≡ Some f → IsFirstOther limit lists p g (Some f)
  other_at f group fault = record {
    before = before;
    first = λ none. inl (record { p = p; g = g; group = group; fault = fault; least = clear_before none });
  }

  -- the same of a refusal
  pub refusal_at : (refusal : Option Fault) → IsChecked lists p g → MatchOption refusal ⊥ (λ f. group_fault limit lists p g ≡ Some f)
      → IsFirstOther limit lists p g refusal
  refusal_at None group m = absurd m
  refusal_at (Some f) group fault = other_at f group fault

  -- the first repeated name before the group is the first fault
  pub repeat_first : (f : Fault) → IsFirstRepeatBefore lists p g f → IsFirstFault limit lists f
  repeat_first f r = rw r.fault (inl (record {
    p = r.q;
    g = r.h;
    group = (pattern_in lists r.q r.h r.group, omega (arith, r.group));
    fault = repeat_at r.q r.h r.name r.group r.before r.repeats r.named;
    least = λ q h group earlier. clear_at q h group (earlier_still earlier r.before) (λ group. r.least q h group earlier);
  }))

-- more groups than the limit has room for
pub too_many : {limit : ℕ} {lists : GroupLists} (p room : ℕ) → HasNoOtherBefore limit lists p 0 → pattern_fault lists p ≡ None → p < length lists
    → room + 1 < group_count lists p → 2 * (explicit_before lists p + room) ≤ limit → limit < 2 * (explicit_before lists p + (room + 1))
    → IsFirstOther limit lists p (room + 1) (Some (TooManyGroups p (room + 1)))
too_many {limit = limit} {lists = lists} p room earlier clear pattern more within past =
    let limited : ltb limit (2 * (explicit_before lists p + (room + 1))) ≡ true = lt-ltb limit (2 * (explicit_before lists p + (room + 1))) past in
    other_at (record { patterns = earlier.patterns; first = λ _. clear; within = omega (arith, within) }) (TooManyGroups p (room + 1))
    (pattern, omega (arith, more))
    (explicit_group_at limit lists p (room + 1) (omega arith) ∙ rw limited refl)

-- the limit on the slots of all groups
pub past_limit : {limit : ℕ} {lists : GroupLists} (n p : ℕ) → length lists ≡ n → HasNoOtherBefore limit lists n 0 → p < n
    → limit < slots_end lists p
    → ((q : ℕ) → q < p → slots_end lists q ≤ limit) → IsFirstOther limit lists n 0 (Some (TooManyGroups p (group_count lists p)))
past_limit n p all before pattern past least = record {
  before = before;
  first = λ none. inr (record {
    clear = λ q h group. clear_before before none q h group (inl (rw all at group.0));
    p = p;
    pattern = rw all pattern;
    past =
        past;
    least = least;
    fault = refl;
  });
}

-- a refusal for the first fault
pub refuses_first : (limit : ℕ) (lists : GroupLists) (refusal : Option Fault) → MatchOption refusal ⊥ (IsFirstFault limit lists)
    → IsRefusal limit lists refusal
refuses_first limit lists None first = absurd first
refuses_first limit lists (Some f) first = first

-- group g is one of the first n, and the first that repeats a name
abbrev FirstRepeat : Groups → ℕ → Type 0
FirstRepeat groups n = (g : ℕ) × (g < n) × (is_repeat groups g ≡ true) × AreDistinctBelow groups g

-- the names of the first n groups are distinct, or there is a first that is repeated
first_repeat : (groups : Groups) (n : ℕ) → AreDistinctBelow groups n ⊎ FirstRepeat groups n
first_repeat groups zero = inl (λ g lt. absurd (omega arith))
first_repeat groups (suc n) =
    elim (first_repeat groups n) as (λ _. AreDistinctBelow groups (suc n) ⊎ FirstRepeat groups (suc n)) [
      | inl distinct ↦
          elim (is_repeat groups n) as (λ b. is_repeat groups n ≡ b → AreDistinctBelow groups (suc n) ⊎ FirstRepeat groups (suc n)) [
            | true ↦ λ e. inr (n, omega arith, e, distinct)
            | false ↦ λ e. inl (λ g lt. below_more (λ k. is_repeat groups k ≡ false) n distinct e g (omega arith))
          ] refl
      | inr found ↦ inr (found.0, omega (arith, found.1), found.2, found.3)
    ]

module _ {limit : ℕ} {lists : GroupLists} (no_other : HasNoOtherFault limit lists) where
  -- lists without another fault and without a repeated name are faultless
  pub faultless_from : HasNoRepeatBefore lists (length lists) 0 → IsFaultless limit lists
  faultless_from none = record { clear = λ p g group. clear_before no_other.groups none p g group (inl group.0); within = no_other.slots }

  -- no name is repeated in the first n patterns, or a repeated name is the first fault
  first_of : (n : ℕ) → n ≤ length lists → HasNoRepeatBefore lists n 0 ⊎ FirstIsDuplicate limit lists
  first_of zero le = inl (none_before lists 0 0 0 (omega arith) (λ q h lt. absurd (omega arith)))
  first_of (suc n) le =
      elim (first_of n (omega arith)) as (λ _. HasNoRepeatBefore lists (suc n) 0 ⊎ FirstIsDuplicate limit lists) [
        | inl none ↦
            elim (first_repeat (groups_of lists n) (group_count lists n)) as (λ _. HasNoRepeatBefore lists (suc n) 0
            ⊎ FirstIsDuplicate limit lists) [
              | inl distinct ↦ let next : n + 1 ≡ suc n = omega arith in inl (rw next at (none_more lists n none distinct))
              | inr found ↦
                  let named = repeat_name (groups_of lists n) found.0 found.2 in
                  let first = repeat_of_pattern lists n _ _ _ _ none found.1 found.2 found.3 named.1 (inl (omega arith)) in
                  inr (n, named.0, repeat_first no_other.groups (Duplicate n named.0) first)
            ]
        | inr found ↦ inr found
      ]

  -- what `build` says of a refusal, as the list's
  pub refuses_from : (n : ℕ) → length lists ≡ n → (refusal : Option Fault) → MatchOption refusal ⊤ (IsFirstRepeatBefore lists n 0)
      → IsRefusal limit lists refusal
  refuses_from n all None m =
      elim (first_of (length lists) (omega arith)) as (λ _. IsFaultless limit lists
      ⊎ FirstIsDuplicate limit lists) [ inl none ↦ inl (faultless_from none) | inr found ↦ inr found ]
  refuses_from n all (Some f) m = repeat_first no_other.groups f (rw all m)

-- what holds of a fault, if there is one
pub MatchOption-some_weaker : {X : Type 0} (o : Option X) (R : Type 0) (P Q : X → Type 0) → ((x : X) → P x → Q x) → MatchOption o R P
    → MatchOption o ⊤ Q
MatchOption-some_weaker None R P Q weaker m = tt
MatchOption-some_weaker (Some x) R P Q weaker m = weaker x m

-- a refusal for a repeated name that is the first fault, or out of memory
pub refuses_repeat : {limit : ℕ} {lists : GroupLists} {p : ℕ} {name : List ℕ} → IsFirstFault limit lists (Duplicate p name) → (refusal : Option Fault)
    → MatchOption refusal ⊤ (λ shown. shown ≡ Duplicate p name) → IsRefusal limit lists refusal
refuses_repeat found (Some shown) same = rw same found
refuses_repeat {p = p} {name = name} found None same = inr (p, name, found)
