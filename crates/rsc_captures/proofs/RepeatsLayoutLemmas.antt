-- Repeated names: of a pattern's first groups, and before a group.
use Rattle.std.proofs.Common.{◌≡◌, ℕ, true≢false, ◌+◌, ◌<◌, ◌≤◌, ⊎_elim, Bool, true, false, List, length, get_or, Bor, option_copied, Some, None, ap, sym, ◌∙◌, arith, refl, inl}
use Rattle.std.specs.Bool.{MatchBool}
use Rattle.std.proofs.lemmas.Bool.{cases_lt, false_from_ne_true}
use Rattle.std.specs.List.{Contains}
use Rattle.rsc_captures.proofs.Prelude.{Groups, groups_in, has_name, name_at, IsOrder, IsSortedByName, IsFirstNotLess, is_repeat, AreDistinctBelow, HaveDifferentNames, GroupLists, groups_of, group_count, name_of, Duplicate, ComesBefore, HasNoRepeatBefore, IsFirstRepeatBefore}
use Rattle.rsc_captures.proofs.OrderLayoutLemmas.{name_at_in, has_name-itself, repeat_pair, repeat_of_pair, least_at_first}
use Rattle.rsc_captures.proofs.GroupsLemmas.{Handed, has_name-is}
use Rattle.std.proofs.lemmas.List.{length-map}

-- no group of the order has the name of a greater one from `from` to `end`
abbrev pub DifferInOrder : Groups → List ℕ → ℕ → ℕ → Type 0
DifferInOrder groups order from end = (g h : ℕ) → Contains order g → g < h → from ≤ h → h < end → HaveDifferentNames groups g h

-- none of the first n groups has the name of a greater one before `end`
abbrev pub DifferBelow : Groups → ℕ → ℕ → Type 0
DifferBelow groups n end = (g h : ℕ) → g < n → g < h → h < end → HaveDifferentNames groups g h

module _ (groups : Groups) where
  -- names are distinct where no group has the name of any lesser one
  pub distinct_from_differ : (n : ℕ) → DifferBelow groups n n → AreDistinctBelow groups n
  distinct_from_differ n differ g lt = false_from_ne_true (is_repeat groups g) (λ repeats.
      let pair = repeat_pair groups g repeats in differ pair.g g (omega (arith, pair.lesser)) pair.lesser lt pair.name pair.one pair.other)

-- names are distinct where none repeats one in the order of all groups
pub distinct_in_order : (groups : Handed) (order : List ℕ) (n : ℕ) → IsOrder order (groups_in groups) → n ≤ length groups
    → DifferInOrder (groups_in groups) order 0 n → AreDistinctBelow (groups_in groups) n
distinct_in_order groups order n is_order le differ =
    distinct_from_differ (groups_in groups) n (λ g h before lesser below.
    differ g h (is_order.complete g (rw length-map (omega arith))) lesser (omega arith) below)

-- whether a lesser group of the order has the name of g, from where the names begin that aren't less
module _ (groups : Handed) (order : List ℕ) (g : ℕ) where
  -- a group without a name has that of no other
  pub differ_unnamed : get_or groups g None ≡ None → (h : ℕ) → HaveDifferentNames (groups_in groups) h g
  differ_unnamed none h name one two = let e : None ≡ Some name = sym (name_at_in groups g ∙ ap option_copied none) ∙ two in cc

  module _ (sorted : IsSortedByName order (groups_in groups)) (name : Bor (List ℕ)) (i : ℕ) (first : IsFirstNotLess (groups_in groups) order name.now i)
      (named : get_or groups g None ≡ Some name) where
    at_g : name_at (groups_in groups) g ≡ Some name.now
    at_g = name_at_in groups g ∙ ap option_copied named

    differ_where : (i < length order → get_or order i 0 < g → name_at (groups_in groups) (get_or order i 0) ≡ Some name.now → ⊥)
        → (h : ℕ) → Contains order h → h < g → HaveDifferentNames (groups_in groups) h g
    differ_where other h group lesser found one two =
        let same : Some found ≡ Some name.now = sym two ∙ at_g in
        let least = least_at_first (groups_in groups) order sorted name.now i h first group (one ∙ same) in
        other least.0 (omega (arith, least.2, lesser)) least.1

    pub differ_past_all : length order ≤ i → (h : ℕ) → Contains order h → h < g → HaveDifferentNames (groups_in groups) h g
    differ_past_all past = differ_where (λ lt lesser is. absurd (omega (arith, past)))

    pub differ_not_lesser : g ≤ get_or order i 0 → (h : ℕ) → Contains order h → h < g → HaveDifferentNames (groups_in groups) h g
    differ_not_lesser ge = differ_where (λ lt lesser is. absurd (omega (arith, ge)))

    pub repeat_at_first : (b : Bool) → b ≡ has_name name.now (option_copied (get_or groups (get_or order i 0) None)) → get_or order i 0 < g
        → MatchBool b (is_repeat (groups_in groups) g ≡ true) ((h : ℕ) → Contains order h → h < g → HaveDifferentNames (groups_in groups) h g)
    repeat_at_first true is lesser =
        repeat_of_pair (groups_in groups) (get_or order i 0) g name.now lesser
        (name_at_in groups (get_or order i 0) ∙ has_name-is name.now (option_copied (get_or groups (get_or order i 0) None)) (sym is)) at_g
    repeat_at_first false is lesser = differ_where (λ lt less at_i.
        true≢false (sym (rw (sym (name_at_in groups (get_or order i 0)) ∙ at_i) (has_name-itself name.now)) ∙ sym is))

-- a group that repeats a name has one
pub repeat_name : (groups : Groups) (g : ℕ) → is_repeat groups g ≡ true → (name : List ℕ) × (get_or groups g None ≡ Some name)
repeat_name groups g e = let pair = repeat_pair groups g e in (pair.name, pair.other)

-- no group before group (r, s), of the patterns before p, repeats a name
abbrev pub NoneSoFar : GroupLists → ℕ → ℕ → ℕ → Type 0
NoneSoFar lists p r s = (q h : ℕ) → q < p → h < group_count lists q → ComesBefore q h r s → is_repeat (groups_of lists q) h ≡ false

module _ (lists : GroupLists) (p : ℕ) where
  -- the first repeated name of a pattern, where no earlier pattern repeats one
  pub repeat_of_pattern : (g r s : ℕ) (name : List ℕ) → HasNoRepeatBefore lists p 0 → g < group_count lists p
      → is_repeat (groups_of lists p) g ≡ true
      → AreDistinctBelow (groups_of lists p) g → name_of lists p g ≡ Some name → ComesBefore p g r s
      → IsFirstRepeatBefore lists r s (Duplicate p name)
  repeat_of_pattern g r s name none group repeats distinct named before = record {
    q = p;
    h = g;
    name = name;
    before = before;
    group = group;
    repeats = repeats;
    least = λ q h group. ⊎_elim (λ (lt : q < p). none q h group (inl lt)) (λ (same : (q ≡ p) × (h < g)). rw same.0 (distinct h same.1));
    named = named;
    fault = refl;
  }

  -- no pattern before has a repeated name
  pub none_before : (r s : ℕ) → p ≤ r → NoneSoFar lists p r s → HasNoRepeatBefore lists p 0
  none_before r s le none q h group =
      ⊎_elim (λ (lt : q < p). none q h lt group (inl (omega arith))) (λ (same : (q ≡ p) × (h < 0)). absurd (omega (arith, same.1)))

  -- one more pattern, of whose groups those before the group are distinct
  pub none_so_far : (r s end : ℕ) → NoneSoFar lists p r s → ((h : ℕ) → h < group_count lists p → ComesBefore p h r s → h < end)
      → AreDistinctBelow (groups_of lists p) end → NoneSoFar lists (p + 1) r s
  none_so_far r s end none all distinct q h lt group before =
      ⊎_elim
      (λ (less : q < p). none q h less group before)
      (λ (ge : p ≤ q). let same : q ≡ p = omega (arith, lt) in rw same (distinct h (all h (rw same at group) (rw same at before))))
      (cases_lt q p)

-- one more pattern whose names are distinct
pub none_more : (lists : GroupLists) (p : ℕ) → HasNoRepeatBefore lists p 0 → AreDistinctBelow (groups_of lists p) (group_count lists p)
    → HasNoRepeatBefore lists (p + 1) 0
none_more lists p none distinct =
    none_before lists (p + 1) (p + 1) 0 (omega arith)
    (none_so_far lists p (p + 1) 0 _ (λ q h lt group _. none q h group (inl lt)) (λ h group _. group) distinct)
