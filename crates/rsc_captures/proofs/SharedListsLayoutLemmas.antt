-- Where the names and the order of each pattern's groups are in the lists of all groups.
use Rattle.std.proofs.Common.{◌≡◌, ℕ, zero, suc, ◌+◌, ◌-◌, ◌<◌, ◌≤◌, min, ⊎_elim, List, [], ◌∷◌, length, take, drop, get_or, None, ap, ap₂, sym, ◌∙◌, arith, flat_map, slice_range}
use Rattle.std.proofs.lemmas.Bool.{cases_lt}
use Rattle.std.proofs.lemmas.List.{ext_get_or, get_or-drop, get_or-take, length-take, length-drop, drop-take, take-take, take_all}
use Rattle.std.proofs.lemmas.List.FromFn.{length-map-range_with_len, get_or-map-range_with_len}
use Rattle.std.proofs.lemmas.List.Sums.{sum_by-cons}
use Rattle.std.proofs.Math.Seq.{take-append_seam, drop-append-add}
use Rattle.rsc_captures.proofs.Prelude.{Groups, GroupLists, groups_of, group_count, name_of, max_index, IsFaultless, HasNoOtherFault, AreDistinctBelow, HasNoRepeatBefore, IsOrder, groups_before, names_of, lists_held, AreFirsts, AreOrdered, IsLayout}
use Rattle.rsc_captures.proofs.FaultsLayoutLemmas.{clear_distinct, faultless_from}
use Rattle.rsc_captures.proofs.FaultsLemmas.{some_group}
use Rattle.rsc_captures.proofs.SlotOwnersLemmas.{pattern_in}
use Rattle.rsc_captures.proofs.NamesLayoutLemmas.{groups_more}
use Rattle.rsc_captures.proofs.GroupsLemmas.{sum_rises}

-- the names of each pattern are distinct
pub distinct_in : (lists : GroupLists) → IsFaultless max_index lists → (p : ℕ) → AreDistinctBelow (groups_of lists p) (group_count lists p)
distinct_in lists faultless p g lt = clear_distinct faultless p (pattern_in lists p g lt) g lt

-- a pattern's groups are before those of the patterns after it
pub groups_within : (lists : GroupLists) (p n : ℕ) → p < n → n ≤ length lists → groups_before lists p + group_count lists p ≤ groups_before lists n
groups_within lists p n lt le =
    let rises : groups_before lists (p + 1) ≤ groups_before lists n = sum_rises length lists (p + 1) n (omega arith) in
    omega (arith, rises, groups_more lists p (omega (arith, lt, le)))

-- all groups, pattern by pattern
abbrev pub all : GroupLists → Groups
all lists = flat_map (λ (groups : Groups). groups) lists

-- of all groups, those of one pattern
flat_part : (lists : GroupLists) (p : ℕ) → p < length lists → take (group_count lists p) (drop (groups_before lists p) (all lists)) ≡ groups_of lists p
flat_part [] p lt = absurd (omega arith)
flat_part (groups ∷ lists) zero lt = take-append_seam groups (all lists)
flat_part (groups ∷ lists) (suc p) lt =
    rw (sum_by-cons length groups (take p lists), drop-append-add groups (all lists) (groups_before lists p)) (flat_part lists p (omega arith))

module _ {firsts : List ℕ} {lists : GroupLists} (are : AreFirsts firsts lists (length lists)) (names : Groups) where
  names_of-is : (p : ℕ) → p < length lists → names_of firsts names p ≡ take (group_count lists p) (drop (groups_before lists p) names)
  names_of-is p lt =
      let here : get_or firsts p 0 ≡ groups_before lists p = are.each p (omega arith) in
      let next : get_or firsts (p + 1) 0 ≡ groups_before lists (p + 1) = are.each (p + 1) (omega arith) in
      let count : get_or firsts (p + 1) 0 - get_or firsts p 0 ≡ group_count lists p = omega (arith, here, next, groups_more lists p lt) in
      ap₂ (λ k from. take k (drop from names)) count here

  held_at : (p : ℕ) → p < length lists → groups_of (lists_held firsts names) p ≡ take (group_count lists p) (drop (groups_before lists p) names)
  held_at p lt = get_or-map-range_with_len (names_of firsts names) 0 (length firsts - 1) p p [] (omega (arith, lt, are.count)) (omega arith)
      ∙ names_of-is p lt

-- the names of all groups, cut where those of each pattern begin, are the lists
lists_are : {firsts : List ℕ} {lists : GroupLists} → AreFirsts firsts lists (length lists) → lists_held firsts (all lists) ≡ lists
lists_are {firsts} {lists} are = ext_get_or [] (lists_held firsts (all lists)) lists same
    (λ p lt. let in_lists : p < length lists = rw same at lt in held_at are (all lists) p in_lists ∙ flat_part lists p in_lists)
  where
    same : length (lists_held firsts (all lists)) ≡ length lists
    same = length-map-range_with_len (names_of firsts (all lists)) 0 (length firsts - 1) ∙ omega (arith, are.count)

-- what the lists of a group info hold
module _ (firsts order : List ℕ) (names : Groups) (lists : GroupLists) (are : lists_held firsts names ≡ lists)
    (layout : IsLayout firsts order (lists_held firsts names)) where
  here : IsLayout firsts order lists
  here = rw are at layout

  -- the names of a pattern's groups
  part_is : (p : ℕ) → p < length lists → groups_of lists p ≡ take (group_count lists p) (drop (groups_before lists p) names)
  part_is p lt = ap (λ lists. groups_of lists p) (sym are) ∙ held_at here.firsts_are names p lt

  -- the name of a group is at its index
  pub name_in : (p g first : ℕ) → first ≡ groups_before lists p → g < group_count lists p → get_or names (first + g) None ≡ name_of lists p g
  name_in p g first is lt =
      rw is (sym (ap (λ (groups : Groups). get_or groups g None) (part_is p (pattern_in lists p g lt))
      ∙ get_or-take (group_count lists p) (drop (groups_before lists p) names) g None lt ∙ get_or-drop (groups_before lists p) names g None))

  -- each group has an index in the list of all names
  pub within_names : (p g first : ℕ) → first ≡ groups_before lists p → g < group_count lists p → first + g < length names
  within_names p g first is lt =
      let count : group_count lists p ≡ length (take (group_count lists p) (drop (groups_before lists p) names)) =
      ap length (part_is p (pattern_in lists p g lt)) in
      let cut : group_count lists p ≡ min (group_count lists p) (length names - groups_before lists p) = rw (length-take, length-drop) at count in
      omega (arith, cut, is, lt)

  -- the names of a pattern, up to those of the next
  pub range_is : (p first end : ℕ) → p < length lists → first ≡ groups_before lists p → end ≡ groups_before lists (p + 1) → (end ≤ length names)
      × (slice_range names first end ≡ groups_of lists p)
  range_is p first end lt is_first is_end =
      let count : end - first ≡ group_count lists p = omega (arith, is_first, is_end, groups_more lists p lt) in
      let some : 0 < group_count lists p = some_group lists here.faultless p lt in
      let last = within_names p (group_count lists p - 1) first is_first (omega arith) in
      (omega (arith, last, some, count), ap₂ (λ k from. take k (drop from names)) count is_first ∙ sym (part_is p lt))

  -- the part of a pattern's groups in the order, as it is cut
  pub part_ordered : (lent : List ℕ) (p first len : ℕ) → p < length lists → lent ≡ order → first ≡ groups_before lists p
      → len ≡ group_count lists p
      → ((first + len) ≤ length lent) × IsOrder (take ((first + len) - first) (drop first lent)) (groups_of lists p)
  part_ordered lent p first len lt is_order is_first is_len =
      let count : (first + len) - first ≡ group_count lists p = omega (arith, is_len) in
      let within : groups_before lists p + group_count lists p ≤ groups_before lists (length lists) = groups_within lists p (length lists) lt (omega arith) in
      (rw is_order (omega (arith, within, here.ordered.count, is_first, is_len)), rw (count, is_first, is_order) (here.ordered.each p lt))

-- a part of the first elements is one of all
part_stays : (xs : List ℕ) (a k n : ℕ) → a + k ≤ n → take k (drop a (take n xs)) ≡ take k (drop a xs)
part_stays xs a k n le =
    let e : a + (n - a) ≡ n = omega arith in
    (rw e at (ap (take k) (drop-take a (n - a) xs))) ∙ take-take k (n - a) (drop a xs) (omega arith)

-- the order of one more pattern
pub ordered_more : {order : List ℕ} {lists : GroupLists} {p : ℕ} (more : List ℕ) → AreOrdered order lists p → p < length lists
    → take (length order) more ≡ order → length more ≡ length order + group_count lists p → IsOrder (drop (length order) more) (groups_of lists p)
    → AreOrdered more lists (p + 1)
ordered_more {order} {lists} {p} more ordered lt kept count indexed = record {
  count = count ∙ (omega (arith, ordered.count, groups_more lists p lt));
  each = λ q below. ⊎_elim (λ (before : q < p). earlier q before) (λ (here : p ≤ q). let same : p ≡ q = omega (arith, below, here) in rw same at last)
      (cases_lt q p);
}
  where
    earlier : (q : ℕ) → q < p → IsOrder (take (group_count lists q) (drop (groups_before lists q) more)) (groups_of lists q)
    earlier q before =
        let stays : take (group_count lists q) (drop (groups_before lists q) order) ≡ take (group_count lists q) (drop (groups_before lists q) more) =
        rw kept at (part_stays more (groups_before lists q) (group_count lists q) (length order)
        (omega (arith, ordered.count, groups_within lists q p before (omega arith)))) in
        rw stays at (ordered.each q before)

    last : IsOrder (take (group_count lists p) (drop (groups_before lists p) more)) (groups_of lists p)
    last =
        let left : length (drop (length order) more) ≤ group_count lists p = rw length-drop (omega (arith, count)) in
        rw (← ordered.count, take_all (group_count lists p) (drop (length order) more) left) indexed

-- what the three lists of a group info, as they are built, hold
module _ {firsts : List ℕ} {names : Groups} {lists : GroupLists} {n : ℕ} (firsts_are : AreFirsts firsts lists n) (are : names ≡ all lists)
    (all_patterns : length lists ≡ n) where
  -- what is held are the lists
  pub held_are : lists_held firsts names ≡ lists
  held_are = rw are (lists_are (rw all_patterns firsts_are))

  -- lists without a fault, in order, are a layout
  pub layout_is : {order : List ℕ} → HasNoOtherFault max_index lists → HasNoRepeatBefore lists n 0 → AreOrdered order lists n
      → IsLayout firsts order (lists_held firsts names)
  layout_is no_other none ordered = rw held_are (record {
    faultless = faultless_from no_other (rw all_patterns none);
    firsts_are = rw all_patterns firsts_are;
    ordered = rw all_patterns ordered;
  })
