-- The groups in the order of their names.
use Rattle.std.proofs.Common.{◌≡◌, ℕ, ◌+◌, ◌-◌, ◌<◌, ◌≤◌, ⊎_elim, true, false, List, [], ◌∷◌, ◌++◌, length, replicate, take, drop, get_or, Bor, Option, Some, None, Less, Equal, Greater, Result, Ok, Err, is_lt, leb, refl, ap, sym, ◌∙◌, arith, true≢false, Ordering, MatchResult}
use Rattle.std.specs.Option.{option_cmp, option_copied, option_map_or}
use Rattle.std.specs.Ordering.{nat_cmp, ordering_index, ordering_reverse, ordering_then}
use Rattle.std.specs.Cmp.{IsTotalOrder}
use Rattle.std.specs.Cmp.Lexicographic.{slice_cmp, options_total, bytes_decides}
use Rattle.std.specs.List.{Contains, range_with_len}
use Rattle.std.specs.List.Sorted.{IsBinarySearchResult, IsSortedByKey, IsPartitionPoint, IsPartitionedBy}
use Rattle.std.proofs.lemmas.Bool.{cases_lt}
use Rattle.std.proofs.lemmas.Cmp.{nat_list_cmp_total, nat_cmp_total, then_total, on_total, tied_itself}
use Rattle.std.proofs.lemmas.List.{get_or-take, get_or_default, length-take-le, map-id, length-append, append-nil, drop_all, take_all, length-replicate}
use Rattle.std.proofs.lemmas.List.FromFn.{length-range_with_len, get_or-range_with_len, map-range_with_len_more}
use Rattle.std.proofs.Math.Seq.{take-append_seam, drop-append_seam}
use Rattle.std.proofs.Math.ListN.{get_or-map as get_or_copied}
use Rattle.std.proofs.lemmas.List.Folds.{Any-from_list_any, list_any_at}
use borrow.Rule.Slice.PartMut.{mid_of, put_mid}
use Rattle.std.proofs.lemmas.List.Sorted.{searchable_from_sorted, sorted_far, ranks_by, IsPartitionedBy-leb}
use Rattle.std.proofs.lemmas.Map.Keys.{ge_from_not_lt}
use Rattle.std.proofs.lemmas.Map.Lookups.{exact_bytes}
use Rattle.rsc_captures.proofs.Prelude.{Groups, groups_in, has_name, index_of, stands_before, name_at, name_cmp, named_cmp, group_with_name, IsSortedByName, IsOrder, is_repeat, AreDistinctBelow, IsFirstNotLess}
use Rattle.rsc_captures.proofs.GroupsLemmas.{Handed, index_of-is, has_name-is, get_or_past}

-- the order of names is total, and tells names apart
pub name_total : IsTotalOrder name_cmp
name_total = options_total nat_list_cmp_total

named_total : IsTotalOrder named_cmp
named_total = then_total (on_total (λ x. x.0) name_total) (on_total (λ x. x.1) nat_cmp_total)

-- names that compare as equal are the same
pub name_exact : (a b : Option (List ℕ)) → name_cmp a b ≡ Equal → a ≡ b
name_exact None None e = refl
name_exact None (Some b) e = cc
name_exact (Some a) None e = cc
name_exact (Some a) (Some b) e = ap Some (exact_bytes a b e)

-- the name of a group as it is handed in
pub name_at_in : (groups : Handed) (g : ℕ) → name_at (groups_in groups) g ≡ option_copied (get_or groups g None)
name_at_in groups g = get_or_copied option_copied groups g None

copied_cmp : (a b : Option (Bor (List ℕ))) → name_cmp (option_copied a) (option_copied b) ≡ option_cmp (λ x y. slice_cmp nat_cmp x.now y.now) a b
copied_cmp None None = refl
copied_cmp None (Some b) = refl
copied_cmp (Some a) None = refl
copied_cmp (Some a) (Some b) = refl

-- groups that are sorted by the names that are handed in
pub sorted_in : (groups : Handed) (order : List ℕ) → IsSortedByKey {K = Option (Bor (List ℕ)) × ℕ} (λ g. (get_or groups g None, g))
    (λ x y. ordering_then (option_cmp (λ a b. slice_cmp nat_cmp a.now b.now) x.0 y.0) (nat_cmp x.1 y.1)) order
    → IsSortedByName order (groups_in groups)
sorted_in groups order sorted k d le lt =
    rw (
      name_at_in groups (get_or order (k + 1) d),
      name_at_in groups (get_or order k d),
      copied_cmp (get_or groups (get_or order (k + 1) d) None) (get_or groups (get_or order k d) None),
    ) (sorted k d le lt)

-- n elements whose part from `first` on was lent and written over
abbrev pub with_part : (n first : ℕ) (lent part rest : List ℕ) → List ℕ
with_part n first lent part rest =
    take n (put_mid first (length lent - first) lent part ++ drop (length (put_mid first (length lent - first) lent part)) rest)

-- they are the elements before it and the new part, where it is as long as the one by which the list was made longer
module _ (old part rest : List ℕ) (count : ℕ) where
  abbrev added : List ℕ
  added = replicate count 0

  added_len : length (old ++ added) - length old ≡ count
  added_len = rw (length-append, length-replicate) (omega arith)

  added_past : drop count added ≡ []
  added_past = drop_all count added (rw length-replicate (omega arith))

  part_put : put_mid (length old) (length (old ++ added) - length old) (old ++ added) part ≡ old ++ part
  part_put = rw (added_len, take-append_seam old added, drop-append_seam old added, added_past, append-nil) refl

  pub part_written : (lent : List ℕ) (first len n : ℕ) → first ≡ length old → len ≡ length old
      → lent ≡ take (first + count) old ++ replicate ((first + count) - len) 0 → n ≡ length lent
      → length part ≡ length (mid_of first (length lent - first) lent) → (length part ≡ count) × (with_part n first lent part rest ≡ old ++ part)
  part_written lent first len n is_first is_len resized all as_long =
      let left : (first + count) - len ≡ count = omega (arith, is_first, is_len) in
      let is_lent : lent ≡ old ++ added = resized ∙ rw (left, take_all (first + count) old (omega (arith, is_first))) refl in
      let taken : length (take count added) ≡ count = length-take-le count added (rw length-replicate (omega arith)) in
      let same : length part ≡ count = as_long ∙ rw (is_first, is_lent, added_len, drop-append_seam old added) taken in
      let whole : n ≡ length (old ++ part) = all ∙ ap length is_lent ∙ length-append old added
      ∙ ap (λ k. length old + k) (length-replicate count 0 ∙ sym same) ∙ sym (length-append old part) in
      (same, rw (is_first, is_lent, part_put, whole, take-append_seam (old ++ part) (drop (length (old ++ part)) rest)) refl)

-- of two answers, one after the other, the first isn't less where both together aren't, and where it is equal the second isn't
not_less : (a b : Ordering) → is_lt (ordering_then a b) ≡ false → is_lt a ≡ false
not_less Less b e = e
not_less Equal b e = refl
not_less Greater b e = refl

not_less_then : (a b : Ordering) → is_lt (ordering_then a b) ≡ false → a ≡ Equal → is_lt b ≡ false
not_less_then Less b e tied = cc
not_less_then Equal b e tied = e
not_less_then Greater b e tied = cc

-- neither of the two comes before the other
same_from_both : (a b : Option (List ℕ)) → is_lt (name_cmp a b) ≡ false → is_lt (name_cmp b a) ≡ false → a ≡ b
same_from_both a b up down =
    elim (name_cmp a b) as (λ o. name_cmp a b ≡ o → a ≡ b) [
      | Less ↦ λ e. absurd (true≢false (sym (ap is_lt e) ∙ up))
      | Equal ↦ λ e. name_exact a b e
      | Greater ↦ λ e. absurd (true≢false (sym (ap is_lt (name_total.antisymm b a ∙ ap ordering_reverse e)) ∙ down))
    ] refl

-- whether an answer is `Less`, by its index
leb_index : (o : Ordering) → leb (ordering_index o) 0 ≡ is_lt o
leb_index Less = refl
leb_index Equal = refl
leb_index Greater = refl

pub has_name-itself : (name : List ℕ) → has_name name (Some name) ≡ true
has_name-itself name = (bytes_decides name name).1 refl

-- a group and a lesser one with its name
pub record IsPair (groups : Groups) (h : ℕ) : Type 0 where
  pub g : ℕ
  pub name : List ℕ
  pub lesser : g < h
  pub one : name_at groups g ≡ Some name
  pub other : name_at groups h ≡ Some name

-- a repeated name is that of a pair
pub repeat_pair : (groups : Groups) (h : ℕ) → is_repeat groups h ≡ true → IsPair groups h
repeat_pair groups h = by_name (name_at groups h) refl
  where
    by_name : (name : Option (List ℕ)) → name_at groups h ≡ name → option_map_or (stands_before groups h) name false ≡ true → IsPair groups h
    by_name None at_h found = absurd (true≢false (sym found))
    by_name (Some name) at_h found =
        let earlier = Any-from_list_any (has_name name) (take h groups) found in
        let taken : length (take h groups) ≡ h = length-take-le h groups (omega (arith, get_or_past groups h name at_h)) in
        let before : earlier.0 < h = omega (arith, taken, earlier.2) in
        record {
          g = earlier.0;
          name = name;
          lesser = before;
          one = sym (get_or-take h groups earlier.0 None before) ∙ get_or_default (take h groups) earlier.0 None earlier.1 earlier.2 ∙ earlier.3
              ∙ has_name-is name earlier.1 earlier.4;
          other = at_h;
        }

-- the group after a lesser one with its name
pub repeat_of_pair : (groups : Groups) (g h : ℕ) (name : List ℕ) → g < h → name_at groups g ≡ Some name → name_at groups h ≡ Some name
    → is_repeat groups h ≡ true
repeat_of_pair groups g h name lt one other =
    let taken : length (take h groups) ≡ h = length-take-le h groups (omega (arith, get_or_past groups h name other)) in
    let at_g : get_or (take h groups) g None ≡ Some name = get_or-take h groups g None lt ∙ one in
    rw other (list_any_at (has_name name) (take h groups) g None (omega (arith, taken)) (rw at_g (has_name-itself name)))

module _ (groups : Groups) where
  module _ (order : List ℕ) (sorted : IsSortedByName order groups) where
    -- what is later isn't less
    not_before : (i j : ℕ) → i ≤ j → j < length order
        → is_lt (named_cmp (group_with_name groups (get_or order j 0)) (group_with_name groups (get_or order i 0))) ≡ false
    not_before i j le lt = sorted_far _ (ranks_by named_total (group_with_name groups)) order sorted i j 0 le lt

    -- of two indices with groups of one name, the lesser group is first
    groups_rise : (i j : ℕ) → i ≤ j → j < length order → name_at groups (get_or order j 0) ≡ name_at groups (get_or order i 0)
        → get_or order i 0 ≤ get_or order j 0
    groups_rise i j le lt same =
        let tied : name_cmp (name_at groups (get_or order j 0)) (name_at groups (get_or order i 0)) ≡ Equal =
        rw same (tied_itself name_total (name_at groups (get_or order i 0))) in
        ge_from_not_lt (get_or order j 0) (get_or order i 0) (not_less_then _ _ (not_before i j le lt) tied)

    -- groups in their order are sorted by their names
    pub names_sorted : IsSortedByKey (name_at groups) name_cmp order
    names_sorted k d le lt = not_less _ _ (sorted k d le lt)

    -- no group with a lesser name comes after one without
    pub names_parted : (name : Option (List ℕ)) → IsPartitionedBy (λ h. is_lt (name_cmp (name_at groups h) name)) order
    names_parted name i j d le lt e =
        let up = searchable_from_sorted name_total (name_at groups) order name names_sorted in
        sym (leb_index (name_cmp (name_at groups (get_or order i d)) name))
        ∙ IsPartitionedBy-leb (λ h. ordering_index (name_cmp (name_at groups h) name)) order 0 up i j d le lt
        (leb_index (name_cmp (name_at groups (get_or order j d)) name) ∙ e)

    -- the first index whose name isn't less than a name has the least group with the name
    pub least_at_first : (name : List ℕ) (i g : ℕ) → IsFirstNotLess groups order name i → Contains order g → name_at groups g ≡ Some name
        → (i < length order) × (name_at groups (get_or order i 0) ≡ Some name) × (get_or order i 0 ≤ g)
    least_at_first name i g point index at_g =
        let j = index.0 in
        let at_j : get_or order j 0 ≡ g = get_or_default order j 0 g index.1 ∙ index.2 in
        let named : name_at groups (get_or order j 0) ≡ Some name = rw at_j at_g in
        let itself : is_lt (name_cmp (name_at groups (get_or order j 0)) (Some name)) ≡ false =
        rw named (ap is_lt (tied_itself name_total (Some name))) in
        let le : i ≤ j = ⊎_elim (λ (before : j < i). absurd (true≢false (sym (point.0 j 0 (omega arith) before) ∙ itself))) (λ (le : i ≤ j). le)
        (cases_lt j i) in
        let up : is_lt (name_cmp (name_at groups (get_or order j 0)) (name_at groups (get_or order i 0)))
        ≡ false = not_less _ _ (not_before i j le index.1) in
        let first : name_at groups (get_or order i 0) ≡ Some name =
        same_from_both (name_at groups (get_or order i 0)) (Some name) (point.1 i 0 (omega arith) (omega (arith, le, index.1))) (rw named at up) in
        (omega (arith, le, index.1), first, omega (arith, groups_rise i j le index.1 (named ∙ sym first), at_j))

  -- where the groups of an order are split into those whose names are less and those whose names are greater, none has the name
  pub none_at_split : (order : List ℕ) (name : List ℕ) (k g : ℕ)
      → IsPartitionPoint (λ h. name_cmp (name_at groups h) (Some name) ≡ Less) (λ h. name_cmp (name_at groups h) (Some name) ≡ Greater) order k
      → Contains order g → name_at groups g ≡ Some name → ⊥
  none_at_split order name k g parts index named =
      let equal : name_cmp (name_at groups (get_or order index.0 0)) (Some name) ≡ Equal =
      rw (get_or_default order index.0 0 g index.1, index.2, named) (tied_itself name_total (Some name)) in
      ⊎_elim
      (λ (lt : index.0 < k). let less : name_cmp (name_at groups (get_or order index.0 0)) (Some name) ≡ Less = parts.0 index.0 0 (omega arith) lt in cc)
      (λ (ge : k ≤ index.0). let greater : name_cmp (name_at groups (get_or order index.0 0)) (Some name) ≡ Greater = parts.1 index.0 0 ge index.1 in cc)
      (cases_lt index.0 k)

  -- what a binary search answers is the group of the name
  module _ (order : List ℕ) (is_order : IsOrder order groups) (distinct : AreDistinctBelow groups (length groups)) (name : List ℕ) where
    -- a binary search finds the group with the name
    pub index_from_search : (r : Result ℕ ℕ) → IsBinarySearchResult (λ g. name_cmp (name_at groups g) (Some name)) order r
        → MatchResult r (λ k. index_of groups name ≡ Some (get_or order k 0)) (λ _. index_of groups name ≡ None)
    index_from_search (Ok k) found = (index_of-is groups name distinct (get_or order k 0)).1 (name_exact _ _ (found 0))
    index_from_search (Err k) split = by_index (index_of groups name) refl
      where
        parts : IsPartitionPoint (λ g. name_cmp (name_at groups g) (Some name) ≡ Less) (λ g. name_cmp (name_at groups g) (Some name) ≡ Greater) order k
        parts = split (searchable_from_sorted name_total (name_at groups) order (Some name) (names_sorted order is_order.sorted))

        by_index : (o : Option ℕ) → index_of groups name ≡ o → o ≡ None
        by_index None e = refl
        by_index (Some g) e =
            let named : name_at groups g ≡ Some name = (index_of-is groups name distinct g).0 e in
            absurd (none_at_split order name k g parts (is_order.complete g (get_or_past groups g name named)) named)

-- one number more
pub counted_more : (from n : ℕ) → range_with_len from (n + 1) ≡ range_with_len from n ++ (from + n) ∷ []
counted_more from n =
    sym (map-id (range_with_len from (n + 1))) ∙ map-range_with_len_more (λ k. k) from n (from + n) refl
    ∙ ap (λ (l : List ℕ). l ++ (from + n) ∷ []) (map-id (range_with_len from n))

-- the numbers from one on have each group of theirs
pub has_counted : (from n g : ℕ) → from ≤ g → g < from + n → Contains (range_with_len from n) g
has_counted from n g ge lt =
    let at : from + (g - from) ≡ g = omega arith in
    (g - from, rw length-range_with_len (omega arith), get_or-range_with_len from n (g - from) g (omega arith) ∙ at)
