-- The steps of the iterator over all groups, and how many it gives.
use Rattle.std.proofs.Common.{◌≡◌, ℕ, ◌+◌, ◌<◌, ◌≤◌, [], ◌∷◌, ◌++◌, length, drop, None, refl, ap, ◌∙◌, arith, sym, ap₂, length-append}
use Rattle.std.proofs.lemmas.List.{drop_more, drop_all}
use Rattle.rsc_captures.proofs.Prelude.{Groups, GroupLists, groups_of, group_count, name_of, groups_from, patterns_from, names_left, max_index, IsFaultless, groups_before, IsAt, all_group_count, all_names_of}
use Rattle.rsc_captures.proofs.FaultsLemmas.{some_group}
use Rattle.rsc_captures.proofs.NamesLayoutLemmas.{groups_more}
use Rattle.std.proofs.lemmas.List.Sums.{sum_by-cons}

-- ---- the steps of the iterator over all groups

module _ (lists : GroupLists) (p : ℕ) where
  -- the next group comes first
  pub left_more : (g : ℕ) → g < group_count lists p → names_left lists p g ≡ (p, g, name_of lists p g) ∷ names_left lists p (g + 1)
  left_more g lt = ap (λ (groups : Groups). groups_from p g groups ++ patterns_from (p + 1) (drop (p + 1) lists)) (drop_more (groups_of lists p) g None lt)

  -- after the last group of a pattern come those of the next
  left_after : (g : ℕ) → group_count lists p ≤ g → names_left lists p g ≡ patterns_from (p + 1) (drop (p + 1) lists)
  left_after g le = ap (λ (groups : Groups). groups_from p g groups ++ patterns_from (p + 1) (drop (p + 1) lists)) (drop_all g (groups_of lists p) le)

  left_next : (g : ℕ) → group_count lists p ≤ g → p + 1 < length lists → names_left lists p g ≡ names_left lists (p + 1) 0
  left_next g le lt = left_after g le ∙ ap (patterns_from (p + 1)) (drop_more lists (p + 1) [] lt)

-- group g of pattern p is the next one that is left
pub record IsNext (lists : GroupLists) (old_p old_g p g next end : ℕ) : Type 0 where
  pub at : IsAt lists p g next end
  pub group : g < group_count lists p
  pub left : names_left lists old_p old_g ≡ names_left lists p g

-- where the walk is after that group
pub IsNext-passed : {lists : GroupLists} {old_p old_g p g next end : ℕ} → IsNext lists old_p old_g p g next end → IsAt lists p (g + 1) (next + 1) end
IsNext-passed is = record { pattern = is.at.pattern; group = omega (arith, is.group); at = omega (arith, is.at.at); ends = is.at.ends }

-- the walk goes on in its pattern
pub next_stays : (lists : GroupLists) (p g next end : ℕ) → IsAt lists p g next end → (next ≡ end → ⊥) → IsNext lists p g p g next end
next_stays lists p g next end at more = record { at = at; group = grind (arith, at.group, at.at, at.ends, more); left = refl }

-- the walk enters the next pattern
pub next_enters : (lists : GroupLists) (p g next end first : ℕ) → IsFaultless max_index lists → IsAt lists p g next end → next ≡ end
    → p + 1 < length lists
    → first ≡ groups_before lists (p + 1 + 1) → IsNext lists p g (p + 1) 0 next first
next_enters lists p g next end first faultless at done lt is = record {
  at = record {
    pattern = omega (arith, lt);
    group = omega arith;
    at = omega (arith, at.at, at.ends, done, groups_more lists p (omega arith));
    ends = omega (arith, is, groups_more lists (p + 1) lt);
  };
  group = some_group lists faultless (p + 1) lt;
  left = left_next lists p g (omega (arith, at.at, at.ends, done)) lt;
}

-- ---- how many groups an iterator over all of them gives

length-groups_from : (p g : ℕ) (groups : Groups) → length (groups_from p g groups) ≡ length groups
length-groups_from p g [] = refl
length-groups_from p g (name ∷ groups) = let rest : length (groups_from p (g + 1) groups) ≡ length groups = length-groups_from p (g + 1) groups in
    omega (arith, rest)

length-patterns_from : (p : ℕ) (lists : GroupLists) → length (patterns_from p lists) ≡ all_group_count lists
length-patterns_from p [] = refl
length-patterns_from p (groups ∷ lists) =
    length-append (groups_from p 0 groups) (patterns_from (p + 1) lists)
    ∙ ap₂ (λ m n. m + n) (length-groups_from p 0 groups) (length-patterns_from (p + 1) lists) ∙ sym (sum_by-cons length groups lists)

-- as many names as groups
pub names_counted : (lists : GroupLists) → length (all_names_of lists) ≡ all_group_count lists
names_counted lists = length-patterns_from 0 lists
