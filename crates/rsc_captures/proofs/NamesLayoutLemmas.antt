-- Names in one text, and where those of each pattern begin, as one more is added.
use Rattle.std.proofs.Common.{◌≡◌, ◌≢◌, ℕ, ◌+◌, ◌-◌, ◌<◌, ◌≤◌, true, false, cond, eqb, ⊎_elim, List, [], ◌∷◌, ◌++◌, length, take, drop, get_or, Bor, Option, Some, None, refl, ap, ap₂, ◌∙◌, arith, unwrap_or, IsUtf8, IsCharBoundary, slice_range, zero, suc, sym, add-one, sum_by}
use Rattle.std.proofs.lemmas.Bool.{cases_lt, eqb-false}
use Rattle.std.proofs.lemmas.Grind.{common_steps}
use Rattle.std.proofs.lemmas.List.{drop-append-le, take-append-le, get_or_append_left, length-append, map-append, length-drop, length_push}
use Rattle.std.proofs.lemmas.List.Elements.{All-push, All-tail}
use Rattle.std.proofs.Math.Seq.{drop-append_seam, take-length, get_or-append_seam}
use Rattle.std.proofs.lemmas.Str.{IsCharBoundary-at_seam, IsCharBoundary-end}
use Rattle.rsc_captures.proofs.Prelude.{Entry, NO_NAME, Groups, lists_in, name_held, names_held, entry_held, IsCut, AreCut, AreHeld, GroupLists, group_count, explicit_before, all_group_count, max_index, IsFaultless, groups_before, AreFirsts}
use borrow.Author.Count.{below_more}
use Rattle.std.proofs.lemmas.List.Sums.{sum_by_more}
use Rattle.rsc_captures.proofs.GroupsLemmas.{Handed, handed, in_lists, group_count_in}
use Rattle.rsc_captures.proofs.FaultsLemmas.{some_group, before_more}

-- ---- names in one text, as one more is added

module _ (text more : List ℕ) where
  -- where the text may be cut, the longer text may be
  char_boundary_stays : (i : ℕ) → IsUtf8 more → IsCharBoundary text i → IsCharBoundary (text ++ more) i
  char_boundary_stays i utf8 may_cut =
      ⊎_elim
      (λ (lt : i < length text). let same : get_or (text ++ more) i 0 ≡ get_or text i 0 = get_or_append_left text more 0 i lt in
      (rw length-append (omega (arith, lt)), λ _ high. rw same (may_cut.1 lt (rw same at high))))
      (λ (ge : length text ≤ i). let at_seam : i ≡ length text = omega (arith, ge, may_cut.0) in
      rw at_seam (IsCharBoundary-at_seam (text ++ more) text more refl utf8))
      (cases_lt i (length text))

  cut_stays : (p : Entry) → IsUtf8 more → IsCut text p → IsCut (text ++ more) p
  cut_stays p utf8 cut = record { start = char_boundary_stays p.start utf8 cut.start; end = char_boundary_stays (p.start + p.length) utf8 cut.end }

  -- where an entry says, the longer text has the same bytes
  part_stays : (p : Entry) → IsCut text p → slice_range (text ++ more) p.start (p.start + p.length) ≡ slice_range text p.start (p.start + p.length)
  part_stays p cut =
      let rest : (p.start + p.length) - p.start ≤ length (drop p.start text) = rw length-drop (omega (arith, cut.end.0)) in
      ap (take ((p.start + p.length) - p.start)) (drop-append-le p.start text more cut.start.0)
      ∙ take-append-le ((p.start + p.length) - p.start) (drop p.start text) more rest

  name_stays : (p : Entry) → (p.length ≢ NO_NAME → IsCut text p) → name_held (text ++ more) p ≡ name_held text p
  name_stays p cut =
      elim (eqb p.length NO_NAME) as (λ b. eqb p.length NO_NAME ≡ b
      → cond b None (Some (slice_range (text ++ more) p.start (p.start + p.length))) ≡ cond b None (Some (slice_range text p.start (p.start + p.length)))) [
        | true ↦ λ none. refl
        | false ↦ λ some. ap Some (part_stays p (cut (eqb-false p.length NO_NAME some)))
      ] refl

  names_stay : (entries : List Entry) → AreCut text entries → names_held (text ++ more) entries ≡ names_held text entries
  names_stay [] cuts = refl
  names_stay (p ∷ entries) cuts = ap₂ (λ name names. name ∷ names) (name_stays p (cuts 0 p (omega arith)))
      (names_stay entries (All-tail (λ p. p.length ≢ NO_NAME → IsCut text p) p entries cuts))

  cuts_stay : (entries : List Entry) → IsUtf8 more → AreCut text entries → AreCut (text ++ more) entries
  cuts_stay entries utf8 cuts k d lt le = cut_stays (get_or entries k d) utf8 (cuts k d lt le)

-- its entry says the name that is added
name_added : (text : List ℕ) (name : Option (List ℕ)) → length (unwrap_or name []) < NO_NAME
    → name_held (text ++ unwrap_or name []) (entry_held text name) ≡ name
name_added text None short = refl
name_added text (Some bytes) short =
    let some : eqb (length bytes) NO_NAME ≡ false = grind (arith, common_steps) in
    let all : (length text + length bytes) - length text ≡ length bytes = omega arith in
    rw some (ap Some (ap (take ((length text + length bytes) - length text)) (drop-append_seam text bytes) ∙ ap (λ n. take n bytes) all
    ∙ take-length bytes))

cut_added : (text : List ℕ) (name : Option (List ℕ)) → IsUtf8 (unwrap_or name []) → (entry_held text name).length ≢ NO_NAME
    → IsCut (text ++ unwrap_or name []) (entry_held text name)
cut_added text None utf8 some = absurd (some refl)
cut_added text (Some bytes) utf8 some = record {
  start = IsCharBoundary-at_seam (text ++ bytes) text bytes refl utf8;
  end = rw (← length-append text bytes) (IsCharBoundary-end (text ++ bytes));
}

-- one more group
pub held_more : (text : List ℕ) (entries : List Entry) (groups : Groups) (name : Option (List ℕ)) → IsUtf8 (unwrap_or name [])
    → length (unwrap_or name []) < NO_NAME → AreHeld text entries groups
    → AreHeld (text ++ unwrap_or name []) (entries ++ entry_held text name ∷ []) (groups ++ name ∷ [])
held_more text entries groups name utf8 short held = record {
  are = map-append (name_held (text ++ unwrap_or name [])) entries (entry_held text name ∷ [])
      ∙ ap₂ (λ names one. names ++ one ∷ []) (names_stay text (unwrap_or name []) entries held.cuts ∙ held.are) (name_added text name short);
  cuts = All-push (λ p. p.length ≢ NO_NAME → IsCut (text ++ unwrap_or name []) p) entries (entry_held text name)
      (cuts_stay text (unwrap_or name []) entries utf8 held.cuts) (cut_added text name utf8);
}

-- ---- where the names of the patterns begin, as one more is pushed

-- one pattern more
pub firsts_push : (firsts : List ℕ) (lists : GroupLists) (n first : ℕ) → AreFirsts firsts lists n → first ≡ groups_before lists (n + 1)
    → AreFirsts (firsts ++ first ∷ []) lists (n + 1)
firsts_push firsts lists n first are is = record {
  count = length_push firsts first ∙ ap (λ k. k + 1) are.count;
  each = below_more (λ p. get_or (firsts ++ first ∷ []) p 0 ≡ groups_before lists p) (n + 1) earlier last;
}
  where
    earlier : (p : ℕ) → p < n + 1 → get_or (firsts ++ first ∷ []) p 0 ≡ groups_before lists p
    earlier p lt = get_or_append_left firsts (first ∷ []) 0 p (omega (arith, are.count)) ∙ are.each p lt

    last : get_or (firsts ++ first ∷ []) (n + 1) 0 ≡ groups_before lists (n + 1)
    last = rw (← are.count) (get_or-append_seam firsts first [] 0) ∙ is

-- the groups of one more pattern
pub groups_more : (lists : GroupLists) (p : ℕ) → p < length lists → groups_before lists (p + 1) ≡ groups_before lists p + group_count lists p
groups_more lists p lt = sum_by_more length lists p [] lt

-- the same where the groups are handed in
pub first_more : (lists : List (Bor Handed)) (p first : ℕ) → p < length lists → first ≡ groups_before (lists_in lists) p
    → first + length (handed lists p) ≡ groups_before (lists_in lists) (p + 1)
first_more lists p first lt is = omega (arith, is, groups_more (lists_in lists) p (in_lists lists p lt), group_count_in lists p lt)

-- each of the first n patterns has one group more than its explicit groups
pub groups_so_far : (lists : GroupLists) (n : ℕ) → n ≤ length lists → ((p : ℕ) → p < length lists → 0 < group_count lists p)
    → groups_before lists n ≡ n + explicit_before lists n
groups_so_far lists zero le nonempty = refl
groups_so_far lists (suc n) le nonempty =
    let lt : n < length lists = omega arith in
    let some : 0 < group_count lists n = nonempty n lt in
    let before : groups_before lists n ≡ n + explicit_before lists n = groups_so_far lists n (omega arith) nonempty in
    let all = groups_more lists n lt in
    let explicit = before_more lists n lt in
    rw (← add-one) (omega arith)

-- the groups of all patterns
pub all_before : (lists : GroupLists) → groups_before lists (length lists) ≡ all_group_count lists
all_before lists = ap (sum_by length) (take-length lists)

-- all groups are the first of each pattern and the explicit ones
pub all_groups_are : (lists : GroupLists) → IsFaultless max_index lists → all_group_count lists ≡ length lists + explicit_before lists (length lists)
all_groups_are lists faultless = sym (all_before lists)
    ∙ groups_so_far lists (length lists) (omega arith) (some_group lists faultless)
