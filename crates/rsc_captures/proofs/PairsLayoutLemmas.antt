-- Where the slots of each group are, by the pairs of its pattern.
use Rattle.std.proofs.Common.{[], ◌⊎◌, ◌≡◌, ℕ, zero, suc, ◌+◌, ◌-◌, ◌*◌, ◌/◌, ◌<◌, ◌≤◌, nat_lt, nat_eq, cond, Bool, true, false, length, Option, Some, None, refl, sym, ap, ◌∙◌, subst, arith, option_and_then, ⊎_elim}
use Rattle.std.proofs.lemmas.Bool.{cases_lt, lt-ltb}
use Rattle.std.proofs.lemmas.Bool.Decides.{nat_tests}
use Rattle.std.proofs.lemmas.List.Sums.{get_or-le-sum_by}
use Rattle.rsc_captures.proofs.Prelude.{GroupLists, group_count, slot_of, slot_number, all_group_count, max_index, span_at, Captured, group_span}
use Rattle.rsc_captures.specs.Captured.{first_slot, slot_present}
use Rattle.rsc_captures.specs.PairsLayout.{slot_within, pair_number, slot_by_pairs, ArePairs, IsRest}
use Rattle.rsc_captures.proofs.CapturedLemmas.{none_past}
use Rattle.rsc_captures.proofs.SlotOwnersLemmas.{slot_explicit, slot_facts, pattern_in}

-- a number that isn't less
not_less : (i n : ℕ) → n ≤ i → nat_lt i n ≡ false
not_less i n le = grind (arith, nat_tests, le)

-- without a pattern no group has a pair
pub pairs_of_none : (groups : GroupLists) (n count first rest : ℕ) → count ≡ 0 → ArePairs groups None n count first rest
pairs_of_none groups n count first rest is i = rw (not_less i count (omega (arith, is))) refl

number_alone : (i : ℕ) → pair_number 0 0 i ≡ i
number_alone zero = refl
number_alone (suc i) = let later : nat_eq (suc i) 0 ≡ false = grind (arith, nat_tests) in rw later (omega arith)

-- where there is one pattern, the slots of group i are pair i
pub pairs_of_one : (groups : GroupLists) (q n : ℕ) → length groups ≡ 1 → ArePairs groups (Some q) n (n / 2) 0 0
pairs_of_one groups q n one i =
    let alone : nat_eq (length groups) 1 ≡ true = grind (arith, nat_tests, one) in
    rw (alone, number_alone i) (⊎_elim
    (λ (lt : i < n / 2). rw (lt-ltb i (n / 2) lt, lt-ltb (2 * i + 1) n (omega (arith, lt))) refl)
    (λ (ge : n / 2 ≤ i). rw (not_less i (n / 2) ge, not_less (2 * i + 1) n (omega (arith, ge))) refl)
    (cases_lt i (n / 2)))

-- where there are several patterns, those of a pattern begin with its own number, and go on from the rest
pub pairs_of_many : (groups : GroupLists) (q n count within rest : ℕ) → ¬ (length groups ≡ 1) → count ≡ group_count groups q → IsRest groups q rest
    → (within ≤ count) → (0 < within → q < n / 2) → ((i : ℕ) → 0 < i → i < within → rest + i < n / 2)
    → (within ≡ 0 → (count ≡ 0) ⊎ (n / 2 ≤ q)) → ((i : ℕ) → 0 < i → within ≤ i → i < count → n / 2 ≤ rest + i)
    → ArePairs groups (Some q) n within q rest
pairs_of_many groups q n count within rest many counts is at_most one all none past i =
    let several : nat_eq (length groups) 1 ≡ false = grind (arith, nat_tests, many) in
    rw several (⊎_elim (there i) (absent i) (cases_lt i within))
  where
    double : (j k : ℕ) → j ≡ k → 2 * (rest + k) ≡ 2 * (rest + j)
    double j k is = omega (arith, is)

    later : (i : ℕ) → nat_eq (suc i) 0 ≡ false
    later i = grind (arith, nat_tests)

    number : (i : ℕ) → i < group_count groups q → slot_number groups q i ≡ 2 * pair_number q rest i
    number zero lt = refl
    number (suc i) lt =
        let more : suc i ≡ i + 1 = omega arith in
        ap (slot_number groups q) more ∙ is i (omega (arith, lt)) ∙ double (suc i) (i + 1) more ∙ ap (λ b. 2 * cond b q (rest + suc i)) (sym (later i))

    pair_less : (i : ℕ) → i < within → 2 * pair_number q rest i + 1 < n
    pair_less zero lt = omega (arith, one lt)
    pair_less (suc i) lt = rw (later i) (omega (arith, all (suc i) (omega arith) lt))

    pair_past : (i : ℕ) → within ≤ i → i < count → n ≤ 2 * pair_number q rest i + 1
    pair_past zero le lt =
        let nothing : within ≡ 0 = omega (arith, le) in
        ⊎_elim (λ (h : count ≡ 0). absurd (omega (arith, h, lt))) (λ (h : n / 2 ≤ q). omega (arith, h)) (none nothing)
    pair_past (suc i) le lt = rw (later i) (omega (arith, past (suc i) (omega arith) le lt))

    there : (i : ℕ) → i < within → option_and_then (slot_within n) (slot_of groups q i) ≡ slot_by_pairs within q rest i
    there i lt =
        let here : i < group_count groups q = omega (arith, lt, at_most, counts) in
        rw (lt-ltb i within lt, lt-ltb i (group_count groups q) here, number i here, lt-ltb (2 * pair_number q rest i + 1) n (pair_less i lt)) refl

    absent : (i : ℕ) → within ≤ i → option_and_then (slot_within n) (slot_of groups q i) ≡ slot_by_pairs within q rest i
    absent i le = rw (not_less i within le) (⊎_elim
        (λ (lt : i < group_count groups q). rw (
          lt-ltb i (group_count groups q) lt,
          number i lt,
          not_less (2 * pair_number q rest i + 1) n (pair_past i le (omega (arith, lt, counts))),
        ) refl)
        (λ (ge : group_count groups q ≤ i). rw (not_less i (group_count groups q) ge) refl)
        (cases_lt i (group_count groups q)))

-- the rest by the slot of group 1, and its limit
pub rest_by_slot : (groups : GroupLists) (q slot : ℕ) → slot_of groups q 1 ≡ Some slot → slot + 1 < 2 * all_group_count groups
    → 2 * all_group_count groups ≤ max_index
    → (1 ≤ slot / 2) × IsRest groups q (slot / 2 - 1) × (((slot / 2 - 1) + group_count groups q) ≤ max_index + 1) × (q ≤ slot / 2 - 1)
rest_by_slot groups q slot is within limit =
    let facts = slot_facts groups q 1 slot is in
    let there = pattern_in groups q 1 facts.0 in
    let number = facts.1 ∙ slot_explicit groups q 0 in
    let some = get_or-le-sum_by length groups q [] there in (
      omega (arith, number, there),
      λ i lt. let more : i + 1 ≡ suc i = omega arith in rw more (slot_explicit groups q i ∙ omega (arith, number, there)),
      omega (arith, number, within, limit, some),
      omega (arith, number, there),
    )

-- a pattern without a group 1 has no other but the first
pub rest_of_none : (groups : GroupLists) (q : ℕ) → slot_of groups q 1 ≡ None → IsRest groups q 0 × (group_count groups q ≤ 1)
rest_of_none groups q none = ⊎_elim
    (λ (lt : 1 < group_count groups q). absurd (let some = rw (lt-ltb 1 (group_count groups q) lt) at none in cc))
    (λ (ge : group_count groups q ≤ 1). (λ i l. absurd (omega (arith, ge, l)), ge))
    (cases_lt 1 (group_count groups q))

-- a slot that is found is here, and the next is too
pub here : (groups : GroupLists) (pattern : Option ℕ) (n count first rest i slot : ℕ) → ArePairs groups pattern n count first rest
    → slot_by_pairs count first rest i ≡ Some slot → slot + 1 < n
here groups pattern n count first rest i slot are is = go pattern (are i ∙ is)
  where
    at_slot : (o : Option ℕ) → option_and_then (slot_within n) o ≡ Some slot → slot + 1 < n
    at_slot None e = absurd (cc)
    at_slot (Some s) e = ⊎_elim
        (λ (lt : s + 1 < n). let found : Some s ≡ Some slot = rw (lt-ltb (s + 1) n lt) at e in let same : s ≡ slot = cc in omega (arith, lt, same))
        (λ (ge : n ≤ s + 1). absurd (let no = rw (not_less (s + 1) n ge) at e in cc))
        (cases_lt (s + 1) n)

    go : (o : Option ℕ) → option_and_then (λ q. option_and_then (slot_within n) (first_slot groups q i)) o ≡ Some slot → slot + 1 < n
    go None e = absurd (cc)
    go (Some q) e = at_slot (first_slot groups q i) e

-- the span of a group is that of its slots, where both are here
pub span_here : (c : Captured) (i : ℕ) → group_span c i ≡ option_and_then (span_at c.offsets) (slot_present c i)
span_here c i = go c.pattern
  where
    go : (o : Option ℕ) → option_and_then (λ q. option_and_then (span_at c.offsets) (first_slot c.groups q i)) o ≡
        option_and_then (span_at c.offsets) (option_and_then (λ q. option_and_then (slot_within (length c.offsets)) (first_slot c.groups q i)) o)
    go None = refl
    go (Some q) = at_slot (first_slot c.groups q i)
      where
        at_slot : (o : Option ℕ) → option_and_then (span_at c.offsets) o ≡
            option_and_then (span_at c.offsets) (option_and_then (slot_within (length c.offsets)) o)
        at_slot None = refl
        at_slot (Some slot) = ⊎_elim
            (λ (lt : slot + 1 < length c.offsets). rw (lt-ltb (slot + 1) (length c.offsets) lt) refl)
            (λ (ge : length c.offsets ≤ slot + 1). rw (not_less (slot + 1) (length c.offsets) ge) (none_past c.offsets slot ge))
            (cases_lt (slot + 1) (length c.offsets))
