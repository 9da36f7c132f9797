-- More boundaries than the states have, the assertions of states, and a run's records one after the other.
use Rattle.std.proofs.Common.{◌≡◌, ◌≢◌, ℕ, ◌+◌, ◌-◌, ◌<◌, ◌≤◌, ◌||◌, Bool, true, false, nat_eq, nat_lt, cond, List, [], ◌∷◌, ◌++◌, length, take, get_or, set, get_or-set_same, get_or-set_other, length-set, refl, sym, ap, ap₂, ◌∙◌, subst, arith, slice_get, slice_index, Option, Some, None, append_assoc}
use Rattle.std.specs.List.{list_any}
use Rattle.std.specs.FinSet as sets
use Rattle.std.proofs.lemmas.Bool.{or_left}
use Rattle.std.proofs.lemmas.Bool.Decides.{nat_tests}
use Rattle.std.proofs.lemmas.List.{take_all, take_more}
use Rattle.rsc_alphabet.specs.ByteSets.{Numbers}
use Rattle.rsc_alphabet.specs.Partitions.{AreTogether, class_map}
use Rattle.rsc_alphabet.specs.PartitionsLaws.{contains-joined}
use Rattle.rsc_look.specs.declared.assertion.Look.{Look}
use Rattle.rsc_look.specs.declared.assertion.Look.TheVariants.{WordUnicode}
use Rattle.rsc_look.specs.LookSets.{Looks, unicode_word_assertions}
use Rattle.rsc_nfa.specs.declared.state.State.{State}
use Rattle.rsc_nfa.specs.declared.state.State.TheVariants.{ByteRange, Assert, Fork, Capture, Accept}
use Rattle.rsc_nfa.specs.Classes.{boundaries_of_states, asks_characters, has_unicode_assertion, asserts, IsFiner, KeepsRuns, AreInterchangedBy}
use Rattle.rsc_nfa.specs.Steps.{is_capture_of, or_earlier, recorded}
use Rattle.rsc_nfa.specs.RecordsLayout.{slot_recorded, put_offset}
use Rattle.rsc_nfa.proofs.ClassesLemmas.{OneClassIsTogether, HasBoundariesOfStates, HasBoundariesOfStates-from}

-- ---- more boundaries

-- the boundaries of all states are among those and others
pub HasBoundariesOfStates-joined : (states : List State) (t : ℕ) (more : Numbers)
    → HasBoundariesOfStates (sets.contains (sets.union (boundaries_of_states states t) more)) states t
HasBoundariesOfStates-joined states t more s state e q m =
    contains-joined (boundaries_of_states states t) more q
    ∙ or_left (sets.contains (boundaries_of_states states t) q) (sets.contains more q) (HasBoundariesOfStates-from states t s state e q m)

-- a boundary parts the bytes on both sides of it
pub parts_neighbours : (p : ℕ → Bool) (classes : List ℕ) (b : ℕ) → OneClassIsTogether p → classes ≡ class_map p → b < 255 → p b ≡ true
    → slice_index classes b ≡ slice_index classes (b + 1) → ⊥
parts_neighbours p classes b law is l at_boundary same =
    (law b (b + 1) (omega (arith, l)) (omega (arith, l))).0 (subst (λ m. slice_index m b ≡ slice_index m (b + 1)) is same)
    b (omega arith) (omega arith) at_boundary

-- more boundaries make a finer map
pub finer_from : (p q : ℕ → Bool) (finer : List ℕ) → OneClassIsTogether p → OneClassIsTogether q → finer ≡ class_map q
    → ((k : ℕ) → p k ≡ true → q k ≡ true) → IsFiner finer (class_map p)
finer_from p q finer of_p of_q is has = record {
  together = λ b c l m same.
      let apart : AreTogether q b c = (of_q b c l m).0 (subst (λ x. slice_index x b ≡ slice_index x c) is same) in
      (of_p b c l m).1 (λ k low high at_boundary. apart k low high (has k at_boundary));
}

-- and a finer map keeps the runs
pub finer_keeps : (classes finer : List ℕ) (states : List State) (t : ℕ) (chars : ℕ → Bool) → KeepsRuns classes states t chars
    → IsFiner finer classes
    → KeepsRuns finer states t chars
finer_keeps classes finer states t chars keeps is = record { kept = λ h k same. keeps.kept h k (coarser h k same) }
  where
    coarser : (h k : List ℕ) → AreInterchangedBy finer (has_unicode_assertion states) h k → AreInterchangedBy classes (has_unicode_assertion states) h k
    coarser h k same = record {
      first = same.first;
      second = same.second;
      same_length = same.same_length;
      same_class = λ i l. is.together (slice_index h i) (slice_index k i) (same.first i 0 l) (same.second i 0 (omega (arith, l, same.same_length)))
          (same.same_class i l);
      in_ascii = same.in_ascii;
    }

-- ---- the assertions of states

-- the set has the assertions of the states
abbrev pub HasLooks : Looks → List State → Type 0
HasLooks set states = (look : Look) → sets.contains set look ≡ list_any (asserts look) states

-- after the last state
pub HasLooks-all : (set : Looks) (states : List State) (n : ℕ) → length states ≤ n → HasLooks set (take n states) → HasLooks set states
HasLooks-all set states n l so_far look = so_far look ∙ ap (λ (x : List State). list_any (asserts look) x) (take_all n states l)

any_or : (f g : Look → Bool) (looks : List Look) → list_any (λ u. f u || g u) looks ≡ (list_any f looks || list_any g looks)
any_or f g [] = refl
any_or f g (u ∷ rest) = ap (λ x. (f u || g u) || x) (any_or f g rest) ∙ by_cases (f u) (g u) (list_any f rest) (list_any g rest)
  where
    by_cases : (a b c d : Bool) → ((a || b) || (c || d)) ≡ ((a || c) || (b || d))
    by_cases a b c d = grind (arith, nat_tests)

of_state : (state : State) → list_any (λ u. asserts u state) unicode_word_assertions ≡ asks_characters state
of_state (Assert WordUnicode next) = refl
of_state (Assert _ next) = refl
of_state _ = refl

-- one of the Unicode assertions is a member exactly if some state asks for characters
pub unicode_of_states : (states : List State) → list_any (λ u. list_any (asserts u) states) unicode_word_assertions ≡ has_unicode_assertion states
unicode_of_states [] = refl
unicode_of_states (s ∷ rest) =
    any_or (λ u. asserts u s) (λ u. list_any (asserts u) rest) unicode_word_assertions ∙ ap₂ (λ x y. x || y) (of_state s) (unicode_of_states rest)

-- the same of a set that has the assertions of the states
pub HasLooks-unicode : (set : Looks) (states : List State) → HasLooks set states
    → list_any (λ u. sets.contains set u) unicode_word_assertions ≡ has_unicode_assertion states
HasLooks-unicode set states has = same unicode_word_assertions ∙ unicode_of_states states
  where
    same : (us : List Look) → list_any (λ u. sets.contains set u) us ≡ list_any (λ u. list_any (asserts u) states) us
    same [] = refl
    same (u ∷ us) = ap₂ (λ x y. x || y) (has u) (same us)

-- ---- a run's records, one after the other

nothing_earlier : (o : Option ℕ) → or_earlier o None ≡ o
nothing_earlier None = refl
nothing_earlier (Some i) = refl

earlier_assoc : (a b c : Option ℕ) → or_earlier (or_earlier a b) c ≡ or_earlier a (or_earlier b c)
earlier_assoc None b c = refl
earlier_assoc (Some i) b c = refl

-- what leaving a place records
abbrev pub left_at : List State → ℕ → ℕ × ℕ → Option ℕ
left_at states slot p = cond (is_capture_of slot (slice_get states p.0)) (Some p.1) None

recorded_more : (states : List State) (slot : ℕ) (xs : List (ℕ × ℕ)) (p q : ℕ × ℕ)
    → recorded states (xs ++ p ∷ q ∷ []) slot ≡ or_earlier (left_at states slot p) (recorded states (xs ++ p ∷ []) slot)
recorded_more states slot [] p q = sym (nothing_earlier (left_at states slot p))
recorded_more states slot (x ∷ []) p q =
    ap (λ o. or_earlier o (left_at states slot x)) (recorded_more states slot [] p q) ∙ earlier_assoc (left_at states slot p) None (left_at states slot x)
recorded_more states slot (x ∷ (y ∷ xs)) p q =
    ap (λ o. or_earlier o (left_at states slot x)) (recorded_more states slot (y ∷ xs) p q)
    ∙ earlier_assoc (left_at states slot p) (recorded states ((y ∷ xs) ++ p ∷ []) slot) (left_at states slot x)

-- the slots have what the first places of a run record
abbrev pub HasRecorded : List State → List (ℕ × ℕ) → List (Option ℕ) → Type 0
HasRecorded states run offsets = (slot : ℕ) → slot < length offsets → get_or offsets slot None ≡ recorded states run slot

put_at : (offsets : List (Option ℕ)) (state : Option State) (at slot : ℕ) → slot < length offsets
    → get_or (put_offset offsets (slot_recorded state) at) slot None
    ≡ or_earlier (cond (is_capture_of slot state) (Some at) None) (get_or offsets slot None)
put_at offsets (Some (Capture c next)) at slot l = go (nat_eq c slot) refl
  where
    go : (b : Bool) → nat_eq c slot ≡ b
        → get_or (cond (nat_lt c (length offsets)) (set offsets c (Some at)) offsets) slot None
        ≡ or_earlier (cond b (Some at) None) (get_or offsets slot None)
    go true e =
        let same : c ≡ slot = grind (arith, nat_tests) in
        let here : nat_lt c (length offsets) ≡ true = grind (arith, nat_tests) in
        rw (here, same) (get_or-set_same offsets slot (Some at) None l)
    go false e =
        let differ : slot ≢ c = grind (arith, nat_tests) in
        either (nat_lt c (length offsets)) differ
      where
        either : (b : Bool) → slot ≢ c → get_or (cond b (set offsets c (Some at)) offsets) slot None ≡ get_or offsets slot None
        either true differ = get_or-set_other offsets c slot (Some at) None differ
        either false differ = refl
put_at offsets (Some (ByteRange a b next)) at slot l = refl
put_at offsets (Some (Assert look next)) at slot l = refl
put_at offsets (Some (Fork a b)) at slot l = refl
put_at offsets (Some (Accept p)) at slot l = refl
put_at offsets None at slot l = refl

-- and as many slots stay
pub length-put : (offsets : List (Option ℕ)) (o : Option ℕ) (at : ℕ) → length (put_offset offsets o at) ≡ length offsets
length-put offsets None at = refl
length-put offsets (Some slot) at = go (nat_lt slot (length offsets))
  where
    go : (b : Bool) → length (cond b (set offsets slot (Some at)) offsets) ≡ length offsets
    go true = length-set offsets slot (Some at)
    go false = refl

-- after one step more
pub HasRecorded-more : (states : List State) (run : List (ℕ × ℕ)) (offsets : List (Option ℕ)) (k : ℕ) (p : ℕ × ℕ) → 1 ≤ k → k < length run
    → p ≡ get_or run (k - 1) p → HasRecorded states (take k run) offsets
    → HasRecorded states (take (k + 1) run) (put_offset offsets (slot_recorded (slice_get states p.0)) p.1)
HasRecorded-more states run offsets k p low high at so_far slot l =
    let room : slot < length offsets = omega (arith, l, length-put offsets (slot_recorded (slice_get states p.0)) p.1) in
    let before : List (ℕ × ℕ) = take (k - 1) run in
    let next : k - 1 + 1 ≡ k = omega (arith, low) in
    let q : ℕ × ℕ = get_or run k p in
    let here : take k run ≡ before ++ p ∷ [] =
    ap (λ n. take n run) (sym next) ∙ take_more run (k - 1) p (omega (arith, low, high)) ∙ ap (λ x. before ++ x ∷ []) (sym at) in
    let both : take (k + 1) run ≡ before ++ p ∷ q ∷ [] =
    take_more run k p high ∙ ap (λ xs. xs ++ q ∷ []) here ∙ append_assoc before (p ∷ []) (q ∷ []) in
    put_at offsets (slice_get states p.0) p.1 slot room
    ∙ ap (λ o. or_earlier (left_at states slot p) o) (so_far slot room ∙ ap (λ xs. recorded states xs slot) here)
    ∙ sym (ap (λ xs. recorded states xs slot) both ∙ recorded_more states slot before p q)
