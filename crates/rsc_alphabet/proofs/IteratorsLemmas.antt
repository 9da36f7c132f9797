-- The steps of the iterators of a class map, and what they give.
use Rattle.std.proofs.Common.{◌≡◌, ℕ, ◌+◌, ◌*◌, ◌-◌, ◌<◌, ◌≤◌, Bool, true, false, not, List, [], ◌∷◌, ◌++◌, map, filter, refl, sym, ap, ap₂, ◌∙◌, arith, nat_eq, slice_index, Some, None, ◌^◌, length, append-nil, nat_le, ⊎_elim, set, below_more, get_or-set_same, get_or-set_other, zero, suc, ◌||◌, ◌&&◌, slice_get, length-append, pow_mono, nat_cmp, get_or, nat_lt, IsSome, All, ◌⊎◌, inl, inr, ◌==◌, Contains}
use Rattle.std.proofs.lemmas.Bool.{eq-eqb, ne_eqb, cases_lt, le-leb, lt-leb, eqb-true}
use Rattle.rsc_alphabet.proofs.Prelude.{from_to, bytes, from_to_none, from_to_first, length-from_to, get_or-from_to, filter_same, filter_first, filter_none, filter_parts, Symbol, byte, end_of_input, byte_of, end_symbol, symbols, elements_of, representing, end_if_unbounded, representatives_of, has_bit, Numbers, members, symbols_left, elements_left, class_of, number_of, class_at, class_of_none, class_of_more, class_of-between}
use Rattle.std.proofs.lemmas.Option.{slice_get-get_or}
use Rattle.std.specs.declared.ops.Bound.{Bound}
use Rattle.std.specs.Range.Bound.{start_index, end_index}
use Rattle.std.proofs.lemmas.List.{ext_get_or, get_or-map, get_or_append_left, get_or_push, length-map}
use Rattle.std.specs.FinSet as sets
use Rattle.std.specs.FinSet.{contains-empty}
use Rattle.std.specs.declared.ops.Bound.TheVariants.{Included, Excluded, Unbounded}
use Rattle.std.proofs.lemmas.Bool.Decides.{nat_tests}
use Rattle.std.proofs.lemmas.List.Sums.{length-filter, count_by-le-length}
use Rattle.std.proofs.lemmas.List.Elements.{All-nil, All-cons, All-append, All-map, All-filter, All-weaker, All-from_get_or, filter_passes, All-contains, Contains-append_left, Contains-push}
use Rattle.std.proofs.Math.Nat.{mul-le-mul_right}
use Rattle.rsc_alphabet.specs.Partitions.{LastClassIsGreatest}
use Rattle.rsc_alphabet.specs.Iterators.{symbol_count}
use Rattle.rsc_alphabet.proofs.ByteSetsLemmas.{Contains-filter, all_bytes}

-- ---- the classes

abbrev class_count : List ℕ → ℕ
class_count classes = slice_index classes 255 + 1

-- at first all symbols are left
pub symbols_left_all : (classes : List ℕ) → symbols_left classes 0 ≡ symbols classes
symbols_left_all classes = rw (le-leb 0 (slice_index classes 255 + 1) (omega arith)) refl

-- a class comes next, then the end, then nothing
pub symbols_left_more : (classes : List ℕ) (next : ℕ) → next < slice_index classes 255 + 1
    → symbols_left classes next ≡ byte next ∷ symbols_left classes (next + 1)
symbols_left_more classes next l =
    rw (from_to_first next (class_count classes) l, le-leb next (class_count classes) (omega arith), le-leb (next + 1) (class_count classes) (omega arith)) refl

-- after the last class comes the end
pub symbols_left_end : (classes : List ℕ) (next : ℕ) → next ≡ slice_index classes 255 + 1
    → symbols_left classes next ≡ end_symbol classes ∷ symbols_left classes (next + 1)
symbols_left_end classes next e =
    let none = from_to_none (next + 1) (class_count classes) (omega arith) in
    rw (
      from_to_none next (class_count classes) (omega arith),
      none,
      le-leb next (class_count classes) (omega arith),
      lt-leb (next + 1) (class_count classes) (omega arith),
    ) refl

-- after the end comes nothing
pub symbols_left_none : (classes : List ℕ) (next : ℕ) → slice_index classes 255 + 1 < next → symbols_left classes next ≡ []
symbols_left_none classes next l = rw (from_to_none next (class_count classes) (omega arith), lt-leb next (class_count classes) l) refl

-- a symbol for each class, and the end
pub length_symbols : (classes : List ℕ) → length (symbols classes) ≡ slice_index classes 255 + 2
length_symbols classes =
    rw (length-append, length-map) (omega (arith, length-from_to 0 (slice_index classes 255 + 1)))

-- each class is at the index of its number
pub slice_get_symbols : (classes : List ℕ) (c : ℕ) → c ≤ slice_index classes 255 → slice_get (symbols classes) c ≡ Some (byte c)
slice_get_symbols classes c l =
    let n : ℕ = slice_index classes 255 + 1 in
    let low : c < length (from_to 0 n) = omega (arith, length-from_to 0 n) in
    slice_get-get_or (symbols classes) c (byte 0) (omega (arith, length_symbols classes))
    ∙ ap Some (get_or_append_left (map (λ k. byte k) (from_to 0 n)) (end_symbol classes ∷ []) (byte 0) c (rw length-map low)
    ∙ get_or-map (λ k. byte k) (from_to 0 n) c 0 (byte 0) low ∙ ap byte (get_or-from_to 0 n c 0 (omega arith) ∙ omega arith))

-- ---- the elements of a class

-- the elements of an end of the input
pub elements_of-end : (classes : List ℕ) (unit : Symbol) → byte_of unit ≡ None → elements_left [] true ≡ elements_of classes unit
elements_of-end classes (byte b) none = cc
elements_of-end classes (end_of_input n) none = refl

-- the elements of the class whose number is that of a byte unit
pub elements_of-byte : (classes : List ℕ) (unit : Symbol) (class : ℕ) (s : Numbers) → byte_of unit ≡ Some class
    → ((b : ℕ) → b < 256 → sets.contains s b ≡ nat_eq (slice_index classes b) class) →
    elements_left (members s) false ≡ elements_of classes unit
elements_of-byte classes (byte b) class s is same =
    let e : b ≡ class = cc in
    rw e (append-nil _ ∙ ap (λ t. map (λ k. byte k) t) (filter_same (λ k. sets.contains s k) (λ k. nat_eq (slice_index classes k) class) 0 256
    (λ k low high. same k high)))
elements_of-byte classes (end_of_input n) class s is same = cc

-- ---- the representatives of a range

-- a set whose members are the bytes from `low` up to, and without, `high` whose class isn't their predecessor's, and `low`
representing_are : (classes : List ℕ) (s : Numbers) (low high : ℕ) → low ≤ high → high ≤ 256
    → ((b : ℕ) → b < low → sets.contains s b ≡ false)
    → ((b : ℕ) → high ≤ b → b < 256 → sets.contains s b ≡ false) →
    ((b : ℕ) → low ≤ b → b < high → sets.contains s b ≡ (nat_eq b low || not (nat_eq (slice_index classes b) (slice_index classes (b - 1)))))
    → members s ≡ representing classes low high
representing_are classes s low high l h before after inside =
    filter_parts (λ b. sets.contains s b) 0 low 256 (omega arith) (omega arith)
    ∙ ap₂ (λ x y. x ++ y) (filter_none (λ b. sets.contains s b) 0 low (λ b p q. before b q)) (filter_parts (λ b. sets.contains s b) low high 256 l h)
    ∙ ap (λ x. filter (λ b. sets.contains s b) (from_to low high) ++ x) (filter_none (λ b. sets.contains s b) high 256 after) ∙ append-nil _
    ∙ filter_same (λ b. sets.contains s b) (λ b. nat_eq b low || not (nat_eq (slice_index classes b) (slice_index classes (b - 1)))) low high inside

-- an empty range has no representative
pub representing_none : (classes : List ℕ) (low high : ℕ) → high ≤ low → representing classes low high ≡ []
representing_none classes low high h = rw (from_to_none low high h) refl

-- the members of the set that the code makes are the representatives
pub representative_bytes_are : (classes : List ℕ) (starts part s : Numbers) (low high : ℕ) → low < high → high ≤ 256 →
    ((b : ℕ) → b < 256 → sets.contains starts b ≡ not (nat_eq (slice_index classes b) (slice_index classes (b - 1)))) →
    ((b : ℕ) → sets.contains part b ≡ (nat_le low b && nat_le b (high - 1) && sets.contains starts b)) →
    ((b : ℕ) → sets.contains s b ≡ (nat_eq b low || sets.contains part b)) → members s ≡ representing classes low high
representative_bytes_are classes starts part s low high l h changed parted added =
    representing_are classes s low high (omega arith) h
    (λ b p. added b ∙ rw (ne_eqb b low (λ e. omega arith), parted b, lt-leb low b p) refl)
    (λ b p q. added b ∙ rw (ne_eqb b low (λ e. omega arith), parted b, le-leb low b (omega arith), lt-leb b (high - 1) (omega arith)) refl)
    (λ b p q. added b ∙ ap (λ x. nat_eq b low || x) (parted b ∙ rw (le-leb low b p, le-leb b (high - 1) (omega arith)) (changed b (omega arith))))

-- ---- sets by their blocks

-- the empty set has no members
pub members_none : members sets.empty ≡ []
members_none = filter_none (λ b. sets.contains sets.empty b) 0 256 (λ b p q. contains-empty nat_cmp b)

-- what a test says of each of the four blocks
pub by_blocks : (s : Numbers) (p : ℕ → Bool) → ((i : ℕ) → i < 64 → sets.contains s i ≡ p i)
    → ((i : ℕ) → i < 64 → sets.contains s (64 + i) ≡ p (64 + i)) →
    ((i : ℕ) → i < 64 → sets.contains s (128 + i) ≡ p (128 + i)) → ((i : ℕ) → i < 64 → sets.contains s (192 + i) ≡ p (192 + i)) → (b : ℕ)
    → b < 256
    → sets.contains s b ≡ p b
by_blocks s p first second third fourth b l =
    ⊎_elim (λ (h : b < 64). first b h) (λ (h : 64 ≤ b).
    ⊎_elim (λ (k : b < 128). later 64 h (second (b - 64) (omega arith))) (λ (k : 128 ≤ b).
    ⊎_elim (λ (m : b < 192). later 128 k (third (b - 128) (omega arith))) (λ (m : 192 ≤ b). later 192 m (fourth (b - 192) (omega arith)))
    (cases_lt b 192)) (cases_lt b 128)) (cases_lt b 64)
  where
    later : (start : ℕ) → start ≤ b → sets.contains s (start + (b - start)) ≡ p (start + (b - start)) → sets.contains s b ≡ p b
    later start low same = let e : start + (b - start) ≡ b = omega arith in rw e at same

-- the block of the bytes 1 to 64, shifted by one byte
pub first_starts : (classes : List ℕ) (block up i : ℕ) → i < 64
    → ((i : ℕ) → i < 64 → has_bit block i ≡ not (nat_eq (slice_index classes (1 + i)) (slice_index classes (1 + i - 1)))) →
    has_bit up 0 ≡ false → ((i : ℕ) → 0 < i → i < 64 → has_bit up i ≡ has_bit block (i - 1))
    → has_bit up i ≡ not (nat_eq (slice_index classes i) (slice_index classes (i - 1)))
first_starts classes block up zero l each first others = first ∙ rw (eq-eqb (slice_index classes 0) (slice_index classes 0) refl) refl
first_starts classes block up (suc k) l each first others =
    let e : suc k - 1 ≡ k = omega arith in
    let f : 1 + k ≡ suc k = omega arith in
    others (suc k) (omega arith) l ∙ rw e (rw (f, e) at (each k (omega arith)))

-- ---- numbers

-- a list of 256 numbers, each at the index that it names, is that of the bytes
pub is_bytes : (xs : List ℕ) → length xs ≡ 256 → ((k : ℕ) → k < 256 → slice_index xs k ≡ k) → xs ≡ bytes
is_bytes xs long each =
    ext_get_or 0 xs bytes (long ∙ sym (length-from_to 0 256))
    (λ i l. let h : i < 256 = omega (arith, long) in each i h ∙ sym (get_or-from_to 0 256 i 0 h ∙ omega arith))

-- each byte is at its index
pub bytes_own : (b : ℕ) → b < 256 → slice_index bytes b ≡ b
bytes_own b l = get_or-from_to 0 256 b 0 l ∙ omega arith

-- the exponent after that of the greatest power of two below a number is the least that is enough
pub least_exponent : (n r k : ℕ) → 2 ^ r ≤ n → n < 2 ^ k → r + 1 ≤ k
least_exponent n r k enough below = grind (arith, pow_mono {i = k} {j = r})

-- one more byte has its class
pub class_more : (f : ℕ → ℕ) (classes : List ℕ) (b : ℕ) → length classes ≡ 256 → ((k : ℕ) → k < b → slice_index classes k ≡ f k)
    → b < 256 →
    (k : ℕ) → k < b + 1 → slice_index (set classes b (f b)) k ≡ f k
class_more f classes b long before h =
    below_more _ b (λ k l. get_or-set_other classes b k (f b) 0 (omega arith) ∙ before k l) (get_or-set_same classes b (f b) 0 (omega arith))

-- ---- the first representative

-- the first byte of a range is its first representative
pub first_representative : (classes : List ℕ) (from to : Bound ℕ) → start_index from < end_index to 256 →
    (rest : List Symbol) × (representatives_of classes from to ≡ byte (start_index from) ∷ rest)
first_representative classes from to l = (
  _,
  ap (λ t. map (λ b. byte b) t ++ end_if_unbounded classes to)
      (filter_first (λ b. nat_eq b (start_index from) || not (nat_eq (slice_index classes b) (slice_index classes (b - 1)))) (start_index from)
      (end_index to 256) l
      (rw (eq-eqb (start_index from) (start_index from) refl) refl)),
)

-- ---- what the iterators of a class map give stays within its alphabet; the length of a row

-- each number of a range is below its end
pub All-from_to : (low high : ℕ) → All (λ k. k < high) (from_to low high)
All-from_to low high =
    All-from_get_or (λ k. k < high) (from_to low high) 0 (λ i l.
    let small : i < high - low = rw (length-from_to low high) at l in
    let is : get_or (from_to low high) i 0 ≡ low + i = get_or-from_to low high i 0 small in
    omega (arith, is, small))

-- how many bytes of a range pass a test
pub length_filter_range : (p : ℕ → Bool) (low high : ℕ) → length (filter p (from_to low high)) ≤ high - low
length_filter_range p low high =
    let all = from_to low high in
    omega (arith, length-filter p all, count_by-le-length p all, length-from_to low high)

-- how many units the iterators give at most
pub length_elements : (classes : List ℕ) (unit : Symbol) → length (elements_of classes unit) ≤ 256
length_elements classes (byte c) =
    let p : ℕ → Bool = λ b. nat_eq (slice_index classes b) c in
    omega (arith, length-map (filter p bytes) (λ b. byte b), length_filter_range p 0 256)
length_elements classes (end_of_input n) = omega arith

-- the representatives are at most 256 bytes and the end
pub length_representatives : (classes : List ℕ) (from to : Bound ℕ) → end_index to 256 ≤ 256 → length (representatives_of classes from to) ≤ 257
length_representatives classes from to low =
    let chosen = representing classes (start_index from) (end_index to 256) in
    omega (
      arith,
      low,
      ends to,
      length-map chosen (λ b. byte b),
      length-append (map (λ b. byte b) chosen) (end_if_unbounded classes to),
      length_filter_range (λ b. nat_eq b (start_index from) || not (nat_eq (slice_index classes b) (slice_index classes (b - 1)))) (start_index from)
          (end_index to 256),
    )
  where
    ends : (bound : Bound ℕ) → length (end_if_unbounded classes bound) ≤ 1
    ends Unbounded = omega arith
    ends _ = omega arith

-- what holds for the bytes of a list and for what follows them, and for the end of the input alone
pub All-bytes : (P : Symbol → Type 0) (xs : List ℕ) (rest : List Symbol) → All (λ b. P (byte b)) xs → All P rest
    → All P (map (λ b. byte b) xs ++ rest)
All-bytes P xs rest all after = All-append P (map (λ b. byte b) xs) rest (All-map P (λ b. byte b) xs all) after

-- a list of one unit
pub All-one : (P : Symbol → Type 0) (u : Symbol) → P u → All P (u ∷ [])
All-one P u is = All-cons P u [] is (All-nil P)

-- the number of a symbol is below the number of symbols
pub symbols_within : (classes : List ℕ) → All (λ u. number_of u < slice_index classes 255 + 2) (symbols classes)
symbols_within classes =
    let end : ℕ = slice_index classes 255 + 1 in
    All-bytes (λ u. number_of u < slice_index classes 255 + 2) (from_to 0 end) (end_symbol classes ∷ [])
    (All-weaker (λ c. c < end) (λ c. c < slice_index classes 255 + 2) (λ c l. omega (arith, l)) (from_to 0 end) (All-from_to 0 end))
    (All-one (λ u. number_of u < slice_index classes 255 + 2) (end_symbol classes) (omega arith))

-- the elements of a class have that class
pub elements_have_class : (classes : List ℕ) (unit : Symbol) (list : List Symbol) → list ≡ elements_of classes unit → IsSome (byte_of unit)
    → All (λ u. class_at classes u ≡ number_of unit) list
elements_have_class classes (byte c) list is some =
    rw is (All-map (λ u. class_at classes u ≡ c) (λ b. byte b) (filter (λ b. nat_eq (slice_index classes b) c) bytes)
    (All-weaker (λ b. nat_eq (slice_index classes b) c ≡ true) (λ b. slice_index classes b ≡ c) (λ b h. eqb-true (slice_index classes b) c h)
    (filter (λ b. nat_eq (slice_index classes b) c) bytes) (filter_passes (λ b. nat_eq (slice_index classes b) c) bytes)))
elements_have_class classes (end_of_input n) list is some = cc

-- representatives are bytes or the end
pub representatives_within : (classes : List ℕ) (from to : Bound ℕ) → end_index to 256 ≤ 256
    → ((b : ℕ) → b < 256 → slice_index classes b ≤ slice_index classes 255) →
    All (λ u. class_at classes u < slice_index classes 255 + 2) (representatives_of classes from to)
representatives_within classes from to low rises =
    let P : Symbol → Type 0 = λ u. class_at classes u < slice_index classes 255 + 2 in
    let first = start_index from in
    let end = end_index to 256 in
    All-bytes P (representing classes first end) (end_if_unbounded classes to)
    (All-filter _ (λ b. P (byte b)) (from_to first end) (All-weaker (λ b. b < end) (λ b. P (byte b))
    (λ b l. let r = rises b (omega (arith, l, low)) in omega (arith, r)) (from_to first end) (All-from_to first end)))
    (ends P (omega arith) to)
  where
    ends : (P : Symbol → Type 0) → P (end_symbol classes) → (bound : Bound ℕ) → All P (end_if_unbounded classes bound)
    ends P is (Included n) = All-nil P
    ends P is (Excluded n) = All-nil P
    ends P is Unbounded = All-one P (end_symbol classes) is

-- ---- the length of a row

counts_all : (p : ℕ → Bool) (n : ℕ) → ((k : ℕ) → k < n → p k ≡ true) → class_of p n ≡ n
counts_all p zero each = class_of_none p
counts_all p (suc n) each =
    let e : suc n ≡ n + 1 = omega arith in
    rw (e, class_of_more p n, each n (omega arith)) (ap (λ x. x + 1) (counts_all p n (λ k l. each k (omega (arith, l)))))

-- the least exponent with a power of two that is enough is the number of exponents whose power is too small
pub exponent_counted : (n r : ℕ) → r ≤ 9 → n ≤ 2 ^ r → ((k : ℕ) → n ≤ 2 ^ k → r ≤ k) → class_of (λ k. nat_lt (2 ^ k) n) 9 ≡ r
exponent_counted n r most enough least =
    let p : ℕ → Bool = λ k. nat_lt (2 ^ k) n in
    let e : r + (9 - r) ≡ 9 = omega (arith, most) in
    (rw e at (class_of-between p r (9 - r) (λ k low high is. not_below k low is))) ∙ counts_all p r (λ k l. below k l)
  where
    below : (k : ℕ) → k < r → nat_lt (2 ^ k) n ≡ true
    below k l = grind (arith, nat_tests, least k)

    not_below : (k : ℕ) → r ≤ k → ¬ (nat_lt (2 ^ k) n ≡ true)
    not_below k l is = let more : 2 ^ r ≤ 2 ^ k = pow_mono {i = r} {j = k} l in grind (arith, nat_tests)

-- ---- the representatives of all bytes reach each class

Contains-map : {X Y : Type 0} (f : X → Y) (xs : List X) (q : X) → Contains xs q → Contains (map f xs) (f q)
Contains-map f xs q c = (c.0, rw length-map c.1, get_or-map f xs c.0 q (f q) c.1 ∙ ap f c.2)

-- a byte that begins a class is its representative
given : (classes : List ℕ) (b : ℕ) → b < 256 → (b == 0 || not (slice_index classes b == slice_index classes (b - 1))) ≡ true
    → Contains (representing classes 0 256) b
given classes b l begins = Contains-filter (λ k. k == 0 || not (slice_index classes k == slice_index classes (k - 1))) (from_to 0 256) b begins (all_bytes b l)

reached : (classes : List ℕ) (b : ℕ) → b < 256 → (r : ℕ) × ((r < 256) × Contains (representing classes 0 256) r ×
    (slice_index classes r ≡ slice_index classes b))
reached classes zero l = (0, (l, given classes 0 l refl, refl))
reached classes (suc b) l =
    let before : suc b - 1 ≡ b = omega arith in
    let r = reached classes b (omega (arith, l)) in
    elim (slice_index classes (suc b) == slice_index classes b) as
    (λ v. (slice_index classes (suc b) == slice_index classes b) ≡ v
    → (r : ℕ) × ((r < 256) × Contains (representing classes 0 256) r × (slice_index classes r ≡ slice_index classes (suc b)))) [
      | true ↦ λ e. let same : slice_index classes (suc b) ≡ slice_index classes b = grind (arith, nat_tests) in (r.0, (r.1.0, r.1.1, r.1.2 ∙ sym same))
      | false ↦ λ e. (suc b, (l, given classes (suc b) l (rw (before, e) (grind (arith, nat_tests))), refl))
    ] refl

-- each byte has a representative of its class
pub class_represented : (classes : List ℕ) (b : ℕ) → b < 256
    → (r : ℕ) × ((r < 256) × Contains (representatives_of classes Unbounded Unbounded) (byte r) × (slice_index classes r ≡ slice_index classes b))
class_represented classes b l =
    let r = reached classes b l in (
      r.0,
      (
        r.1.0,
        Contains-append_left (map (λ b. byte b) (representing classes 0 256)) (end_symbol classes ∷ []) (byte r.0)
            (Contains-map (λ b. byte b) (representing classes 0 256) r.0 r.1.1),
        r.1.2,
      ),
    )

-- the end is the last representative
pub end_given : (classes : List ℕ) → Contains (representatives_of classes Unbounded Unbounded) (end_symbol classes)
end_given classes = Contains-push (map (λ b. byte b) (representing classes 0 256)) (end_symbol classes)

-- and no others are
pub only_bytes_and_the_end : (classes : List ℕ) (u : Symbol) → Contains (representatives_of classes Unbounded Unbounded) u
    → ((b : ℕ) × ((b < 256) × (u ≡ byte b))) ⊎ (u ≡ end_symbol classes)
only_bytes_and_the_end classes u c =
    let P : Symbol → Type 0 = λ s. ((b : ℕ) × ((b < 256) × (s ≡ byte b))) ⊎ (s ≡ end_symbol classes) in
    let xs = representing classes 0 256 in
    let all : All P (representatives_of classes Unbounded Unbounded) =
    All-bytes P xs (end_symbol classes ∷ []) (All-filter _ (λ b. P (byte b)) (from_to 0 256)
    (All-weaker (λ b. b < 256) (λ b. P (byte b)) (λ b l. inl (b, (l, refl))) (from_to 0 256) (All-from_to 0 256)))
    (All-one P (end_symbol classes) (inr refl))
    in All-contains P (representatives_of classes Unbounded Unbounded) u all c

-- the end of the input is after all classes of bytes
pub end_comes_last : (classes : List ℕ) → slice_get (symbols classes) (slice_index classes 255 + 1) ≡ Some (end_symbol classes)
end_comes_last classes =
    let n : ℕ = slice_index classes 255 + 1 in
    slice_get-get_or (symbols classes) n (end_symbol classes) (omega (arith, length_symbols classes))
    ∙ ap Some (get_or_push (map (λ c. byte c) (from_to 0 n)) (end_symbol classes) (end_symbol classes) n (rw length-map (omega (arith, length-from_to 0 n))))

-- ---- the entries of a table with a column for each class

pub class_is_column : (classes : List ℕ) (width b : ℕ) → LastClassIsGreatest classes → symbol_count classes ≤ width → b < 256
    → slice_index classes b < width
class_is_column classes width b bounded enough l = omega (arith, bounded.within b l, enough)

-- an entry of a row is before the rows after it
pub entry_below : (width rows row column : ℕ) → row < rows → column < width → row * width + column < rows * width
entry_below width rows row column l h = let k : (row + 1) * width ≤ rows * width = mul-le-mul_right width (omega arith) in omega (arith, k)

-- entries at one index are of one row and one column
pub same_entry : (width row column row2 column2 : ℕ) → column < width → column2 < width → row * width + column ≡ row2 * width + column2
    → (row ≡ row2) × (column ≡ column2)
same_entry width row column row2 column2 l l2 same =
    ⊎_elim
    (λ (h : row < row2). absurd (omega (arith, same, entry_below width row2 row column h l)))
    (λ (h : row2 ≤ row). ⊎_elim
    (λ (g : row2 < row). absurd (omega (arith, same, entry_below width row row2 column2 g l2)))
    (λ (g : row ≤ row2). let e : row ≡ row2 = omega arith in (e, omega (arith, same, ap (λ n. n * width) e)))
    (cases_lt row2 row))
    (cases_lt row row2)
