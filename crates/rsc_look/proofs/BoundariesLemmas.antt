-- The boundaries of an assertion as tests that compute, and why a partition that has those of an assertion on bytes keeps it.
use Rattle.std.proofs.Common.{◌≡◌, ℕ, ◌-◌, Bool, false, ◌&&◌, ◌||◌, List, [], ◌∷◌, nat_eq, nat_lt, ◌+◌, ◌<◌, ◌≤◌, length, take, get_or, sym, ap, ap₂, ◌∙◌, nat_cmp, zero, suc, true, not, eqb, leb, Option, Some, None, refl, arith, is_none, ⊎_elim, slice_get}
use Rattle.std.specs.List.{list_any}
use Rattle.std.specs.FinSet as sets
use Rattle.std.specs.FinSet.{contains-empty, contains-from_list_nat}
use Rattle.std.proofs.lemmas.List.{take_all, take_more}
use Rattle.std.proofs.lemmas.List.Folds.{list_any-append}
use Rattle.std.proofs.Math.Bool.{or-false}
use Rattle.rsc_look.proofs.Prelude.{HasBoundariesOf, Numbers, boundaries_of_range, class_map, contains-joined, contains-boundaries_of_range, class_map_same, Look, Start, End, StartLF, EndLF, StartCRLF, EndCRLF, is_word_byte, WordAscii, WordAsciiNegate, WordStartAscii, WordEndAscii, WordStartHalfAscii, WordEndHalfAscii, byte_before, is_byte, is_word_neighbor, holds_at_bytes, AreTogether, AreInterchanged}
use Rattle.rsc_look.specs.Boundaries.{word_byte_boundaries, boundaries_of_look, boundaries_of_looks}
use Rattle.std.proofs.lemmas.Bool.Decides.{nat_tests}
use Rattle.std.proofs.lemmas.Option.{slice_get-get_or, slice_get_past}
use Rattle.std.proofs.lemmas.Bool.{or_left, or_right, cases_lt}

-- ---- the boundaries of an assertion as tests that compute

-- a boundary of the byte t alone
abbrev pub is_boundary_of_byte : ℕ → ℕ → Bool
is_boundary_of_byte t b = (nat_lt 0 t && nat_eq (t - 1) b) || (nat_lt t 255 && nat_eq t b)

-- the boundaries of the word bytes
abbrev pub word_byte_boundary_numbers : List ℕ
word_byte_boundary_numbers = 0x2F ∷ 0x39 ∷ 0x40 ∷ 0x5A ∷ 0x5E ∷ 0x5F ∷ 0x60 ∷ 0x7A ∷ []

-- whether a word byte and another are next to each other
abbrev pub is_word_byte_boundary : ℕ → Bool
is_word_byte_boundary b = list_any (λ x. nat_eq x b) word_byte_boundary_numbers

-- the boundaries of an assertion, and of a list of assertions
abbrev pub is_boundary_of : Look → ℕ → ℕ → Bool
is_boundary_of Start t b = false
is_boundary_of End t b = false
is_boundary_of StartLF t b = is_boundary_of_byte t b
is_boundary_of EndLF t b = is_boundary_of_byte t b
is_boundary_of StartCRLF t b = is_boundary_of_byte 13 b || is_boundary_of_byte 10 b
is_boundary_of EndCRLF t b = is_boundary_of_byte 13 b || is_boundary_of_byte 10 b
is_boundary_of _ t b = is_word_byte_boundary b

-- the boundaries of a list's assertions as a test
abbrev pub is_boundary_of_each : List Look → ℕ → ℕ → Bool
is_boundary_of_each looks t b = list_any (λ l. is_boundary_of l t b) looks

-- the tests agree with the sets that the definitions name
pub contains-word_byte_boundaries : (b : ℕ) → sets.contains word_byte_boundaries b ≡ is_word_byte_boundary b
unfolding word_byte_boundaries
contains-word_byte_boundaries b = contains-from_list_nat word_byte_boundary_numbers b

crlf : (b : ℕ) → sets.contains (sets.union (boundaries_of_range (13, 13)) (boundaries_of_range (10, 10))) b ≡
    (is_boundary_of_byte 13 b || is_boundary_of_byte 10 b)
crlf b = contains-joined (boundaries_of_range (13, 13)) (boundaries_of_range (10, 10)) b
    ∙ ap₂ (λ x y. x || y) (contains-boundaries_of_range 13 13 b) (contains-boundaries_of_range 10 10 b)

-- the test of one assertion tells its boundaries
pub contains-boundaries_of_look : (l : Look) (t b : ℕ) → sets.contains (boundaries_of_look l t) b ≡ is_boundary_of l t b
contains-boundaries_of_look Start t b = contains-empty nat_cmp b
contains-boundaries_of_look End t b = contains-empty nat_cmp b
contains-boundaries_of_look StartLF t b = contains-boundaries_of_range t t b
contains-boundaries_of_look EndLF t b = contains-boundaries_of_range t t b
contains-boundaries_of_look StartCRLF t b = crlf b
contains-boundaries_of_look EndCRLF t b = crlf b
contains-boundaries_of_look _ t b = contains-word_byte_boundaries b

-- the test of a list tells the boundaries of its members
pub contains-boundaries_of_looks : (looks : List Look) (t b : ℕ) → sets.contains (boundaries_of_looks looks t) b ≡ is_boundary_of_each looks t b
contains-boundaries_of_looks [] t b = contains-empty nat_cmp b
contains-boundaries_of_looks (l ∷ rest) t b =
    contains-joined (boundaries_of_look l t) (boundaries_of_looks rest t) b
    ∙ ap₂ (λ x y. x || y) (contains-boundaries_of_look l t b) (contains-boundaries_of_looks rest t b)

-- ---- a loop over a list, for a set that has the boundaries of its members so far

-- a set has the boundaries of these assertions
abbrev pub AreGathered : Numbers → List Look → ℕ → Type 0
AreGathered s looks t = (b : ℕ) → sets.contains s b ≡ is_boundary_of_each looks t b

-- before the loop, and after one assertion more
pub AreGathered-none : (looks : List Look) (t : ℕ) (s : Numbers) → s ≡ sets.empty → AreGathered s [] t
AreGathered-none looks t s e b = ap (λ u. sets.contains u b) e ∙ contains-empty nat_cmp b

-- one more assertion's boundaries
pub AreGathered-more : (s new : Numbers) (looks : List Look) (i : ℕ) (d : Look) (t : ℕ) → i < length looks → AreGathered s (take i looks) t
    → new ≡ sets.union s (boundaries_of_look (get_or looks i d) t) → AreGathered new (take (i + 1) looks) t
AreGathered-more s new looks i d t h has e b =
    let l = get_or looks i d in
    ap (λ u. sets.contains u b) e ∙ contains-joined s (boundaries_of_look l t) b
    ∙ ap₂ (λ x y. x || y) (has b) (contains-boundaries_of_look l t b ∙ sym (or-false (is_boundary_of l t b)))
    ∙ sym (ap (λ (x : List Look). is_boundary_of_each x t b) (take_more looks i d h)
    ∙ list_any-append (λ x. is_boundary_of x t b) (take i looks) (l ∷ []))

-- after the loop over the whole list
pub classes_whole : (looks : List Look) (t n : ℕ) (s : Numbers) (m : List ℕ) → length looks ≤ n → AreGathered s (take n looks) t
    → m ≡ class_map (sets.contains s) → m ≡ class_map (sets.contains (boundaries_of_looks looks t))
classes_whole looks t n s m l has is =
    is ∙ class_map_same (sets.contains s) (sets.contains (boundaries_of_looks looks t)) (λ b lt.
    has b ∙ ap (λ (x : List Look). is_boundary_of_each x t b) (take_all n looks l) ∙ sym (contains-boundaries_of_looks looks t b))

-- ---- the twelve assertions on bytes are kept by a partition that has their boundaries

-- two bytes that are together lie on one side of each boundary
pub AreTogether-leb : (p : ℕ → Bool) (a b x : ℕ) → AreTogether p a b → p x ≡ true → leb a x ≡ leb b x
AreTogether-leb p a b x t h =
    grind (arith, nat_tests)

AreTogether-leb-boundary : (p m : ℕ → Bool) (a b x : ℕ) → HasBoundariesOf p m → AreTogether p a b → x < 255 → m x ≡ true → leb a x ≡ leb b x
AreTogether-leb-boundary p m a b x s t l h = AreTogether-leb p a b x t (s x l h)

same_eqb : (a b t : ℕ) → a < 256 → b < 256 → (t < 255 → leb a t ≡ leb b t) → (0 < t → t < 256 → leb a (t - 1) ≡ leb b (t - 1))
    → eqb a t ≡ eqb b t
same_eqb a b t la lb f g = grind (arith, nat_tests)

pub AreTogether-eqb : (p : ℕ → Bool) (a b t : ℕ) → a < 256 → b < 256 → HasBoundariesOf p (is_boundary_of_byte t) → AreTogether p a b
    → eqb a t ≡ eqb b t
AreTogether-eqb p a b t la lb s h =
    same_eqb a b t la lb (λ l. AreTogether-leb-boundary p (is_boundary_of_byte t) a b t s h l (grind (arith, nat_tests)))
    (λ l lt. AreTogether-leb-boundary p (is_boundary_of_byte t) a b (t - 1) s h (omega arith) (grind (arith, nat_tests)))

-- the word bytes, by the boundaries that they lie between
abbrev word_byte_between : Bool → Bool → Bool → Bool → Bool → Bool → Bool → Bool → Bool
word_byte_between x1 x2 x3 x4 x5 x6 x7 x8 = ((not x1 && x2) || (not x3 && x4) || (x6 && not x5)) || (not x7 && x8)

above : (x a : ℕ) → leb (suc x) a ≡ not (leb a x)
above x a = grind (arith, nat_tests)

at_low_line : (a : ℕ) → eqb a 0x5F ≡ (leb a 0x5F && not (leb a 0x5E))
at_low_line a = grind (arith, nat_tests)

is_word_byte-between : (a : ℕ)
    → is_word_byte a ≡ word_byte_between (leb a 0x2F) (leb a 0x39) (leb a 0x40) (leb a 0x5A) (leb a 0x5E) (leb a 0x5F) (leb a 0x60) (leb a 0x7A)
is_word_byte-between a = rw (above 0x2F a, above 0x40 a, above 0x60 a, at_low_line a)

-- bytes that are together are both word bytes, or neither is
pub AreTogether-is_word_byte : (p : ℕ → Bool) (a b : ℕ) → HasBoundariesOf p is_word_byte_boundary → AreTogether p a b → is_word_byte a ≡ is_word_byte b
AreTogether-is_word_byte p a b s h =
    let go : (x : ℕ) → x < 255 → is_word_byte_boundary x ≡ true
    → leb a x ≡ leb b x = λ x l m. AreTogether-leb-boundary p is_word_byte_boundary a b x s h l m in
    let e1 = go 0x2F (omega arith) refl in
    let e2 = go 0x39 (omega arith) refl in
    let e3 = go 0x40 (omega arith) refl in
    let e4 = go 0x5A (omega arith) refl in
    let e5 = go 0x5E (omega arith) refl in
    let e6 = go 0x5F (omega arith) refl in
    let e7 = go 0x60 (omega arith) refl in
    let e8 = go 0x7A (omega arith) refl in
    is_word_byte-between a ∙ rw (e1, e2, e3, e4, e5, e6, e7, e8) (sym (is_word_byte-between b))

-- neighbours that may replace each other: both absent, or both there and together
abbrev pub TogetherAt : (ℕ → Bool) → Option ℕ → Option ℕ → Type 0
TogetherAt p None None = Unit {0}
TogetherAt p (Some a) (Some b) = (a < 256) × (b < 256) × AreTogether p a b
TogetherAt p _ _ = ⊥

-- interchanged haystacks have neighbours that are together: the byte after a position
pub TogetherAt-slice_get : (p : ℕ → Bool) (h k : List ℕ) (i : ℕ) → AreInterchanged p h k → TogetherAt p (slice_get h i) (slice_get k i)
TogetherAt-slice_get p h k i s =
    ⊎_elim
    (λ (l : i < length h).
    let lk : i < length k = omega arith in
    rw (slice_get-get_or h i 0 l, slice_get-get_or k i 0 lk) (s.first i 0 l, s.second i 0 lk, s.together i l))
    (λ (l : length h ≤ i). rw (slice_get_past h i l, slice_get_past k i (omega arith)) tt)
    (cases_lt i (length h))

-- and the byte before it
pub TogetherAt-before : (p : ℕ → Bool) (h k : List ℕ) (i : ℕ) → AreInterchanged p h k → TogetherAt p (byte_before h i) (byte_before k i)
TogetherAt-before p h k zero s = tt
TogetherAt-before p h k (suc i) s = TogetherAt-slice_get p h k i s

same_none : (p : ℕ → Bool) (a b : Option ℕ) → TogetherAt p a b → is_none a ≡ is_none b
same_none p None None t = refl
same_none p (Some a) (Some b) t = refl
same_none p _ _ t = absurd t

same_byte : (p : ℕ → Bool) (a b : Option ℕ) (t : ℕ) → HasBoundariesOf p (is_boundary_of_byte t) → TogetherAt p a b → is_byte t a ≡ is_byte t b
same_byte p None None t s h = refl
same_byte p (Some a) (Some b) t s h = AreTogether-eqb p a b t h.0 h.1 s h.2
same_byte p _ _ t s h = absurd h

same_word_byte : (p : ℕ → Bool) (a b : Option ℕ) → HasBoundariesOf p is_word_byte_boundary → TogetherAt p a b
    → is_word_neighbor a ≡ is_word_neighbor b
same_word_byte p None None s h = refl
same_word_byte p (Some a) (Some b) s h = AreTogether-is_word_byte p a b s h.2
same_word_byte p _ _ s h = absurd h

crlf_cr : (p : ℕ → Bool) → HasBoundariesOf p (λ b. is_boundary_of_byte 13 b || is_boundary_of_byte 10 b) → HasBoundariesOf p (is_boundary_of_byte 13)
crlf_cr p s b l e = s b l (or_left (is_boundary_of_byte 13 b) (is_boundary_of_byte 10 b) e)

crlf_lf : (p : ℕ → Bool) → HasBoundariesOf p (λ b. is_boundary_of_byte 13 b || is_boundary_of_byte 10 b) → HasBoundariesOf p (is_boundary_of_byte 10)
crlf_lf p s b l e = s b l (or_right (is_boundary_of_byte 13 b) (is_boundary_of_byte 10 b) e)

-- the table gives the same at neighbours that are together
pub holds_at_bytes-same : (p : ℕ → Bool) (l : Look) (t : ℕ) → HasBoundariesOf p (is_boundary_of l t) → (a b x y : Option ℕ) → TogetherAt p a b
    → TogetherAt p x y
    → holds_at_bytes l t a x ≡ holds_at_bytes l t b y
holds_at_bytes-same p Start t s a b x y h k = same_none p a b h
holds_at_bytes-same p End t s a b x y h k = same_none p x y k
holds_at_bytes-same p StartLF t s a b x y h k = rw (same_none p a b h, same_byte p a b t s h)
holds_at_bytes-same p EndLF t s a b x y h k = rw (same_none p x y k, same_byte p x y t s k)
holds_at_bytes-same p StartCRLF t s a b x y h k =
    rw (same_none p a b h, same_byte p a b 13 (crlf_cr p s) h, same_byte p a b 10 (crlf_lf p s) h, same_byte p x y 10 (crlf_lf p s) k)
holds_at_bytes-same p EndCRLF t s a b x y h k =
    rw (same_none p x y k, same_byte p x y 13 (crlf_cr p s) k, same_byte p x y 10 (crlf_lf p s) k, same_byte p a b 13 (crlf_cr p s) h)
holds_at_bytes-same p WordAscii t s a b x y h k = rw (same_word_byte p a b s h, same_word_byte p x y s k)
holds_at_bytes-same p WordAsciiNegate t s a b x y h k = rw (same_word_byte p a b s h, same_word_byte p x y s k)
holds_at_bytes-same p WordStartAscii t s a b x y h k = rw (same_word_byte p a b s h, same_word_byte p x y s k)
holds_at_bytes-same p WordEndAscii t s a b x y h k = rw (same_word_byte p a b s h, same_word_byte p x y s k)
holds_at_bytes-same p WordStartHalfAscii t s a b x y h k = rw (same_word_byte p a b s h)
holds_at_bytes-same p WordEndHalfAscii t s a b x y h k = rw (same_word_byte p x y s k)
holds_at_bytes-same p _ t s a b x y h k = refl
