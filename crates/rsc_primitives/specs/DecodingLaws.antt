-- The characters of a part of a list are those of the whole, and character boundaries are where characters begin.
use Rattle.std.proofs.Common.{◌≡◌, ℕ, ◌+◌, ◌-◌, ◌<◌, ◌≤◌, List, length, take, drop, ap, ◌∙◌, arith, length-take, length-take-le, take-take, length-drop, Option, Some, Result, Ok, Err, zero, suc, ◌⊎◌, [], ◌∷◌, refl, subst, inl, inr, ⊎_elim, ◌↔◌, ◌++◌, sym, length-append, get_or-append-add}
use Rattle.std.specs.Char.{len_utf8}
use Rattle.std.specs.Prelude.{slice_range}
use Rattle.std.proofs.lemmas.Option.{slice_get_within}
use Rattle.std.proofs.lemmas.List.{drop-take, take_rest, get_or_append_left}
use Rattle.rsc_primitives.specs.Utf8.{EncodedFrom, BeginsAt, EndsAt, IsTail, OpensThree, OpensFour, Encodes, EncodesAll}
use Rattle.rsc_primitives.specs.Decoding.{DecodesTo, DecodesLastTo, IsCharBoundary}
use Rattle.rsc_primitives.specs.Utf8Laws.{length-slice, slice_from_start, length-Encodes-len_utf8, IsExtent-from, Encodes-rest, with_suffix, with_prefix}
use Rattle.std.specs.Int.{IsInRange}
use Rattle.std.proofs.lemmas.Bool.{cases_lt}

-- ---- a part of a list, and what an answer says, for a reader that takes it apart

pub BeginsAt-drop : (h : List ℕ) (s j c : ℕ) → EncodedFrom h s j c → BeginsAt (drop s h) 0 c
BeginsAt-drop h s j c e =
    (j - s, record { ordered = omega arith; within = simp length-drop (omega (arith, e.ordered, e.within)); encoded = rw slice_from_start e.encoded })

-- what an answer of `decode` says, for a reader that takes it apart
pub DecodesTo-ok : (h : List ℕ) (r : Option (Result ℕ ℕ)) (f : Result ℕ ℕ) (c : ℕ) → DecodesTo h r → r ≡ Some f → f ≡ Ok c
    → BeginsAt h 0 c
DecodesTo-ok h r f c p e q = rw (e, q) at p

pub DecodesTo-err : (h : List ℕ) (r : Option (Result ℕ ℕ)) (f : Result ℕ ℕ) (b : ℕ) → DecodesTo h r → r ≡ Some f → f ≡ Err b
    → (c : ℕ) → BeginsAt h 0 c → ⊥
DecodesTo-err h r f b p e q = (rw (e, q) at p).1

-- ---- a part of a list has the characters of the whole

pub BeginsAt-from_drop : (h : List ℕ) (s c : ℕ) → s ≤ length h → BeginsAt (drop s h) 0 c → BeginsAt h s c
BeginsAt-from_drop h s c l b =
    let p = b.1 in
    let w : b.0 ≤ length h - s = simp length-drop at p.within in
    let n : s + b.0 - s ≡ b.0 = omega arith in
    (s + b.0, record { ordered = omega arith; within = omega arith; encoded = rw n (rw slice_from_start at p.encoded) })

front_slice : (h : List ℕ) (s j : ℕ) → j ≤ s → slice_range (take s h) j s ≡ slice_range h j s
front_slice h s j o =
    let e : j + (s - j) ≡ s = omega arith in
    ap (take (s - j)) (rw e at (drop-take j (s - j) h)) ∙ take-take (s - j) (s - j) (drop j h) (omega arith)

pub EndsAt-take : (h : List ℕ) (s c : ℕ) → s ≤ length h → EndsAt h s c → EndsAt (take s h) (length (take s h)) c
EndsAt-take h s c l (j, e) =
    rw (length-take-le s h l)
    (j, record { ordered = e.ordered; within = simp length-take (omega arith); encoded = rw (front_slice h s j e.ordered) e.encoded })

pub EndsAt-from_take : (h : List ℕ) (s c : ℕ) → s ≤ length h → EndsAt (take s h) (length (take s h)) c → EndsAt h s c
EndsAt-from_take h s c l e =
    let f : EndsAt (take s h) s c = rw (length-take-le s h l) at e in
    (f.0, record { ordered = f.1.ordered; within = l; encoded = rw (front_slice h s f.0 f.1.ordered) at f.1.encoded })

-- what reading the rest of a list, from s on, tells of the whole
pub BeginsAt-decoded : (h : List ℕ) (s : ℕ) (r : Option (Result ℕ ℕ)) (f : Result ℕ ℕ) (c : ℕ) → s ≤ length h
    → DecodesTo (take (length h - s) (drop s h)) r → r ≡ Some f → f ≡ Ok c → BeginsAt h s c
BeginsAt-decoded h s r f c l p e q = BeginsAt-from_drop h s c l (DecodesTo-ok (drop s h) r f c (rw (take_rest h s) at p) e q)

pub BeginsAt-refused : (h : List ℕ) (s : ℕ) (r : Option (Result ℕ ℕ)) (f : Result ℕ ℕ) (b : ℕ) → s ≤ length h
    → DecodesTo (take (length h - s) (drop s h)) r → r ≡ Some f → f ≡ Err b → (s < length h) × ((c : ℕ) → BeginsAt h s c → ⊥)
BeginsAt-refused h s r f b l p e q =
    let refused : DecodesTo (drop s h) (Some (Err b)) = rw (take_rest h s, e, q) at p in
    (omega (arith, length-drop s h, slice_get_within (drop s h) 0 b refused.0), λ c begins. refused.1 c (BeginsAt-drop h s begins.0 c begins.1))

-- what reading the part before s from the back tells of the whole
pub EndsAt-decoded : (h : List ℕ) (s : ℕ) (r : Option (Result ℕ ℕ)) (f : Result ℕ ℕ) (c : ℕ) → s ≤ length h
    → DecodesLastTo (take s h) r → r ≡ Some f → f ≡ Ok c → EndsAt h s c
EndsAt-decoded h s r f c l p e q =
    let decoded : DecodesLastTo (take s h) (Some (Ok c)) = rw (e, q) at p in
    EndsAt-from_take h s c l decoded

pub EndsAt-refused : (h : List ℕ) (s : ℕ) (r : Option (Result ℕ ℕ)) (f : Result ℕ ℕ) (b : ℕ) → s ≤ length h
    → DecodesLastTo (take s h) r → r ≡ Some f → f ≡ Err b → (0 < s) × ((c : ℕ) → EndsAt h s c → ⊥)
EndsAt-refused h s r f b l p e q =
    let refused : DecodesLastTo (take s h) (Some (Err b)) = rw (e, q) at p in
    (omega (arith, refused.0, length-take-le s h l), λ c ends. refused.2 c (EndsAt-take h s c l ends))

-- a character that begins the bytes is no longer than they are
pub BeginsAt-fits : (h : List ℕ) (c : ℕ) → BeginsAt h 0 c → len_utf8 c ≤ length h
BeginsAt-fits h c (j, p) =
    omega (arith, p.within, length-slice h 0 j p.ordered p.within, length-Encodes-len_utf8 (slice_range h 0 j) c p.encoded)

-- ---- a character begins at a position or none does, and a character ends there or none does

abbrev IsDecided : Type 0 → Type 0
IsDecided P = P ⊎ (P → ⊥)

two : (a b : ℕ) → IsDecided (IsInRange 0xC2 0xDF a × IsTail b)
two a b = grind arith

three : (a b c : ℕ) → IsDecided (OpensThree a b × IsTail c)
three a b c = grind arith

four : (a b c d : ℕ) → IsDecided (OpensFour a b × IsTail c × IsTail d)
four a b c d = grind arith

Encodes-decided : (e : List ℕ) → IsDecided ((n : ℕ) × Encodes e n)
Encodes-decided (a ∷ []) = ⊎_elim (λ (f : 0x7F < a). inr (λ q. omega (arith, q.1.0))) (λ (p : a ≤ 0x7F). inl (a, (p, refl))) (cases_lt 0x7F a)
Encodes-decided (a ∷ b ∷ []) = ⊎_elim (λ p. inl (_, (p.0, p.1, refl))) (λ f. inr (λ q. f (q.1.0, q.1.1))) (two a b)
Encodes-decided (a ∷ b ∷ c ∷ []) = ⊎_elim (λ p. inl (_, (p.0, p.1, refl))) (λ f. inr (λ q. f (q.1.0, q.1.1))) (three a b c)
Encodes-decided (a ∷ b ∷ c ∷ d ∷ []) = ⊎_elim (λ p. inl (_, (p.0, p.1, p.2, refl))) (λ f. inr (λ q. f (q.1.0, q.1.1, q.1.2))) (four a b c d)
Encodes-decided _ = inr (λ q. q.1)

-- a search among the positions below m
below : (P : ℕ → Type 0) → ((j : ℕ) → IsDecided (P j)) → (m : ℕ) → IsDecided ((j : ℕ) × (j < m) × P j)
below P d zero = inr (λ q. omega (arith, q.1))
below P d (suc m) =
    ⊎_elim (λ q. inl (q.0, omega (arith, q.1), q.2))
    (λ n. ⊎_elim (λ p. inl (m, omega arith, p)) (λ f. inr (λ q.
    ⊎_elim (λ (s : q.0 < m). n (q.0, s, q.2)) (λ (s : m ≤ q.0). let e : q.0 ≡ m = omega (arith, s, q.1) in f (subst P e q.2)) (cases_lt q.0 m)))
    (d m))
    (below P d m)

positions : (i j n : ℕ) → IsDecided ((i ≤ j) × (j ≤ n))
positions i j n = grind arith

EncodedFrom-decided : (h : List ℕ) (i j : ℕ) → IsDecided ((c : ℕ) × EncodedFrom h i j c)
EncodedFrom-decided h i j =
    ⊎_elim
    (λ o. ⊎_elim (λ p. inl (p.0, record { ordered = o.0; within = o.1; encoded = p.1 })) (λ n. inr (λ p. n (p.0, p.1.encoded)))
    (Encodes-decided (slice_range h i j)))
    (λ n. inr (λ p. n (p.1.ordered, p.1.within))) (positions i j (length h))

pub BeginsAt-decided : (h : List ℕ) (i : ℕ) → ((c : ℕ) × BeginsAt h i c) ⊎ ((c : ℕ) → BeginsAt h i c → ⊥)
BeginsAt-decided h i =
    ⊎_elim (λ q. inl (q.2.0, (q.0, q.2.1))) (λ n. inr (λ c b. n (b.0, omega (arith, b.1.within), (c, b.1))))
    (below (λ j. (c : ℕ) × EncodedFrom h i j c) (EncodedFrom-decided h i) (length h + 1))

pub EndsAt-decided : (h : List ℕ) (i : ℕ) → ((c : ℕ) × EndsAt h i c) ⊎ ((c : ℕ) → EndsAt h i c → ⊥)
EndsAt-decided h i =
    ⊎_elim (λ q. inl (q.2.0, (q.0, q.2.1))) (λ n. inr (λ c b. n (b.0, omega (arith, b.1.ordered), (c, b.1))))
    (below (λ j. (c : ℕ) × EncodedFrom h j i c) (λ j. EncodedFrom-decided h j i) (i + 1))

-- ---- the character boundaries of encoded text are the positions where a character begins, and the end

abbrev pub BeginsOrEnds : List ℕ → ℕ → Type 0
BeginsOrEnds h i = ((c : ℕ) × BeginsAt h i c) ⊎ (i ≡ length h)

-- where a character begins is a character boundary, in any bytes
pub IsCharBoundary-begins : (h : List ℕ) (i c : ℕ) → BeginsAt h i c → IsCharBoundary h i
IsCharBoundary-begins h i c b = let p = IsExtent-from h i b.0 c b.1 in grind (arith, p.some, p.within, p.head)

pub BeginsAt-with_prefix : (e t : List ℕ) (k : ℕ) → BeginsOrEnds t k → BeginsOrEnds (e ++ t) (length e + k)
BeginsAt-with_prefix e t k b =
    ⊎_elim (λ p. inl (p.0, (length e + p.1.0, with_prefix e t k p.1.0 p.0 p.1.1))) (λ q. inr (rw q (sym (length-append e t)))) b

char_boundary_behind : (e t : List ℕ) (k : ℕ) → IsCharBoundary (e ++ t) (length e + k) → IsCharBoundary t k
char_boundary_behind e t k b = grind (arith, length-append e t, get_or-append-add e t k 0)

first_encoded : (e t : List ℕ) (c i : ℕ) → Encodes e c → ((k : ℕ) → IsCharBoundary t k → BeginsOrEnds t k) → IsCharBoundary (e ++ t) i
    → BeginsOrEnds (e ++ t) i
first_encoded e t c zero p later b = inl (c, (length e, with_suffix e t c p))
first_encoded e t c (suc i) p later b =
    ⊎_elim
    (λ (l : suc i < length e).
    absurd (grind (arith, length-append e t, get_or_append_left e t 0 (suc i) l, Encodes-rest e c p (suc i) (omega arith) l)))
    (λ (l : length e ≤ suc i).
    let q : length e + (suc i - length e) ≡ suc i = omega arith in
    rw q at (BeginsAt-with_prefix e t (suc i - length e) (later (suc i - length e) (char_boundary_behind e t (suc i - length e) (rw q b)))))
    (cases_lt (suc i) (length e))

EncodesAll-char_boundary : (h cs : List ℕ) (i : ℕ) → EncodesAll h cs → IsCharBoundary h i → BeginsOrEnds h i
EncodesAll-char_boundary h [] i p b = subst (λ (x : List ℕ). BeginsOrEnds x i) (sym p)
    (⊎_elim (λ q. inr q) (λ q. absurd (omega arith)) (subst (λ (x : List ℕ). IsCharBoundary x i) p b))
EncodesAll-char_boundary h (c ∷ cs) i p b =
    subst (λ (x : List ℕ). BeginsOrEnds x i) (sym p.2)
    (first_encoded p.0 p.1 c i p.3 (λ k. EncodesAll-char_boundary p.1 cs k p.4) (subst (λ (x : List ℕ). IsCharBoundary x i) p.2 b))

pub IsCharBoundary-EncodesAll : (h cs : List ℕ) (i : ℕ) → EncodesAll h cs → IsCharBoundary h i ↔ BeginsOrEnds h i
IsCharBoundary-EncodesAll h cs i p = (EncodesAll-char_boundary h cs i p, λ b. ⊎_elim (λ q. IsCharBoundary-begins h i q.0 q.1) (λ q. inl q) b)
