-- What the nine forms say of bytes and positions, in numbers alone; the encodings beside std's; and the positions of a text's characters.
use Rattle.std.proofs.Common.{◌≡◌, ℕ, zero, suc, ◌+◌, ◌-◌, ◌<◌, ◌≤◌, ◌⊎◌, cond, ltb, List, [], ◌∷◌, length, get_or, take, drop, refl, sym, ap, ◌∙◌, subst, arith, length-take, length-drop, get_or-take, get_or-drop, inl, inr, ⊎_elim, ext_get_or, drop-cons, ◌↔◌, true, ◌++◌, length-append, take_at, drop_at, drop-drop, append-nil}
use Rattle.std.specs.Char.{IsScalar, len_utf8, encode_utf8}
use Rattle.std.specs.Prelude.{slice_range}
use Rattle.std.proofs.lemmas.Bool.{cases_lt, and_parts}
use Rattle.std.proofs.lemmas.Bool.Decides.{nat_tests}
use Rattle.rsc_primitives.specs.Utf8.{IsTail, Encodes, EncodedFrom, BeginsAt, EndsAt, IsInside, EncodesAll}
use Rattle.std.specs.Str.{encode_utf8_all, all_scalars}

-- how many bytes an encoding takes that begins with this byte
abbrev pub lead_len : ℕ → ℕ
lead_len a = cond (ltb a 0x80) 1 (cond (ltb a 0xE0) 2 (cond (ltb a 0xF0) 3 4))

pub length-Encodes : (e : List ℕ) (n : ℕ) → Encodes e n → length e ≡ lead_len (get_or e 0 0)
length-Encodes (a ∷ b ∷ c ∷ d ∷ []) n h = grind (arith, nat_tests)
length-Encodes _ n h = grind (arith, nat_tests)

pub Encodes-head : (e : List ℕ) (n : ℕ) → Encodes e n → IsTail (get_or e 0 0) → ⊥
Encodes-head (a ∷ b ∷ c ∷ d ∷ []) n h t = grind arith
Encodes-head _ n h t = grind arith

pub Encodes-rest : (e : List ℕ) (n : ℕ) → Encodes e n → (k : ℕ) → 0 < k → k < length e → IsTail (get_or e k 0)
Encodes-rest (a ∷ b ∷ c ∷ d ∷ []) n h (suc (suc (suc zero))) p l = h.2
Encodes-rest _ n h k p l = grind arith

pub Encodes-same : (e : List ℕ) (n m : ℕ) → Encodes e n → Encodes e m → n ≡ m
Encodes-same (a ∷ b ∷ c ∷ d ∷ []) n m h k = grind arith
Encodes-same _ n m h k = grind arith

-- a character below 128 is its one byte, and the bytes of any other are 128 and more
pub Encodes-size : (e : List ℕ) (n : ℕ) → Encodes e n → ((length e ≡ 1) × (get_or e 0 0 ≡ n) × (n < 128))
    ⊎ ((128 ≤ n) × (128 ≤ get_or e 0 0))
Encodes-size (a ∷ b ∷ c ∷ d ∷ []) n h = grind arith
Encodes-size _ n h = grind arith

-- an encoding by positions
pub record IsExtent (h : List ℕ) (i j : ℕ) : Type 0 where
  pub some : i < j
  pub within : j ≤ length h
  pub size : j ≡ i + lead_len (get_or h i 0)
  pub head : IsTail (get_or h i 0) → ⊥
  pub rest : (k : ℕ) → i < k → k < j → IsTail (get_or h k 0)

pub length-slice : (h : List ℕ) (i j : ℕ) → i ≤ j → j ≤ length h → length (slice_range h i j) ≡ j - i
length-slice h i j p q = simp (length-take, length-drop) (omega arith)

pub slice_from_start : (h : List ℕ) (j : ℕ) → slice_range h 0 j ≡ take j h
slice_from_start h j = ap (λ n. take n h) (omega arith)

pub get_or-slice : (h : List ℕ) (i j k : ℕ) → k < j - i → get_or (slice_range h i j) k 0 ≡ get_or h (i + k) 0
get_or-slice h i j k p = get_or-take (j - i) (drop i h) k 0 p ∙ get_or-drop i h k 0

pub lead_len_pos : (a : ℕ) → 0 < lead_len a
lead_len_pos a = grind (arith, nat_tests)

-- the first byte of a part that isn't empty
first_of_part : (h : List ℕ) (i j : ℕ) → 0 < j - i → get_or (slice_range h i j) 0 0 ≡ get_or h i 0
first_of_part h i j room = get_or-slice h i j 0 room ∙ ap (λ x. get_or h x 0) (omega arith)

pub IsExtent-from : (h : List ℕ) (i j c : ℕ) → EncodedFrom h i j c → IsExtent h i j
IsExtent-from h i j c e =
    let l = length-slice h i j e.ordered e.within in
    let s = length-Encodes (slice_range h i j) c e.encoded in
    let pos = lead_len_pos (get_or (slice_range h i j) 0 0) in
    let some : i < j = omega arith in
    let first = first_of_part h i j (omega arith) in
    let size : j - i ≡ lead_len (get_or h i 0) = sym l ∙ s ∙ ap lead_len first in
    record {
      some = some;
      within = e.within;
      size = omega arith;
      head = λ t. Encodes-head (slice_range h i j) c e.encoded (subst IsTail (sym first) t);
      rest = λ k p q.
          let here : k - i < j - i = omega arith in
          let at : get_or (slice_range h i j) (k - i) 0 ≡ get_or h k 0 = get_or-slice h i j (k - i) here ∙ ap (λ x. get_or h x 0) (omega arith) in
          let t : IsTail (get_or (slice_range h i j) (k - i) 0) = Encodes-rest (slice_range h i j) c e.encoded (k - i) (omega arith) (omega arith) in
          subst IsTail at t;
    }

-- at most one character begins at a position, and at most one ends there
pub EncodedFrom-to : (h : List ℕ) (i j k c d : ℕ) → EncodedFrom h i j c → EncodedFrom h i k d → j ≡ k
EncodedFrom-to h i j k c d p q = let a = IsExtent-from h i j c p in let b = IsExtent-from h i k d q in a.size ∙ sym b.size

pub EncodedFrom-from : (h : List ℕ) (i j k c d : ℕ) → EncodedFrom h j i c → EncodedFrom h k i d → j ≡ k
EncodedFrom-from h i j k c d p q =
    let a = IsExtent-from h j i c p in
    let b = IsExtent-from h k i d q in
    let before : j < k → ⊥ = λ l. b.head (a.rest k l b.some) in
    let after : k < j → ⊥ = λ l. a.head (b.rest j l a.some) in
    grind arith

pub BeginsAt-same : (h : List ℕ) (i c d : ℕ) → BeginsAt h i c → BeginsAt h i d → c ≡ d
BeginsAt-same h i c d p q =
    Encodes-same (slice_range h i p.0) c d p.1.encoded (rw (EncodedFrom-to h i p.0 q.0 c d p.1 q.1) q.1.encoded)

pub EndsAt-same : (h : List ℕ) (i c d : ℕ) → EndsAt h i c → EndsAt h i d → c ≡ d
EndsAt-same h i c d p q =
    Encodes-same (slice_range h p.0 i) c d p.1.encoded (rw (EncodedFrom-from h i p.0 q.0 c d p.1 q.1) q.1.encoded)

-- the positions of a character that i is inside of
around : (h : List ℕ) (i : ℕ) (s : IsInside h i) → IsExtent h s.from s.to
around h i s = IsExtent-from h s.from s.to s.char s.encoded

-- inside a character none begins and none ends
pub IsInside-begins : (h : List ℕ) (i c : ℕ) → IsInside h i → BeginsAt h i c → ⊥
IsInside-begins h i c s b = (IsExtent-from h i b.0 c b.1).head ((around h i s).rest i s.after_first s.before_last)

pub IsInside-ends : (h : List ℕ) (i c : ℕ) → IsInside h i → EndsAt h i c → ⊥
IsInside-ends h i c s b =
    let a = around h i s in
    let p = IsExtent-from h b.0 i c b.1 in
    let before : b.0 < s.from → ⊥ = λ l. a.head (p.rest s.from l s.after_first) in
    let after : s.from < b.0 → ⊥ = λ l. p.head (a.rest b.0 l (omega arith)) in
    let same : b.0 ≡ s.from = grind arith in
    let size : i ≡ s.from + lead_len (get_or h s.from 0) = p.size ∙ ap (λ x. x + lead_len (get_or h x 0)) same in
    omega arith

-- two lists of bytes that differ at most in bytes below 128
pub record AgreePastAscii (h k : List ℕ) : Type 0 where
  pub same_length : length h ≡ length k
  pub each : (i : ℕ) → i < length h → (get_or h i 0 ≡ get_or k i 0) ⊎ ((get_or h i 0 < 128) × (get_or k i 0 < 128))

pub slice_one : (k : List ℕ) (i j : ℕ) → j ≡ i + 1 → i < length k → slice_range k i j ≡ get_or k i 0 ∷ []
slice_one k i j one w =
    let e : j - i ≡ 1 = omega arith in
    ap (λ n. take n (drop i k)) e ∙ ap (λ (x : List ℕ). take 1 x) (drop-cons k i 0 w)

one_byte : (k : List ℕ) (i j : ℕ) → j ≡ i + 1 → i < length k → get_or k i 0 < 128 → Encodes (slice_range k i j) (get_or k i 0)
one_byte k i j one w low = subst (λ (x : List ℕ). Encodes x (get_or k i 0)) (sym (slice_one k i j one w)) (omega arith, refl)

same_slice : (h k : List ℕ) (i j : ℕ) → AgreePastAscii h k → IsExtent h i j → length (slice_range h i j) ≡ j - i
    → length (slice_range k i j) ≡ j - i
    → 128 ≤ get_or h i 0 → slice_range h i j ≡ slice_range k i j
same_slice h k i j s p l lk big =
    ext_get_or 0 (slice_range h i j) (slice_range k i j) (l ∙ sym lk)
    (λ n q.
    let here : n < j - i = omega arith in
    let high : 128 ≤ get_or h (i + n) 0 =
    ⊎_elim (λ (z : n < 1). let e : i ≡ i + n = omega arith in rw e at big) (λ (z : 1 ≤ n). (p.rest (i + n) (omega arith) (omega arith)).0)
    (cases_lt n 1) in
    let same : get_or h (i + n) 0 ≡ get_or k (i + n) 0 =
    ⊎_elim (λ e. e) (λ low. absurd (omega (arith, low.0))) (s.each (i + n) (omega (arith, p.within))) in
    get_or-slice h i j n here ∙ same ∙ sym (get_or-slice k i j n here))

-- such lists have the same characters past ASCII at the same positions, and one-byte characters at the same positions
pub EncodedFrom-agree : (h k : List ℕ) (i j c : ℕ) → AgreePastAscii h k → EncodedFrom h i j c
    → (EncodedFrom k i j c × (128 ≤ c)) ⊎ ((j ≡ i + 1) × (c ≡ get_or h i 0) × (c < 128) × (get_or k i 0 < 128) × EncodedFrom k i j
    (get_or k i 0))
EncodedFrom-agree h k i j c s e =
    let p = IsExtent-from h i j c e in
    let within : j ≤ length k = omega (arith, e.within, s.same_length) in
    let l : length (slice_range h i j) ≡ j - i = length-slice h i j e.ordered e.within in
    let lk : length (slice_range k i j) ≡ j - i = length-slice k i j e.ordered within in
    let first = first_of_part h i j (omega (arith, p.some)) in
    ⊎_elim
    (λ t.
    let here : c ≡ get_or h i 0 = sym t.1 ∙ first in
    let one : j ≡ i + 1 = omega (arith, t.0) in
    let low : get_or k i 0 < 128 = ⊎_elim (λ q. omega (arith, q, here, t.2)) (λ q. q.1) (s.each i (omega (arith, p.some, p.within))) in
    inr (one, here, t.2, low, record { ordered = e.ordered; within = within; encoded = one_byte k i j one (omega arith) low }))
    (λ t. inl (
      record { ordered = e.ordered; within = within; encoded = rw (same_slice h k i j s p l lk (rw first at t.1)) at e.encoded },
      t.0,
    ))
    (Encodes-size (slice_range h i j) c e.encoded)

-- the number is that of a character, and the character has as many bytes as std says
pub IsScalar-Encodes : (e : List ℕ) (n : ℕ) → Encodes e n → IsScalar n
IsScalar-Encodes (a ∷ b ∷ c ∷ d ∷ []) n h = grind (arith, nat_tests)
IsScalar-Encodes _ n h = grind (arith, nat_tests)

pub length-Encodes-len_utf8 : (e : List ℕ) (n : ℕ) → Encodes e n → length e ≡ len_utf8 n
length-Encodes-len_utf8 (a ∷ b ∷ c ∷ d ∷ []) n h = grind (arith, nat_tests)
length-Encodes-len_utf8 _ n h = grind (arith, nat_tests)

-- ---- the encodings beside std's, and beside one another

-- what std writes for a character encodes it
pub Encodes-encode : (c : ℕ) → IsScalar c → Encodes (encode_utf8 c) c
unfolding encode_utf8
Encodes-encode c s = grind (arith, nat_tests)

-- the bytes of a character are the encoding that std writes
pub Encodes-is : (e : List ℕ) (c : ℕ) → Encodes e c → e ≡ encode_utf8 c
unfolding encode_utf8
Encodes-is (a ∷ b ∷ x ∷ y ∷ []) c p = grind (arith, nat_tests)
Encodes-is _ c p = grind (arith, nat_tests)

pub Encodes-std : (e : List ℕ) (c : ℕ) → Encodes e c ↔ (IsScalar c × (e ≡ encode_utf8 c))
Encodes-std e c =
    (λ p. (IsScalar-Encodes e c p, Encodes-is e c p), λ q. subst (λ (y : List ℕ). Encodes y c) (sym q.1) (Encodes-encode c q.0))

pub all_scalars-EncodesAll : (h cs : List ℕ) → EncodesAll h cs → (all_scalars cs ≡ true) × (h ≡ encode_utf8_all cs)
all_scalars-EncodesAll h [] p = (refl, p)
all_scalars-EncodesAll h (c ∷ cs) p =
    let one = (Encodes-std p.0 c).0 p.3 in let more = all_scalars-EncodesAll p.1 cs p.4 in
    (rw (one.0, more.0) refl, p.2 ∙ rw (one.1, more.1) refl)

pub EncodesAll-encode : (cs : List ℕ) → all_scalars cs ≡ true → EncodesAll (encode_utf8_all cs) cs
EncodesAll-encode [] s = refl
EncodesAll-encode (c ∷ cs) s =
    (encode_utf8 c, encode_utf8_all cs, refl, Encodes-encode c (and_parts _ _ s).0, EncodesAll-encode cs (and_parts _ _ s).1)

pub EncodesAll-std : (h cs : List ℕ) → EncodesAll h cs ↔ ((all_scalars cs ≡ true) × (h ≡ encode_utf8_all cs))
EncodesAll-std h cs =
    (all_scalars-EncodesAll h cs, λ q. subst (λ (y : List ℕ). EncodesAll y cs) (sym q.1) (EncodesAll-encode cs q.0))

none : (l : List ℕ) → length l ≡ 0 → l ≡ []
none [] e = refl
none (x ∷ xs) e = absurd (omega arith)

-- the first byte says how long an encoding is
pub Encodes-no_more : (e rest : List ℕ) (c d : ℕ) → Encodes e c → Encodes (e ++ rest) d → rest ≡ []
Encodes-no_more [] rest c d p q = absurd p
Encodes-no_more (a ∷ r) rest c d p q =
    none rest (omega (arith, length-Encodes (a ∷ r) c p, length-Encodes ((a ∷ r) ++ rest) d q, length-append r rest))

pub Encodes-past_ascii : (e : List ℕ) (c k : ℕ) → Encodes e c → 2 ≤ length e → k < length e → 128 ≤ get_or e k 0
Encodes-past_ascii (a ∷ b ∷ x ∷ y ∷ []) c (suc (suc (suc zero))) p two l = grind arith
Encodes-past_ascii _ c k p two l = grind arith

-- ---- where the characters of a text are in its bytes

-- where the first k characters end
abbrev pub position : List ℕ → ℕ → ℕ
position cs k = length (encode_utf8_all (take k cs))

slice_with_prefix : (e t : List ℕ) (i j : ℕ) → slice_range (e ++ t) (length e + i) (length e + j) ≡ slice_range t i j
slice_with_prefix e t i j =
    let d : drop (length e + i) (e ++ t) ≡ drop i t = sym (drop-drop i (length e) (e ++ t)) ∙ ap (drop i) (drop_at e t (length e) refl) in
    let n : (length e + j) - (length e + i) ≡ j - i = omega arith in
    ap (λ m. take m (drop (length e + i) (e ++ t))) n ∙ ap (take (j - i)) d

pub with_prefix : (e t : List ℕ) (i j c : ℕ) → EncodedFrom t i j c → EncodedFrom (e ++ t) (length e + i) (length e + j) c
with_prefix e t i j c p = let o = p.ordered in let w = p.within in
    record {
      ordered = omega arith;
      within = simp length-append (omega arith);
      encoded =
          subst (λ (x : List ℕ). Encodes x c) (sym (slice_with_prefix e t i j)) p.encoded;
    }

pub with_suffix : (e t : List ℕ) (c : ℕ) → Encodes e c → EncodedFrom (e ++ t) 0 (length e) c
with_suffix e t c p = record {
  ordered = omega arith;
  within = simp length-append (omega arith);
  encoded = subst (λ (x : List ℕ). Encodes x c) (sym front) p;
}
  where
    front : slice_range (e ++ t) 0 (length e) ≡ e
    front = ap (λ m. take m (e ++ t)) (omega arith) ∙ take_at e t (length e) refl

pub EncodedFrom-position : (cs : List ℕ) (k : ℕ) → all_scalars cs ≡ true → k < length cs
    → EncodedFrom (encode_utf8_all cs) (position cs k) (position cs (suc k)) (get_or cs k 0)
EncodedFrom-position [] k s l = absurd (omega arith)
EncodedFrom-position (c ∷ cs) zero s l =
    subst (λ n. EncodedFrom (encode_utf8_all (c ∷ cs)) 0 n c) (ap length (sym (append-nil (encode_utf8 c))))
    (with_suffix (encode_utf8 c) (encode_utf8_all cs) c (Encodes-encode c (and_parts _ _ s).0))
EncodedFrom-position (c ∷ cs) (suc k) s l =
    let r = EncodedFrom-position cs k (and_parts _ _ s).1 (omega arith) in
    let p : length (encode_utf8 c) + position cs k ≡ position (c ∷ cs) (suc k) = sym (length-append (encode_utf8 c) (encode_utf8_all (take k cs))) in
    let q : length (encode_utf8 c) + position cs (suc k) ≡ position (c ∷ cs) (suc (suc k)) =
    sym (length-append (encode_utf8 c) (encode_utf8_all (take (suc k) cs))) in
    rw (← p, ← q) (with_prefix (encode_utf8 c) (encode_utf8_all cs) (position cs k) (position cs (suc k)) (get_or cs k 0) r)

pub BeginsAt-position : (cs : List ℕ) (k : ℕ) → all_scalars cs ≡ true → k < length cs
    → BeginsAt (encode_utf8_all cs) (position cs k) (get_or cs k 0)
BeginsAt-position cs k s l = (position cs (suc k), EncodedFrom-position cs k s l)

pub EndsAt-position : (cs : List ℕ) (k : ℕ) → all_scalars cs ≡ true → k < length cs
    → EndsAt (encode_utf8_all cs) (position cs (suc k)) (get_or cs k 0)
EndsAt-position cs k s l = (position cs k, EncodedFrom-position cs k s l)
